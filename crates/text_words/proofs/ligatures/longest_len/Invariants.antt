use Rattle.std.proofs.Common.{◌≡◌, ◌≤◌, length, take}
use Rattle.text_words.specs.Ligatures.{longest_len}
use Rattle.text_words.proofs.ligatures.longest_len.Given as goal

abbrev pub invariant-loop-name : goal.invariant-loop-name
invariant-loop-name l = record {
  value : l.longest ≡ longest_len (take l.name-index l.ligatures) l.text;
  within : l.longest ≤ length l.text;
}
