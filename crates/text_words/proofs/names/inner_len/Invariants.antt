use Rattle.std.proofs.Common.{◌≡◌, ◌+◌, drop}
use Rattle.text_words.specs.Words.{inner_len}
use Rattle.text_words.proofs.names.inner_len.Given as goal

abbrev pub invariant-loop-i : goal.invariant-loop-i
invariant-loop-i l = l.i + inner_len (drop l.i l.text) ≡ inner_len l.text
