-- What lines follow, they follow those so far.
use Rattle.std.proofs.Common.{◌≡◌, ◌≤◌, ◌+◌, ◌-◌, List, flat_map, string_bytes}
use Rattle.protocol.specs.Limits.{last_number}
use Rattle.by_hand.specs.declared.lines.HandLine.{HandLine}
use Rattle.by_hand.specs.Texts.{line_text}
use Rattle.by_hand.proofs.Joining.{Joins}
use Rattle.by_hand.proofs.lines.text_of.Given as goal

abbrev pub invariant-loop-first : goal.invariant-loop-first
invariant-loop-first l = record {
  lines : List HandLine;
  text : string_bytes l.text ≡ flat_map line_text lines;
  joins : Joins l.hand l.start lines;
  low : 1 ≤ l.start;
  high : l.start ≤ last_number + 1;
}

abbrev pub decreases-loop-first : goal.decreases-loop-first
decreases-loop-first l = last_number + 1 - l.start
