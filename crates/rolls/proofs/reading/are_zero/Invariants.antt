use Rattle.std.proofs.Common.{◌≡◌}
use Rattle.std.specs.Prelude.{drop}
use Rattle.rolls.specs.Votes.{are_zero}
use Rattle.rolls.proofs.reading.are_zero.Given as goal

abbrev pub invariant-loop-byte : goal.invariant-loop-byte
invariant-loop-byte l = are_zero l.bytes ≡ are_zero (drop l.byte-index l.bytes)
