use Rattle.std.proofs.Common.{◌≡◌, ◌<◌, ◌≤◌, ◌+◌, ℕ}
use Rattle.std.specs.Prelude.{◌==◌, ◌&&◌}
use Rattle.std.specs.Int.{bit_at}
use Rattle.protocol.specs.Limits.{is_number}
use Rattle.gone_out.specs.Numbers.{has}
use Rattle.rolls.proofs.votes.byte_of.Given as goal

abbrev pub invariant-loop-k : goal.invariant-loop-k
invariant-loop-k l = record {
  done : (j : ℕ) → j < l.k → (bit_at l.byte j == 1) ≡ (is_number (l.first + j) && has l.numbers (l.first + j));
  left : (j : ℕ) → l.k ≤ j → bit_at l.byte j ≡ 0;
}
