use Rattle.std.proofs.Common.{◌≡◌, ◌<◌, ◌+◌, ◌*◌, ℕ, length}
use Rattle.std.specs.Prelude.{◌&&◌}
use Rattle.protocol.specs.Limits.{is_number}
use Rattle.packets.specs.Grammar.{IsBytes}
use Rattle.gone_out.specs.Numbers.{has}
use Rattle.rolls.specs.Votes.{bit_of}
use Rattle.rolls.proofs.votes.bits_of.Given as goal

abbrev pub invariant-loop-at : goal.invariant-loop-at
invariant-loop-at l = record {
  many : length l.bytes.items ≡ l.at;
  small : IsBytes l.bytes.items;
  bits : (place : ℕ) → place < 8 * l.at → bit_of l.bytes.items place ≡ (is_number (l.first + place) && has l.numbers (l.first + place));
}
