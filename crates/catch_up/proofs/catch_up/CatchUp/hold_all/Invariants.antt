-- The numbers of the page so far were told.
use Rattle.std.proofs.Common.{◌≡◌, ◌≤◌, ◌+◌, ◌*◌, ℕ, ◌&&◌, nat_lt}
use Rattle.protocol.specs.Limits.{last_number}
use Rattle.rolls.specs.Votes.{has_vote}
use Rattle.catch_up.specs.Held.{KeepsRest, paged, state_of}
use Rattle.catch_up.proofs.catch_up.CatchUp.hold_all.Given as goal

abbrev pub invariant-loop-place : goal.invariant-loop-place
invariant-loop-place l = record {
  numbers : (n : ℕ) → 1 ≤ n → n ≤ last_number → state_of l.self n ≡ paged l.initial.self (has_vote l.votes n && nat_lt n (l.first + l.place)) l.telling n;
  keeps : KeepsRest l.initial.self l.self;
}
