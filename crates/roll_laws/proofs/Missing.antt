-- A majority that told a page misses no number that was chosen before: it shares a member with the majority that voted.
use Rattle.std.proofs.Common.{◌≡◌, ℕ, refl, ◌∙◌, Bool, true}
use Rattle.std.specs.Prelude.{◌==◌, ◌&&◌}
use Rattle.std.proofs.lemmas.Bool.{eq-eqb}
use Rattle.protocol.specs.Ballots.{IsMember, Majority}
use Rattle.protocol_laws.proofs.Majorities.{shared}
use Rattle.roll_laws.specs.Votes.{has_vote}
use Rattle.roll_laws.specs.Rolls.{page_of, RollsMissNothing, VotesAreToldFromThenOn}
use Rattle.roll_laws.proofs.Voting.{votes_stay, who_voted_has_a_vote}

-- the members of a majority, as a majority
its_members : {c : ℕ} {P : ℕ → Type 0} (a : Majority c P) → Majority c (λ m. IsMember c m × (a.has m ≡ true))
its_members a = record { has = a.has; many = a.many; each = λ m i h. (i, h) }

-- a number of the page that has a vote is told
both : (n page : ℕ) (b : Bool) → page_of n ≡ page → b ≡ true → (page_of n == page) && b ≡ true
both n page b e f = rw (eq-eqb (page_of n) page e, f) refl

pub votes_are_told_from_then_on : {D G F : Type 0} → VotesAreToldFromThenOn D G F
votes_are_told_from_then_on z w v whole early page m telling g n on has =
    telling.is_just n ∙ both n page (has_vote telling.state m n) on (votes_stay z v telling.state early telling.moment g m n has)

pub rolls_miss_nothing : {D G F : Type 0} → RollsMissNothing D G F
rolls_miss_nothing z w whole page rolls v early before n t on (b, voters) =
    let (m, i, voted, (j, is)) = shared voters (its_members rolls) in
    record {
      member = m;
      is_member = j;
      is_teller = is;
      is_told = votes_are_told_from_then_on z w v whole early page m (rolls.each m j is) (before m j is) n on (who_voted_has_a_vote z v early m n b t voted);
    }
