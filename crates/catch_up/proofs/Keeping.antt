-- What stays of what is known of votes.
use Rattle.std.proofs.Common.{◌≡◌, ℕ, Option, Some, None, refl, sym, ap, ◌∙◌}
use Rattle.catch_up.specs.Asked as votes
use Rattle.rolls.specs.Rolls.{Body, CountsAsked, Counts, PageAsked, Page}
use Rattle.roll_call.specs.Answers.{turn_of}
use Rattle.roll_call.specs.RollCall.{RollCallValue, after}
use Rattle.catch_up.specs.Calls.{NoReply, SameVotes}
use Rattle.catch_up.specs.CatchUp.{CatchUpValue, KeepsOthers, NoneWaits}

-- whatever a member says, it is the same station's
pub after_own : (member asked : ℕ) (body : Body) (c : RollCallValue) → (after member asked body c).own ≡ c.own
after_own member asked CountsAsked c = refl
after_own member asked (Counts counts) c = refl
after_own member asked (PageAsked page) c = refl
after_own member asked (Page page bytes) c = refl

same_reply : (now : ℕ) (r s : Option RollCallValue) → SameVotes r s → NoReply now s → NoReply now r
same_reply now None s same none = tt
same_reply now (Some c) None same none = absurd same
same_reply now (Some c) (Some d) same none = ap (λ (x : RollCallValue). turn_of now x.answers) (sym same) ∙ none

-- where nobody waits after the plant's own doings, nobody did before
pub waited : (old new : CatchUpValue) (now : ℕ) → KeepsOthers old new → NoneWaits new now → NoneWaits old now
waited old new now keeps none =
    (ap (λ (c : CatchUpValue). votes.turn_of now c.asked) (sym keeps.rest) ∙ none.0, same_reply now old.rolls new.rolls keeps.votes none.1)
