-- Votes stay: who ever voted has a vote, and what was voted at some moment was voted at each later one.
use Rattle.std.proofs.Common.{◌≡◌, ℕ, inr, refl, ap, true, Option, Some, None}
use Rattle.std.specs.Prelude.{is_some}
use Rattle.protocol.specs.Ballots.{Ballot}
use Rattle.protocol.specs.Entries.{Entry}
use Rattle.protocol.specs.Rows.{Vote}
use Rattle.protocol.specs.Circuit.{Circuit, State, History}
use Rattle.protocol.specs.Agreement.{WasVoted}
use Rattle.protocol_laws.proofs.Steps.{history_sound}
use Rattle.roll_laws.specs.Votes.{has_vote, is_same, and_on, GoesOnTo, VotesStay, WhoVotedHasAVote}

pub some_is : {A : Type 0} {x : A} (o : Option A) → o ≡ Some x → is_some o ≡ true
some_is o e = ap is_some e

pub is_some_of : {A : Type 0} (o : Option A) → is_some o ≡ true → (x : A) × (o ≡ Some x)
is_some_of None e = cc
is_some_of (Some x) e = (x, refl)

pub who_voted_has_a_vote : {D G F : Type 0} → WhoVotedHasAVote D G F
who_voted_has_a_vote z w h m n b t v = let k = (history_sound h).sound.last m n b t v in some_is (w.rows m n).vote k.1

-- who has a vote voted for it
pub who_has_a_vote_voted :
    {D G F : Type 0} {z : Circuit D G F} {w : State G F} (h : History z w) (m n : ℕ) → has_vote w m n ≡ true
    → (v : Vote) × WasVoted h m n v.ballot v.entry
who_has_a_vote_voted {w = w} h m n e = let (v, f) = is_some_of (w.rows m n).vote e in (v, (history_sound h).sound.kept m n v f)

-- what was voted stays voted
pub voted_stays :
    {D G F : Type 0} {z : Circuit D G F} {w : State G F} {h : History z w} {v : State G F} {k : History z v} → GoesOnTo h k
    → (m n : ℕ) (b : Ballot) (t : Entry) → WasVoted h m n b t → WasVoted k m n b t
voted_stays is_same m n b t x = x
voted_stays (and_on g s o st) m n b t x = inr (voted_stays g m n b t x)

pub votes_stay : {D G F : Type 0} → VotesStay D G F
votes_stay z w v h k g m n e =
    let (x, voted) = who_has_a_vote_voted h m n e in who_voted_has_a_vote z v k m n x.ballot x.entry (voted_stays g m n x.ballot x.entry voted)
