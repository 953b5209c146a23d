-- Which members have a vote of a number, and which states come later in a history.
use Rattle.std.specs.Prelude.{◌≡◌, ℕ, Bool, true, is_some}
use Rattle.protocol.specs.Ballots.{Ballot}
use Rattle.protocol.specs.Entries.{Entry}
use Rattle.protocol.specs.Circuit.{Circuit, State, Step, Outcome, StepsTo, History, goes_on}
use Rattle.protocol.specs.Agreement.{WasVoted}

-- member m has a vote of n: its row of n has one
abbrev pub has_vote : {G F : Type 0} → State G F → ℕ → ℕ → Bool
has_vote w m n = is_some (w.rows m n).vote

-- the history is h, or h with steps added
pub data Continues {D G F : Type 0} {z : Circuit D G F} {w : State G F} (h : History z w) : (v : State G F) → History z v → Type 0 where
  is_same : Continues h w h
  and_on :
      {v after : State G F} {k : History z v} → Continues h v k → (s : Step) → (o : Outcome D F) → (st : StepsTo z v s o after)
      → Continues h after (goes_on k s o st)

-- the first history goes on to the second
abbrev pub GoesOnTo : {D G F : Type 0} {z : Circuit D G F} {w v : State G F} → History z w → History z v → Type 0
GoesOnTo {v = v} h k = Continues h v k

-- who has a vote of a number has one in every later state
abbrev pub VotesStay : (D G F : Type 0) → Type 0
VotesStay D G F =
    (z : Circuit D G F) (w v : State G F) (h : History z w) (k : History z v) → GoesOnTo h k
    → (m n : ℕ) → has_vote w m n ≡ true → has_vote v m n ≡ true

-- who ever voted for a number has a vote of it
abbrev pub WhoVotedHasAVote : (D G F : Type 0) → Type 0
WhoVotedHasAVote D G F =
    (z : Circuit D G F) (w : State G F) (h : History z w) (m n : ℕ) (b : Ballot) (t : Entry) → WasVoted h m n b t → has_vote w m n ≡ true
