-- What is new where a number is chosen of which a search found nothing.
use Rattle.std.specs.Prelude.{◌≡◌, ℕ, Option, Some, None, Bool, true, false}
use Rattle.protocol.specs.Lists.{IsAmong}
use Rattle.protocol.specs.Ballots.{Ballot, IsAtMost, IsNoneOrBelow, IsMember, Majority}
use Rattle.protocol.specs.Entries.{Entry}
use Rattle.protocol.specs.Rows.{Vote}
use Rattle.protocol.specs.Marks.{Began}
use Rattle.protocol.specs.Turn.{Event, number_of, Note_nothing}
use Rattle.protocol.specs.Refusals.{Call, event_of}
use Rattle.protocol.specs.Circuit.{Circuit, State, Step, Outcome, Done, IsTask, setup_of, StepsTo, History}
use Rattle.protocol.specs.Agreement.{WasPromised, IsChosen}
use Rattle.roll_laws.specs.Votes.{has_vote, GoesOnTo}

-- ballot b of n is yet to be begun: its owner has promised nothing for n, or less than b
abbrev pub IsAhead : {G F : Type 0} → State G F → ℕ → Ballot → Type 0
IsAhead w n b = IsNoneOrBelow (w.rows b.owner n).promised b

-- m reported at b that it has no vote of n: in a Promise that was sent, or as the owner of b, in the mark of its beginning
pub data ReportedNone {D G F : Type 0} (z : Circuit D G F) (w : State G F) (n : ℕ) (b : Ballot) (m : ℕ) : Type 0 where
  in_promise : WasPromised z w m n b None → ReportedNone z w n b m
  as_owner : (own : Option Entry) (now : ℕ) → m ≡ b.owner → IsAmong (w.marks m) (Began n b own None now) → ReportedNone z w n b m

-- a member that had no vote of n at first and has one now, so that it is not among those that were known at first to have one
pub record NewVoter {D G F : Type 0} (z : Circuit D G F) (first now : State G F) (n : ℕ) (known : ℕ → Bool) : Type 0 where
  pub member : ℕ
  pub is_member : IsMember z.count member
  pub had_none : has_vote first member n ≡ false
  pub has_one : has_vote now member n ≡ true
  pub is_new : known member ≡ false

-- wherever n is chosen later, some member has a vote of it that is not among those that were known at first to have one
abbrev pub ChoicesAreNews : {D G F : Type 0} {z : Circuit D G F} {first : State G F} → History z first → ℕ → Type 0
ChoicesAreNews {G = G} {F = F} {z = z} {first = first} h n =
    (now : State G F) (l : History z now) (t : Entry) → GoesOnTo h l → IsChosen l n t
    → (known : ℕ → Bool) → ((m : ℕ) → known m ≡ true → has_vote first m n ≡ true)
    → NewVoter z first now n known

-- it is so where ballot b of n was yet to be begun at first, and a majority then reported no vote at b
abbrev pub ChoicesHaveNewVoters : (D G F : Type 0) → Type 0
ChoicesHaveNewVoters D G F =
    (z : Circuit D G F) (first found : State G F) (h : History z first) (k : History z found) → GoesOnTo h k
    → (n : ℕ) (b : Ballot) → IsAhead first n b → Majority z.count (ReportedNone z found n b) → ChoicesAreNews h n

-- a step that begins a ballot of n at some member finds it yet to be begun
abbrev pub BegunWereAhead : (D G F : Type 0) → Type 0
BegunWereAhead D G F =
    (z : Circuit D G F) (w after : State G F) (s : Step) (o : Outcome D F) → StepsTo z w s o after
    → (m n : ℕ) (b : Ballot) (own : Option Entry) (report : Option Vote) (now : ℕ)
    → IsAmong (after.marks m) (Began n b own report now) → ¬ IsAmong (w.marks m) (Began n b own report now) → IsAhead w n b

-- what the step asks of a member is an event of n
pub record IsAbout {D G F : Type 0} (z : Circuit D G F) (w : State G F) (s : Step) (n : ℕ) : Type 0 where
  pub member : ℕ
  pub call : Call
  pub event : Event
  pub is_task : IsTask w.sent s member call
  pub is_event : event_of (setup_of z (w.version member) member) (w.marks member) call ≡ Some event
  pub number : number_of event ≡ n

-- a step about n notes that its ballot b found nothing
pub record FindsNothing {D G F : Type 0} (z : Circuit D G F) (w : State G F) (n : ℕ) (b : Ballot) (after : State G F) : Type 0 where
  pub step : Step
  pub is_about : IsAbout z w step n
  pub leads : StepsTo z w step (Done (Note_nothing b)) after

-- where a ballot of n found nothing, a majority reported at it that it has no vote of n
abbrev pub NothingIsReported : (D G F : Type 0) → Type 0
NothingIsReported D G F =
    (z : Circuit D G F) (w after : State G F) → History z w → (n : ℕ) (b : Ballot) → FindsNothing z w n b after
    → Majority z.count (ReportedNone z after n b)

-- so it is, too, where ballot b was yet to be begun at first, and then found nothing
abbrev pub SearchesLeaveNews : (D G F : Type 0) → Type 0
SearchesLeaveNews D G F =
    (z : Circuit D G F) (first w after : State G F) (h : History z first) (k : History z w) → GoesOnTo h k
    → (n : ℕ) (b : Ballot) → IsAhead first n b → FindsNothing z w n b after → ChoicesAreNews h n

-- m has a vote of n at b or above
abbrev pub HasVoteFrom : {G F : Type 0} → State G F → ℕ → Ballot → ℕ → Type 0
HasVoteFrom w n b m = (v : Vote) × ((w.rows m n).vote ≡ Some v) × IsAtMost b v.ballot

-- where n is chosen later than a majority reported no vote at b, each member of a majority has a vote of n at b or above
abbrev pub LaterChoicesAreAbove : (D G F : Type 0) → Type 0
LaterChoicesAreAbove D G F =
    (z : Circuit D G F) (found now : State G F) (k : History z found) (l : History z now) → GoesOnTo k l
    → (n : ℕ) (b : Ballot) → Majority z.count (ReportedNone z found n b)
    → (t : Entry) → IsChosen l n t → Majority z.count (HasVoteFrom now n b)
