-- What the answers of a proposal's calls say of the marks, and the marks after them.
use Rattle.std.specs.Prelude.{◌≡◌, ℕ, List, ◌∷◌, Option, Some, None, Bool, true, false, MatchBool, if◌then◌else◌, option_map}
use Rattle.std.specs.Bool.{OnFalse}
use Rattle.protocol.specs.Ballots.{Ballot, IsNoneOrBelow, is_majority, next}
use Rattle.protocol.specs.Entries.{Entry}
use Rattle.protocol.specs.Rows.{Vote, Row}
use Rattle.protocol.specs.Marks.{Mark, Began, Promised, Proposed, Denied}
use Rattle.protocol.specs.Proposals.{Opening, was_released, open_proposal, proposal_at, gathering_at, since_began, counted, is_counted, pick, due_moment, is_due}
use Rattle.protocol.specs.Turn.{next_ballot}
use Rattle.protocol.specs.Seats.{Seat}
use Rattle.tape_frames.specs.Entries.{owned_entry}
use Rattle.proposer.specs.InHand.{InHand, StandsFor, IsOfTheSame}
use Rattle.proposer.specs.declared.proposal.Beginning.{Beginning}
use Rattle.proposer.specs.declared.answer.Counted.{Counted}
use Rattle.proposer.specs.declared.answer.Counted.TheVariants as kinds
use Rattle.proposer.specs.declared.answer.DueAnswer.{DueAnswer}
use Rattle.proposer.specs.declared.answer.DueAnswer.TheVariants as answers

-- a proposal of n gathers promises at b, and the member is not counted
pub record IsNew (me n : ℕ) (b : Ballot) (from : ℕ) (marks : List Mark) : Type 0 where
  pub opening : Opening
  pub gathers : gathering_at n b marks ≡ Some opening
  pub is_new : is_counted (counted me n opening (since_began n marks)) from ≡ false

-- a proposal of n gathers promises at b, and the member is counted
pub record IsRepeated (me n : ℕ) (b : Ballot) (from : ℕ) (marks : List Mark) : Type 0 where
  pub opening : Opening
  pub gathers : gathering_at n b marks ≡ Some opening
  pub is_repeated : is_counted (counted me n opening (since_began n marks)) from ≡ true

-- those counted are a majority of the c, once this promise is counted
abbrev pub completes : ℕ → ℕ → ℕ → Ballot → ℕ → Option Vote → List Mark → Opening → Bool
completes c me n b from report marks p = is_majority c (is_counted (counted me n p (Promised n from b report ∷ since_began n marks)))

-- what became of the promise of a member for n at b, with this report
abbrev pub IsCountedAs : Counted → ℕ → ℕ → ℕ → Ballot → ℕ → Option Vote → List Mark → Type 0
IsCountedAs kinds.Stale c me n b from report marks = gathering_at n b marks ≡ None
IsCountedAs kinds.Repeated c me n b from report marks = IsRepeated me n b from marks
IsCountedAs kinds.More c me n b from report marks = (p : IsNew me n b from marks) × (completes c me n b from report marks p.opening ≡ false)
IsCountedAs kinds.Quorum c me n b from report marks = (p : IsNew me n b from marks) × (completes c me n b from report marks p.opening ≡ true)

-- the marks after it
abbrev pub marks_after_promise : Counted → ℕ → ℕ → Ballot → Option Vote → List Mark → List Mark
marks_after_promise kinds.Stale n from b report marks = marks
marks_after_promise kinds.Repeated n from b report marks = marks
marks_after_promise kinds.More n from b report marks = Promised n from b report ∷ marks
marks_after_promise kinds.Quorum n from b report marks = Promised n from b report ∷ marks

-- what an open proposal does at a moment, with this row saved
abbrev pub IsDueAnswer : DueAnswer → ℕ → ℕ → ℕ → Opening → List Mark → Row → Type 0
IsDueAnswer answers.Wait me n now p marks row = is_due me n now (since_began n marks) (Some p) ≡ false
IsDueAnswer answers.GaveUp me n now p marks row = (is_due me n now (since_began n marks) (Some p) ≡ true) × (next_ballot me n marks row ≡ None)
IsDueAnswer (answers.Began b) me n now p marks row = (is_due me n now (since_began n marks) (Some p) ≡ true) × (next_ballot me n marks row ≡ Some b)

-- the marks after it
abbrev pub marks_after_due : DueAnswer → ℕ → Option Entry → Option Vote → ℕ → List Mark → List Mark
marks_after_due answers.Wait n own report now marks = marks
marks_after_due answers.GaveUp n own report now marks = marks
marks_after_due (answers.Began b) n own report now marks = Began n b own report now ∷ marks

-- a promise that isn't counted leaves the proposal as it was
abbrev pub StaysWhereUncounted : Counted → InHand → InHand → Type 0
StaysWhereUncounted kinds.Stale old new = new ≡ old
StaysWhereUncounted kinds.Repeated old new = new ≡ old
StaysWhereUncounted kinds.More old new = Unit {0}
StaysWhereUncounted kinds.Quorum old new = Unit {0}

-- so does a moment at which no ballot is begun
abbrev pub StaysWhereNotBegun : DueAnswer → InHand → InHand → Type 0
StaysWhereNotBegun answers.Wait old new = new ≡ old
StaysWhereNotBegun answers.GaveUp old new = new ≡ old
StaysWhereNotBegun (answers.Began b) old new = Unit {0}

-- a ballot that is begun is the member's own, and above the saved promise
abbrev pub IsOwnAndAbove : DueAnswer → ℕ → Option Ballot → Type 0
IsOwnAndAbove answers.Wait me promised = Unit {0}
IsOwnAndAbove answers.GaveUp me promised = Unit {0}
IsOwnAndAbove (answers.Began b) me promised = (b.owner ≡ me) × IsNoneOrBelow promised b

-- a proposal that was begun, with this own entry and this report: it stands for n where n was not released and no proposal of n is open
abbrev pub StandsAsBegun : InHand → Option Entry → Option Vote → ℕ → Type 0
StandsAsBegun q own report now =
    (n : ℕ) (marks : List Mark) → was_released n marks ≡ false → open_proposal n marks ≡ None
    → StandsFor q n (Began n q.ballot own report now ∷ marks)

-- it is told whether a proposal of n gathers promises at b
abbrev pub TellsGathering : Bool → Ballot → InHand → Type 0
TellsGathering result b q =
    (n : ℕ) (marks : List Mark) → StandsFor q n marks
    → MatchBool result ((p : Opening) × (gathering_at n b marks ≡ Some p)) (gathering_at n b marks ≡ None)

-- it is told whether the proposal of n is at b
abbrev pub TellsProposal : Bool → Ballot → InHand → Type 0
TellsProposal result b q =
    (n : ℕ) (marks : List Mark) → StandsFor q n marks
    → MatchBool result ((p : Opening) × (proposal_at n b marks ≡ Some p)) (proposal_at n b marks ≡ None)

-- it is told what became of the promise of a member at b, with this report
abbrev pub TellsCounting : Counted → ℕ → Ballot → Option Vote → InHand → Type 0
TellsCounting kind from b report q =
    (n : ℕ) (marks : List Mark) → StandsFor q n marks → IsCountedAs kind q.members q.me n b from report marks

-- after a promise the proposal stands for the marks after it
abbrev pub StandsAfterPromise : Counted → ℕ → Ballot → Option Vote → InHand → InHand → Type 0
StandsAfterPromise kind from b report old new =
    (n : ℕ) (marks : List Mark) → StandsFor old n marks → StandsFor new n (marks_after_promise kind n from b report marks)

-- after a Nack the proposal stands for the marks with this promise, where it was denied at all
abbrev pub StandsAfterNack : Bool → Ballot → InHand → InHand → Type 0
StandsAfterNack result promised old new =
    (n : ℕ) (marks : List Mark) → StandsFor old n marks → StandsFor new n (if result then Denied n promised ∷ marks else marks)

-- the entry is what the open proposal of n picks
abbrev pub IsPicked : Option Entry → InHand → Type 0
IsPicked entry q =
    (n : ℕ) (marks : List Mark) (p : Opening) → StandsFor q n marks → open_proposal n marks ≡ Some p
    → entry ≡ pick p.own (counted q.me n p (since_began n marks))

-- the moment is the due moment of the open proposal of n
abbrev pub IsDueMoment : ℕ → InHand → Type 0
IsDueMoment moment q =
    (n : ℕ) (marks : List Mark) (p : Opening) → StandsFor q n marks → open_proposal n marks ≡ Some p
    → moment ≡ due_moment q.me n p (since_began n marks)

-- it is told what the open proposal of n does at a moment, where this is the saved promise
abbrev pub TellsWhatIsDue : DueAnswer → Option Ballot → ℕ → InHand → Type 0
TellsWhatIsDue answer promised now q =
    (n : ℕ) (marks : List Mark) (p : Opening) (row : Row) → StandsFor q n marks → open_proposal n marks ≡ Some p
    → row.promised ≡ promised → IsDueAnswer answer q.me n now p marks row

-- after that moment the proposal stands for the marks after it, with this report where it began anew
abbrev pub StandsAfterDue : DueAnswer → Option Vote → ℕ → InHand → InHand → Type 0
StandsAfterDue answer report now old new =
    (n : ℕ) (marks : List Mark) → StandsFor old n marks → StandsFor new n (marks_after_due answer n old.own report now marks)

-- a proposal that a seat began with this: it is at the next ballot above the one that was seen
pub record IsBegun (s : Seat) (first : Beginning) (new : InHand) : Type 0 where
  pub ballot : next first.seen s.me ≡ Some new.ballot
  pub stands : StandsAsBegun new (option_map owned_entry first.own) first.report first.now
  pub me : new.me ≡ s.me
  pub members : new.members ≡ s.members

-- a promise of a member at b was taken, with this report
pub record CountsPromise (counts : Counted) (from : ℕ) (b : Ballot) (report : Option Vote) (old new : InHand) : Type 0 where
  pub kind : TellsCounting counts from b report old
  pub stands : StandsAfterPromise counts from b report old new
  pub stays : StaysWhereUncounted counts old new
  pub circuit : IsOfTheSame old new

-- memory was refused to a promise of a member at b: it is to be counted, and the proposal is as before
pub record RefusesPromise (from : ℕ) (b : Ballot) (old new : InHand) : Type 0 where
  pub same : new ≡ old
  pub is_new : (n : ℕ) (marks : List Mark) → StandsFor old n marks → IsNew old.me n b from marks

-- a Nack of b with this promise was taken: it is kept where the proposal is at b
pub record KeepsNack (is_kept : Bool) (b promised : Ballot) (old new : InHand) : Type 0 where
  pub kept : TellsProposal is_kept b old
  pub stands : StandsAfterNack is_kept promised old new
  pub stays : OnFalse is_kept (new ≡ old)
  pub circuit : IsOfTheSame old new

-- the proposal's entry was proposed at this moment
pub record IsProposed (now : ℕ) (old new : InHand) : Type 0 where
  pub stands : (n : ℕ) (marks : List Mark) → StandsFor old n marks → StandsFor new n (Proposed n old.ballot now ∷ marks)
  pub circuit : IsOfTheSame old new

-- it was seen to what is due at a moment, where this is the saved promise, with this report where a ballot is begun
pub record SeesToDue (does : DueAnswer) (promised : Option Ballot) (report : Option Vote) (now : ℕ) (old new : InHand) : Type 0 where
  pub answer : TellsWhatIsDue does promised now old
  pub stands : StandsAfterDue does report now old new
  pub ballot : IsOwnAndAbove does old.me promised
  pub stays : StaysWhereNotBegun does old new
  pub circuit : IsOfTheSame old new
