-- What becomes of a sink while its station takes steps, as a type that is one says it, and what has to hold of that.
use Rattle.std.specs.Prelude.{ℕ, List, [], ◌∷◌, ◌++◌, Result, Ok, Err, OnOk, OnErr, IfErr}
use Rattle.protocol.specs.Refusals.{Call, Offering, Seeking, Falling_due, Receiving, Recalling}
use Rattle.station.specs.declared.answer.Answer.{Answer}
use Rattle.refusals.specs.declared.refusal.StepRefusal.{StepRefusal}
use Rattle.command_ends.specs.Ends.{IsOfWriting}
use Rattle.command_ends.specs.declared.fault.Fault.{Fault}
use Rattle.driver.specs.Events.{Event, Aside, asked, aside, stored, took}

-- a search, what is due and what comes need nothing of a sink; an offer may
abbrev pub NeedsNothing : Call → Type 0
NeedsNothing (Offering n entry now) = ⊥
NeedsNothing (Seeking n now) = Unit {0}
NeedsNothing (Falling_due now) = Unit {0}
NeedsNothing (Receiving bytes now) = Unit {0}
NeedsNothing (Recalling n to) = Unit {0}

-- this became of it by the step of whichever call may have been answered so
abbrev pub ByAnswer : {S : Type 0} → (S → S → List Event → Type 0) → (S → Call → Type 0) → S → S → Answer → Type 0
ByAnswer fate may old new answer = (call : Call) → may old call → fate old new (took call (Ok answer) ∷ [])

-- this became of it once that step was stored
abbrev pub ByStored : {S : Type 0} → (S → S → List Event → Type 0) → (S → Call → Type 0) → S → S → Answer → Type 0
ByStored fate may old new answer = (call : Call) → may old call → fate old new (took call (Ok answer) ∷ stored (Ok tt) ∷ [])

-- up to this result a sink kept in mind what a step did: it lived through the step, or came as far with it, since it could not be written
pub record IsNoted {S : Type 0} (lived front : S → S → List Event → Type 0) (may : S → Call → Type 0) (old new : S) (answer : Answer)
    (result : Result (Unit {0}) Fault) : Type 0 where
  pub ok : OnOk result (ByAnswer lived may old new answer)
  pub err : OnErr result (ByAnswer front may old new answer)
  pub fault : IfErr result IsOfWriting

-- the same of a step that was stored, and what it released is taken
pub record IsTaken {S : Type 0} (lived front : S → S → List Event → Type 0) (may : S → Call → Type 0) (old new : S) (answer : Answer)
    (result : Result (Unit {0}) Fault) : Type 0 where
  pub ok : OnOk result (ByStored lived may old new answer)
  pub err : OnErr result (ByStored front may old new answer)
  pub fault : IfErr result IsOfWriting

-- what has to hold of what a sink lived through, and how far it came
pub record Fates {S : Type 0} (lived front : S → S → List Event → Type 0) (may : S → Call → Type 0) : Type 0 where
  -- where nothing happens it stays
  pub rests : (s : S) → lived s s []
  -- that the clock is asked is nothing to it
  pub clock : (s : S) (moment : ℕ) → lived s s (asked moment ∷ [])
  -- nor that what the station saved can't be stored; that it is stored a sink lives through only as it hands out what waits for it
  pub unstored : (s : S) (refusal : StepRefusal) → lived s s (stored (Err refusal) ∷ [])
  -- where what a step saved can't be stored, nothing of it gets there
  pub withheld : (s : S) (call : Call) (answer : Answer) (refusal : StepRefusal) → may s call → front s s (took call (Ok answer) ∷ stored (Err refusal) ∷ [])
  -- nor what passes beside the station's packets
  pub besides : (s : S) (what : Aside) → lived s s (aside what ∷ [])
  -- nor that the station refuses what it may be asked
  pub refuses : (s : S) (call : Call) (refusal : StepRefusal) → may s call → lived s s (took call (Err refusal) ∷ [])
  -- it lives through what happens one after the other
  pub joins : (a b c : S) (xs ys : List Event) → lived a b xs → lived b c ys → lived a c (xs ++ ys)
  -- what it lived through it also came as far with, and so it does behind what it lived through
  pub begins : (a b : S) (xs : List Event) → lived a b xs → front a b xs
  pub joins_front : (a b c : S) (xs ys : List Event) → lived a b xs → front b c ys → front a c (xs ++ ys)
  -- what needs nothing may be asked
  pub free : (s : S) (call : Call) → NeedsNothing call → may s call
