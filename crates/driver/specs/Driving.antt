-- What was done with a station on a wire and a sink, by a list of what happened: which steps the station took, what passed over the wire,
-- what became of the sink, and how it ended.
use Rattle.std.specs.Prelude.{◌≡◌, ◌⊎◌, ℕ, List, [], ◌∷◌, ◌++◌, flat_map, false, Option, Some, None, Result, Ok, Err, OnOk}
use Rattle.protocol.specs.Refusals.{Call, Falling_due, Receiving}
use Rattle.rows_saved.specs.declared.rows.Rows.{Ghosts}
use Rattle.station.specs.declared.answer.Answer.{Answer}
use Rattle.refusals.specs.declared.refusal.StepRefusal.{StepRefusal}
use Rattle.station.specs.declared.station.Station.{Station}
use Rattle.station.specs.Settling.{Settling}
use Rattle.station.specs.Steps.{IsStep}
use Rattle.wire.specs.Passing.{Passed, Passes, Trace}
use Rattle.command_ends.specs.Ends.{end_of, end_of_step, IsOfWriting}
use Rattle.command_ends.specs.declared.end.End.{End}
use Rattle.command_ends.specs.declared.end.End.TheVariants as ends
use Rattle.command_ends.specs.declared.fault.Fault.{Fault}
use Rattle.driver.specs.Events.{Event, asked, took, stored, aside, heard, coming, sending, passing_behind, waiting_behind, Takes, HasCause, ended}
use Rattle.driver.specs.Fates.{ByAnswer, ByStored}
use Rattle.driver.specs.declared.driver.Driver.{Driver}
use Rattle.driver.specs.declared.group.Group.{Group}
use Rattle.driver.specs.declared.machine.Machine.{Machine}
use Rattle.driver.specs.declared.sink.Sink.{Ghosts as SinkGhosts}
use Rattle.driver.specs.declared.sink.TakenStep.{TakenStep}

-- a station, its wire, what becomes of its releases, and what it handed out that waits to be sent
pub record Post (R N S : Type 0) : Type 0 where
  pub station : Station R
  pub wire : N
  pub sink : S
  pub waits : List Passed

-- such a station, with its wire and its sink, of which this waits to be sent
abbrev pub post_with : {R N S : Type 0} → Station R → N → S → List Passed → Post R N S
post_with station wire sink waits = record { station = station; wire = wire; sink = sink; waits = waits }

-- the same, of which nothing waits
abbrev pub post : {R N S : Type 0} → Station R → N → S → Post R N S
post station wire sink = post_with station wire sink []

-- what became of a sink while exactly these events happened, and how far it came with them
pub record Fate (S : Type 0) : Type 1 where
  pub lived : S → S → List Event → Type 0
  pub front : S → S → List Event → Type 0

-- as a type that is a sink says it
abbrev pub fate_of : {S : Type 0} → SinkGhosts S → Fate S
fate_of sink = record { lived = sink.lived; front = sink.front }

-- what is known of the rows, of when all that was saved in them is stored, of what has passed over the wire, and of what becomes of the sink
pub record Known (R N S : Type 0) : Type 1 where
  pub rows : Ghosts R
  pub is_settled : R → Type 0
  pub passed : N → Trace
  pub fate : Fate S

-- of these, this is known
abbrev pub known : {R N S : Type 0} → Ghosts R → (R → Type 0) → (N → Trace) → Fate S → Known R N S
known rows is_settled passed fate = record { rows = rows; is_settled = is_settled; passed = passed; fate = fate }

-- a station took these steps and no others, while its rows are kept
abbrev pub Stepped : {R : Type 0} → Ghosts R → (R → Type 0) → Station R → Station R → List Event → Type 0
Stepped g is_settled old new log = g.kept new.rows → Takes g is_settled old new log

-- what was done up to this end, by exactly these events: the station took these steps and no others; what passed over the wire is what
-- came for them and, once what they saved was stored, what they handed out; the rest waits to be sent; the sink came some way with them, and
-- where it ended well lived through all of them
pub record Driven {R N S : Type 0} (k : Known R N S) (old new : Post R N S) (end : End) (log : List Event) : Type 0 where
  pub steps : Stepped k.rows k.is_settled old.station new.station log
  pub passes : Passes (k.passed old.wire) (k.passed new.wire) (passing_behind old.waits log)
  pub waits : end ≡ ends.Done → new.waits ≡ waiting_behind old.waits log
  pub front : k.fate.front old.sink new.sink log
  pub whole : end ≡ ends.Done → k.fate.lived old.sink new.sink log
  pub cause : HasCause log old.station.stopped new.station.stopped end

-- the same by some events, which are of this form where it ended well
pub record Drove {R N S : Type 0} (k : Known R N S) (old new : Post R N S) (end : End) (Form : List Event → Type 0) : Type 0 where
  pub log : List Event
  pub driven : Driven k old new end log
  pub form : end ≡ ends.Done → Form log

-- this step was taken, and what the station saved was stored; or it was refused
abbrev pub IsDone : Call → List Event → Type 0
IsDone call log =
    ((answer : Answer) × (log ≡ took call (Ok answer) ∷ stored (Ok tt) ∷ [])) ⊎ ((refusal : StepRefusal) × (log ≡ took call (Err refusal) ∷ []))

-- one datagram at most was taken in, by the station or, where it has the mark of recalls and rolls, beside it
abbrev pub IsTakingIn : ℕ → List Event → Type 0
IsTakingIn now log = (log ≡ []) ⊎ ((bytes : List ℕ) × IsDone (Receiving bytes now) log) ⊎ ((rest : List ℕ) × (log ≡ aside (heard rest) ∷ []))

-- it was seen to what is due
abbrev pub IsSeeingToDue : ℕ → List Event → Type 0
IsSeeingToDue now log = IsDone (Falling_due now) log

-- the station took the step of a call of this kind, with this answer, and went on; nothing of it was handed on
pub record Held {R N S : Type 0} (k : Known R N S) (may : S → Call → Type 0) (Kind : Call → Type 0) (old new : Post R N S) (answer : Answer) : Type 0 where
  pub call : Call
  pub kind : Kind call
  pub allowed : may new.sink call
  pub step : k.rows.kept new.station.rows → IsStep k.rows call old.station new.station (Ok answer)
  pub passes : Passes (k.passed old.wire) (k.passed new.wire) (coming call)
  pub rests : k.fate.lived old.sink new.sink []
  pub stays : new.station.stopped ≡ old.station.stopped

-- a step of a call of this kind was taken; or none was, and events of this form happened; or it came to an end
abbrev pub ReceivesNext :
    {R N S : Type 0} → Known R N S → (S → Call → Type 0) → (Call → Type 0) → (List Event → Type 0) → Post R N S → Post R N S
    → Result (Option TakenStep) Fault → Type 0
ReceivesNext k may Kind Form old new (Ok (Some step)) = Held k may Kind old new step.answer
ReceivesNext k may Kind Form old new (Ok None) = Drove k old new ends.Done Form
ReceivesNext k may Kind Form old new (Err fault) = Drove k old new (end_of fault) Form

-- the station is called with what came, at this moment
abbrev pub IsReceiving : ℕ → Call → Type 0
IsReceiving now call = (bytes : List ℕ) × (call ≡ Receiving bytes now)

-- the station is called to see to what is due, at this moment
abbrev pub IsFallingDue : ℕ → Call → Type 0
IsFallingDue now call = call ≡ Falling_due now

-- all that the station saved was stored
abbrev pub IsStoring : List Event → Type 0
IsStoring log = log ≡ stored (Ok tt) ∷ []

-- that, or nothing happened
abbrev pub MayStore : List Event → Type 0
MayStore log = (log ≡ []) ⊎ IsStoring log

-- one datagram at most was taken in, where what its step saved may wait to be stored
abbrev pub IsTakingUp : ℕ → List Event → Type 0
IsTakingUp now log = IsTakingIn now log ⊎ ((bytes : List ℕ) × (answer : Answer) × (log ≡ took (Receiving bytes now) (Ok answer) ∷ []))

-- it was seen to what is due, where what its step saved may wait to be stored
abbrev pub IsDueUp : ℕ → List Event → Type 0
IsDueUp now log = IsSeeingToDue now log ⊎ ((answer : Answer) × (log ≡ took (Falling_due now) (Ok answer) ∷ []))

-- whatever happened
abbrev pub Anyhow : List Event → Type 0
Anyhow log = Unit {0}

-- the clock was asked, and the rest is at its moment
abbrev pub AtClock : (ℕ → List Event → Type 0) → List Event → Type 0
AtClock Form log = (now : ℕ) × (rest : List Event) × Form now rest × (log ≡ asked now ∷ rest)

-- the one, and then the other
pub record Then (First Last : List Event → Type 0) (log : List Event) : Type 0 where
  pub first : List Event
  pub last : List Event
  pub is_first : First first
  pub is_last : Last last
  pub joined : log ≡ first ++ last

-- a turn: one datagram at most, and then what is due
abbrev pub IsTurn : ℕ → List Event → Type 0
IsTurn now log = Then (IsTakingIn now) (IsSeeingToDue now) log

-- the station, the wire and the sink of a driver, as they are now
abbrev pub post_of : {R N S : Type 0} → Driver R N S → Post R N S
post_of d = post d.station.now d.wire.now d.sink

-- the station of a machine, its wire, and what is outside of both
abbrev pub post_in : {R N O : Type 0} → Machine R N O → Post R N O
post_in m = post m.station m.wire m.outside

-- the same of a driver, where this waits to be sent
abbrev pub post_behind : {R N S : Type 0} → Driver R N S → List Passed → Post R N S
post_behind d waits = post_with d.station.now d.wire.now d.sink waits

-- what steps hand out on the wire, in order
abbrev pub sending_of : TakenStep → List Passed
sending_of step = sending step.answer.out.items

abbrev pub sends : List TakenStep → List Passed
sends steps = flat_map sending_of steps

-- what those of a group hand out
abbrev pub sends_of : Group → List Passed
sends_of group = sends group.steps.items

-- a driver still has the station and the wire that it was made with
abbrev pub SameHands : {R N S : Type 0} → Driver R N S → Driver R N S → Type 0
SameHands old new = (new.station.ghost_name ≡ old.station.ghost_name) × (new.wire.ghost_name ≡ old.wire.ghost_name)

-- what a driver did up to this result, by events of this form, with the station and the wire that it was made with
pub record DroveUpTo {R N S A : Type 0} (Form : List Event → Type 0) (result : Result A Fault) (rows : Ghosts R) (is_settled : R → Type 0)
    (passed : N → Trace) (sink : SinkGhosts S) (old new : Driver R N S) : Type 0 where
  pub hands : SameHands old new
  pub done : Drove (known rows is_settled passed (fate_of sink)) (post_of old) (post_of new) (ended result) Form

-- the same, where a station goes on unless this result is a fault
pub record WentOn {R N S A : Type 0} (Form : List Event → Type 0) (result : Result A Fault) (rows : Ghosts R) (is_settled : R → Type 0)
    (passed : N → Trace) (sink : SinkGhosts S) (old new : Driver R N S) : Type 0 where
  pub hands : SameHands old new
  pub done : Drove (known rows is_settled passed (fate_of sink)) (post_of old) (post_of new) (ended result) Form
  pub goes_on : OnOk result (new.station.now.stopped ≡ false)

-- what a driver did up to this result, by events of this form, where what this group hands out waited to be sent, and in the end what that one does
pub record DroveBehind {R N S A : Type 0} (Form : List Event → Type 0) (result : Result A Fault) (rows : Ghosts R) (is_settled : R → Type 0)
    (passed : N → Trace) (sink : SinkGhosts S) (old new : Driver R N S) (before after : Group) : Type 0 where
  pub hands : SameHands old new
  pub done : Drove (known rows is_settled passed (fate_of sink)) (post_behind old (sends_of before)) (post_behind new (sends_of after)) (ended result) Form

-- all that the station saved could not be stored, and its refusal is the fault
abbrev pub IsUnstored : {R : Type 0} → Ghosts R → (R → Type 0) → Station R → Station R → Fault → Type 0
IsUnstored g is_settled old new fault = (refusal : StepRefusal) × Settling g is_settled old new (Err refusal) × (end_of fault ≡ end_of_step refusal)

-- what the station saved was stored, and then the datagrams of an answer were sent
pub record WasSent {R N S : Type 0} (k : Known R N S) (old new : Post R N S) (answer : Answer) : Type 0 where
  pub settled : Settling k.rows k.is_settled old.station new.station (Ok tt)
  pub passes : Passes (k.passed old.wire) (k.passed new.wire) (sending answer.out.items)

-- what the station saved could not be stored, and nothing was handed on
pub record WasWithheld {R N S : Type 0} (k : Known R N S) (old new : Post R N S) (fault : Fault) : Type 0 where
  pub unstored : IsUnstored k.rows k.is_settled old.station new.station fault
  pub wire : new.wire ≡ old.wire
  pub sink : new.sink ≡ old.sink

-- an answer was handed on up to this result, as far as its release was taken; or what its step saved could not be stored
abbrev pub HandsOn : {R N S : Type 0} → Known R N S → (S → Call → Type 0) → Post R N S → Post R N S → Answer → Result (Unit {0}) Fault → Type 0
HandsOn k may old new answer (Ok done) = WasSent k old new answer × ByStored k.fate.lived may old.sink new.sink answer
HandsOn k may old new answer (Err fault) =
    WasWithheld k old new fault ⊎ (WasSent k old new answer × ByStored k.fate.front may old.sink new.sink answer × IsOfWriting fault)

-- the same, of a driver
pub record HandedOn {R N S : Type 0} (rows : Ghosts R) (is_settled : R → Type 0) (passed : N → Trace) (sink : SinkGhosts S) (old new : Driver R N S)
    (answer : Answer) (result : Result (Unit {0}) Fault) : Type 0 where
  pub hands : SameHands old new
  pub on : HandsOn (known rows is_settled passed (fate_of sink)) sink.may (post_of old) (post_of new) answer result

-- a group whose steps were handed on: what they released went outside, none waits, and no work shares the next save yet
pub record HasEnded {S : Type 0} (Handed : S → S → List TakenStep → Type 0) (old new : S) (before after : Group) : Type 0 where
  pub handed : Handed old new before.steps.items
  pub none : after.steps.items ≡ []
  pub begins : after.works ≡ 0

-- the last that a desk did is that what some steps released went outside
abbrev pub HandsOutLast : {S : Type 0} → (S → S → List TakenStep → Type 0) → S → Type 0
HandsOutLast {S = S} Handed new = (old : S) × (steps : List TakenStep) × Handed old new steps

-- that was done with the steps of a group, and none of them is left
pub record EndsHandedOn {S : Type 0} (Handed : S → S → List TakenStep → Type 0) (new : S) (after : Group) : Type 0 where
  pub handed : HandsOutLast Handed new
  pub none : after.steps.items ≡ []

-- up to this result a sink noted a step, and what it hands out waits behind what waited
abbrev pub Holds : {S : Type 0} → Fate S → (S → Call → Type 0) → S → S → List Passed → List Passed → Answer → Result (Unit {0}) Fault → Type 0
Holds fate may old new before after answer (Ok done) = ByAnswer fate.lived may old new answer × (after ≡ before ++ sending answer.out.items)
Holds fate may old new before after answer (Err fault) = ByAnswer fate.front may old new answer × IsOfWriting fault

-- the same, of a group
abbrev pub IsHeld : {S : Type 0} → SinkGhosts S → S → S → Group → Group → Answer → Result (Unit {0}) Fault → Type 0
IsHeld sink old new before after answer result = Holds (fate_of sink) sink.may old new (sends_of before) (sends_of after) answer result

-- no step, or the fault
abbrev pub no_step : Result (Unit {0}) Fault → Result (Option TakenStep) Fault
no_step (Ok done) = Ok None
no_step (Err fault) = Err fault

-- a step was taken up to this result, or none was, whatever waited to be sent
pub record ReceivedNext {R N S : Type 0} (Kind : Call → Type 0) (Form : List Event → Type 0) (result : Result (Option TakenStep) Fault) (rows : Ghosts R)
    (is_settled : R → Type 0) (passed : N → Trace) (sink : SinkGhosts S) (old new : Driver R N S) : Type 0 where
  pub hands : SameHands old new
  pub up : (waits : List Passed) → ReceivesNext (known rows is_settled passed (fate_of sink)) sink.may Kind Form (post_behind old waits) (post_behind new waits) result
