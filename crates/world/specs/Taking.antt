-- Steps, outcomes and refusals of a world in the protocol's words, and what a step adds to the logs.
use Rattle.std.specs.Prelude.{◌≡◌, ◌⊎◌, ℕ, ◌+◌, List, [], ◌∷◌, ◌++◌, Option, Some, None, IsSome, Result, Ok, Err, Bool, true, false, length, option_map, slice_get, take, if◌then◌else◌}
use Rattle.protocol.specs.Entries.{Entry, Void, Taped}
use Rattle.protocol.specs.Circuit as circuit
use Rattle.protocol.specs.Refusals.{Call, Offering, Seeking, Falling_due, Recalling}
use Rattle.protocol.specs.Refusals as refusals
use Rattle.packets.specs.declared.fault.PacketFault.{PacketFault}
use Rattle.line_check.specs.declared.fault.SetFault.{SetFault}
use Rattle.rows_saved.specs.Saved.{Rises}
use Rattle.rows_saved.specs.declared.balky.Balky.{Balky}
use Rattle.rows_saved.specs.declared.fault.RowsFault.{RowsFault}
use Rattle.rows_saved.specs.declared.fault.RowsFault.TheVariants as row_faults
use Rattle.rows_saved.specs.declared.rows.Rows.{Ghosts}
use Rattle.node_core.specs.Turns.{note_value}
use Rattle.station.specs.declared.station.Station.{Station}
use Rattle.station.specs.Stations.{sight}
use Rattle.station.specs.Steps.{IsBlamed}
use Rattle.refusals.specs.declared.refusal.StepRefusal.{StepRefusal}
use Rattle.refusals.specs.declared.refusal.StepRefusal.TheVariants.{Stopped, BadDatagram, WrongCircuit, NotForMe, Stranger, BadNumber, NoSuchMember, AlreadyReleased, AlreadyOpen, WireTooOld, TapeFaulty, RoundsSpent, Store, OutOfMemory}
use Rattle.world.specs.declared.call.MemberCall.{MemberCall}
use Rattle.world.specs.declared.call.MemberCall.TheVariants as calls
use Rattle.world.specs.declared.step.Step.{Step}
use Rattle.world.specs.declared.step.Step.TheVariants as steps
use Rattle.world.specs.declared.step.Outcome.{Outcome}
use Rattle.world.specs.declared.step.Outcome.TheVariants as outcomes
use Rattle.world.specs.declared.step.Seen.{Seen}
use Rattle.world.specs.declared.step.RunStop.{RunStop}
use Rattle.world.specs.declared.step.WorldRefusal.{WorldRefusal}
use Rattle.world.specs.declared.step.WorldRefusal.TheVariants as world_refusals
use Rattle.world.specs.declared.world.World.{World}
use Rattle.world.specs.Worlds.{count_of, station_at, IsSame, GoesOn}

-- the step of the circuit
abbrev pub step_value : Step → circuit.Step
step_value (steps.Offer member number tape now) = circuit.Offers member number (Taped tape) now
step_value (steps.Withdraw member number now) = circuit.Offers member number Void now
step_value (steps.Seek member number now) = circuit.Seeks member number now
step_value (steps.Due member now) = circuit.Falls_due member now
step_value (steps.Deliver k now) = circuit.Delivers k now
step_value (steps.Restart member) = circuit.Restarts member
step_value (steps.Upgrade member) = circuit.Upgrades member
step_value (steps.Balk member saved) = circuit.Balks member saved
step_value (steps.Recall member number to) = circuit.Recalls member number to

-- how a station is called for what a step asks of it
abbrev pub call_of : MemberCall → Call
call_of (calls.Offer number tape now) = Offering number (Taped tape.now) now
call_of (calls.Withdraw number now) = Offering number Void now
call_of (calls.Seek number now) = Seeking number now
call_of (calls.Due now) = Falling_due now
call_of (calls.Recall number to) = Recalling number to

-- the step that asks this of a member's station
abbrev pub step_of : ℕ → MemberCall → Step
step_of member (calls.Offer number tape now) = steps.Offer member number tape.now now
step_of member (calls.Withdraw number now) = steps.Withdraw member number now
step_of member (calls.Seek number now) = steps.Seek member number now
step_of member (calls.Due now) = steps.Due member now
step_of member (calls.Recall number to) = steps.Recall member number to

-- how the circuit's step ended where the station refused it for this reason. Where the store tore it: as it was armed,
-- or by the member's own rows, which then did refuse
abbrev pub RefusedAs : StepRefusal → (own : Type 0) → circuit.Outcome PacketFault SetFault → Type 0
RefusedAs Stopped own o = o ≡ circuit.Refused refusals.Stopped
RefusedAs (BadDatagram fault) own o = o ≡ circuit.Refused (refusals.Bad_datagram fault)
RefusedAs WrongCircuit own o = o ≡ circuit.Refused refusals.Wrong_circuit
RefusedAs NotForMe own o = o ≡ circuit.Refused refusals.Not_for_me
RefusedAs Stranger own o = o ≡ circuit.Refused refusals.Stranger
RefusedAs BadNumber own o = o ≡ circuit.Refused refusals.Bad_number
RefusedAs NoSuchMember own o = o ≡ circuit.Refused refusals.No_such_member
RefusedAs AlreadyReleased own o = o ≡ circuit.Refused refusals.Already_released
RefusedAs AlreadyOpen own o = o ≡ circuit.Refused refusals.Already_open
RefusedAs WireTooOld own o = o ≡ circuit.Refused refusals.Wire_too_old
RefusedAs (TapeFaulty fault) own o = o ≡ circuit.Refused (refusals.Tape_faulty fault)
RefusedAs RoundsSpent own o = o ≡ circuit.Refused refusals.Rounds_spent
RefusedAs (Store fault) own o = (o ≡ circuit.Torn_as_armed) ⊎ ((o ≡ circuit.Torn_by_store) × own)
RefusedAs OutOfMemory own o = o ≡ circuit.Torn_by_memory

-- how the circuit's step ended, by what was seen of it and whether the member's own rows refused
abbrev pub EndsAs : Outcome → (own : Type 0) → circuit.Outcome PacketFault SetFault → Type 0
EndsAs (outcomes.Done note) own o = o ≡ circuit.Done (note_value note)
EndsAs (outcomes.Refused refusal) own o = RefusedAs refusal own o
EndsAs outcomes.Restarted own o = o ≡ circuit.Restarted
EndsAs outcomes.Upgraded own o = o ≡ circuit.Upgraded
EndsAs (outcomes.Armed saved) own o = o ≡ circuit.Armed saved

-- a member's own rows refused a call, and counted it
pub record RowsRefused {R : Type 0} (count : R → ℕ) (old new : World R) (m : ℕ) : Type 0 where
  pub before : Station (Balky R)
  pub after : Station (Balky R)
  pub at_old : station_at old m ≡ Some before
  pub at_new : station_at new m ≡ Some after
  pub rises : Rises (count before.rows.rows) (count after.rows.rows)

-- the station was armed to refuse a save or an upgrade, tells that as a fault of the store, and is armed no more
abbrev pub IsAsArmed : {R : Type 0} → Station (Balky R) → Station (Balky R) → RowsFault → Type 0
IsAsArmed old new fault = IsSome old.rows.armed × (new.rows.armed ≡ None) × (fault ≡ row_faults.Store)

-- it is armed as it was, and the member's own rows refused, and blame this fault
abbrev pub IsByOwnRows : {R : Type 0} → Ghosts R → Station (Balky R) → Station (Balky R) → RowsFault → Type 0
IsByOwnRows g old new fault =
    (new.rows.armed ≡ old.rows.armed) × Rises (g.refusals old.rows.rows) (g.refusals new.rows.rows)
    × IsBlamed (sight g) old.rows.rows new.rows.rows fault

-- why the store tore a step of this station with this fault: as it was armed, or by the member's own rows
abbrev pub IsCause : {R : Type 0} → Ghosts R → Station (Balky R) → Station (Balky R) → RowsFault → Type 0
IsCause g old new fault = IsAsArmed old new fault ⊎ IsByOwnRows g old new fault

-- a step of this member was torn by its store with this fault, and this is why
pub record WasTorn {R : Type 0} (g : Ghosts R) (old new : World R) (m : ℕ) (fault : RowsFault) : Type 0 where
  pub before : Station (Balky R)
  pub after : Station (Balky R)
  pub at_old : station_at old m ≡ Some before
  pub at_new : station_at new m ≡ Some after
  pub cause : IsCause g before after fault

-- what holds of the fault where the store tore a step that ended so
abbrev pub IfTorn : Outcome → (RowsFault → Type 0) → Type 0
IfTorn (outcomes.Refused (Store fault)) P = P fault
IfTorn _ P = Unit {0}

-- where the store tore the step, it is told why
abbrev pub TellsWhy : {R : Type 0} → Ghosts R → World R → World R → Result Seen WorldRefusal → Type 0
TellsWhy g old new (Ok seen) = IfTorn seen.outcome (WasTorn g old new seen.member)
TellsWhy g old new (Err refusal) = Unit {0}

-- the step was torn
abbrev pub is_torn : StepRefusal → Bool
is_torn Stopped = false
is_torn (BadDatagram fault) = false
is_torn WrongCircuit = false
is_torn NotForMe = false
is_torn Stranger = false
is_torn BadNumber = false
is_torn NoSuchMember = false
is_torn AlreadyReleased = false
is_torn AlreadyOpen = false
is_torn WireTooOld = false
is_torn (TapeFaulty fault) = false
is_torn RoundsSpent = false
is_torn (Store fault) = true
is_torn OutOfMemory = true

-- an offer that ended so was taken up: it was done, or torn
abbrev pub was_taken : Outcome → Bool
was_taken (outcomes.Done note) = true
was_taken (outcomes.Refused refusal) = is_torn refusal
was_taken outcomes.Restarted = false
was_taken outcomes.Upgraded = false
was_taken (outcomes.Armed saved) = false

-- the offers with this one, where its step ended so
abbrev pub offered_after : List circuit.Offer → ℕ → ℕ → Entry → Outcome → List circuit.Offer
offered_after offers member number entry o =
    if was_taken o then offers ++ record { member = member; number = number; entry = entry } ∷ [] else offers

-- the offers after a step that ended so
abbrev pub offers_after : List circuit.Offer → Step → Outcome → List circuit.Offer
offers_after offers (steps.Offer member number tape now) o = offered_after offers member number (Taped tape) o
offers_after offers (steps.Withdraw member number now) o = offered_after offers member number Void o
offers_after offers (steps.Seek member number now) o = offers
offers_after offers (steps.Due member now) o = offers
offers_after offers (steps.Deliver k now) o = offers
offers_after offers (steps.Restart member) o = offers
offers_after offers (steps.Upgrade member) o = offers
offers_after offers (steps.Balk member saved) o = offers
offers_after offers (steps.Recall member number to) o = offers

-- who acts in a step: of a delivery the addressee
abbrev pub actor : List circuit.Datagram → Step → Option ℕ
actor sent (steps.Offer member number tape now) = Some member
actor sent (steps.Withdraw member number now) = Some member
actor sent (steps.Seek member number now) = Some member
actor sent (steps.Due member now) = Some member
actor sent (steps.Deliver k now) = option_map (λ d. d.to) (circuit.datagram_at sent k)
actor sent (steps.Restart member) = Some member
actor sent (steps.Upgrade member) = Some member
actor sent (steps.Balk member saved) = Some member
actor sent (steps.Recall member number to) = Some member

-- what is seen is what the step added
pub record Adds {R : Type 0} (step : Step) (old new : World R) (seen : Seen) : Type 0 where
  pub member : actor old.sent.items step ≡ Some seen.member
  pub members : count_of new ≡ count_of old
  pub first : seen.first ≡ length old.sent.items + 1
  pub sent : GoesOn seen.count old.sent.items new.sent.items
  pub releases : GoesOn (if seen.released then 1 else 0) old.releases.items new.releases.items
  pub offers : new.offers.items ≡ offers_after old.offers.items step seen.outcome

-- it was refused for this reason; where memory was refused there is such a step
abbrev pub IsReason : Option circuit.Missing → WorldRefusal → Type 0
IsReason o world_refusals.NoSuchMember = o ≡ Some circuit.No_such_member
IsReason o world_refusals.NoSuchDatagram = o ≡ Some circuit.No_such_datagram
IsReason o world_refusals.OutOfMemory = o ≡ None

-- it was found, or refused for this reason
abbrev pub Found : {A : Type 0} → Option circuit.Missing → Result A WorldRefusal → Type 0
Found o (Ok x) = o ≡ None
Found o (Err refusal) = IsReason o refusal

-- why this world has no such step, if it has none
abbrev pub missing_in : {R : Type 0} → World R → Step → Option circuit.Missing
missing_in v step = circuit.missing (count_of v) v.sent.items (step_value step)

-- there is such a step, and what is seen is what it added; or it is refused for its reason, and all stays
abbrev pub Tells : {R : Type 0} → Step → World R → World R → Result Seen WorldRefusal → Type 0
Tells step old new (Ok seen) = (missing_in old step ≡ None) × Adds step old new seen
Tells step old new (Err refusal) = IsReason (missing_in old step) refusal × IsSame old new

-- the store of this member was armed to refuse a save or an upgrade
pub record WasArmed {R : Type 0} (v : World R) (m : ℕ) : Type 0 where
  pub station : Station (Balky R)
  pub at_member : station_at v m ≡ Some station
  pub armed : IsSome station.rows.armed

-- of rows that blame nothing but want of memory: where a step is told as torn by the store, it was torn for want of memory,
-- or as its member's store was armed, and that is told as a fault of the store
abbrev pub TearsForMemory : {R : Type 0} → Ghosts R → Type 0
TearsForMemory {R = R} g =
    (old new : World R) (seen : Seen) → TellsWhy g old new (Ok seen)
    → IfTorn seen.outcome (λ fault. (fault ≡ row_faults.OutOfMemory) ⊎ (WasArmed old seen.member × (fault ≡ row_faults.Store)))

-- these steps were taken, one after the other: of each it is told what it added, and where the store tore it, why
abbrev pub Takes : {R : Type 0} → Ghosts R → World R → List Step → World R → Type 0
Takes g old [] new = new ≡ old
Takes {R = R} g old (step ∷ steps) new =
    (mid : World R) × (seen : Seen) × Tells step old mid (Ok seen) × TellsWhy g old mid (Ok seen) × Takes g mid steps new

-- all steps were taken, or those before the one that was refused, which changed nothing
abbrev pub TakesFront : {R A : Type 0} → Ghosts R → World R → List Step → World R → Result A RunStop → Type 0
TakesFront g old steps new (Ok x) = Takes g old steps new
TakesFront {R = R} g old steps new (Err stop) = (mid : World R) × Takes g old (take stop.at steps) mid × IsSame mid new

-- a run stopped at a step of its list, which this world refuses for this reason
abbrev pub StopsAt : {R : Type 0} → List Step → World R → RunStop → Type 0
StopsAt steps v stop = (step : Step) × (slice_get steps stop.at ≡ Some step) × IsReason (missing_in v step) stop.refusal
