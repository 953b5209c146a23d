-- What a step of a station does, for marks that its core stands for.
use Rattle.std.specs.Prelude.{◌≡◌, ◌≤◌, ◌⊎◌, ℕ, List, [], length, Bool, true, false, ◌||◌, Option, Some, None, Result, Ok, Err, IfOk}
use Rattle.std.specs.List.{AllZip}
use Rattle.protocol.specs.Rows.{Row}
use Rattle.protocol.specs.Limits.{most_sent}
use Rattle.protocol.specs.Marks.{Mark}
use Rattle.protocol.specs.Proposals.{was_released, open_proposal}
use Rattle.protocol.specs.Turn.{Event, Offered, Sought, Came_due, Arrived, Recalled, number_of, Note_idle, Turn, turn}
use Rattle.protocol.specs.Refusals.{Call, refusal, early_refusal, event_of}
use Rattle.rows_saved.specs.Saved.{SameRows, WithRow, IsEither, Rises}
use Rattle.rows_saved.specs.declared.fault.RowsFault.{RowsFault}
use Rattle.rows_saved.specs.declared.rows.Rows.{Ghosts}
use Rattle.node_core.specs.Standing.{StandsFor, seat_of}
use Rattle.node_core.specs.Turns.{note_value, Stirs}
use Rattle.station.specs.declared.answer.Answer.{Answer}
use Rattle.station.specs.declared.station.Station.{Station}
use Rattle.refusals.specs.declared.refusal.StepRefusal.{StepRefusal}
use Rattle.refusals.specs.declared.refusal.StepRefusal.TheVariants.{Stopped, BadDatagram, WrongCircuit, NotForMe, Stranger, BadNumber, NoSuchMember, AlreadyReleased, AlreadyOpen, WireTooOld, TapeFaulty, RoundsSpent, Store, OutOfMemory}
use Rattle.station.specs.Refusing.{IsRefusal}
use Rattle.station.specs.Stations.{Sight, sight, setup_of, IsFixed, wire_at, Follows}
use Rattle.station.specs.Readiness.{Carries, IsReleased, IsNumbered}

-- rows that were read, and no more
pub record WasRead {R : Type 0} (x : Sight R) (old new : R) : Type 0 where
  pub alike : x.alike old new
  pub was_open : x.is_open new → x.is_open old
  pub same : x.is_open new → SameRows (x.saved old) (x.saved new)

-- rows that were read and then saved
pub record WasSaved {R : Type 0} (x : Sight R) (old new : R) : Type 0 where
  pub mid : R
  pub read : WasRead x old mid
  pub passes : x.passes mid new

-- rows that were read, of which a save was refused with this fault
pub record WasBalked {R : Type 0} (x : Sight R) (old new : R) (n : ℕ) (row : Row) (fault : RowsFault) : Type 0 where
  pub mid : R
  pub mid_open : x.is_open mid
  pub read : WasRead x old mid
  pub was_open : x.is_open new → x.is_open mid
  pub tells : x.tells mid new n row
  pub either : (¬ x.is_open new) ⊎ IsEither (x.saved mid) n row (x.saved new)
  pub blames : x.blames mid new fault

-- the turn of this event at the saved row of its number, if there is one
abbrev pub turn_of : {R : Type 0} → Sight R → Station R → List Mark → Event → Option Turn
turn_of x s marks e = turn (seat_of s.speaker.core) marks (x.saved s.rows (number_of e)) e

-- the turn is taken: its row is saved, and what it sends and releases is handed out
pub record Done {R : Type 0} (x : Sight R) (e : Event) (old new : Station R) (marks : List Mark) (a : Answer) : Type 0 where
  pub taken : Turn
  pub is_turn : turn_of x old marks e ≡ Some taken
  pub fixed : IsFixed old new
  pub goes_on : new.stopped ≡ false
  pub stands_for : StandsFor new.speaker.core taken.marks
  pub was_open : x.is_open old.rows
  pub is_open : x.is_open new.rows
  pub rows : WithRow (x.saved old.rows) (number_of e) taken.row (x.saved new.rows)
  pub told : (x.alike old.rows new.rows × (taken.row ≡ x.saved old.rows (number_of e))) ⊎ WasSaved x old.rows new.rows
  pub out : AllZip (Carries old.speaker.wire) taken.out a.out.items
  pub release : IsReleased old.table old.widths (number_of e) taken.release a.release
  pub note : note_value a.note ≡ taken.note
  pub number : a.number ≡ Some (number_of e)

-- the save of the turn's row was refused with this fault
pub record AtSave {R : Type 0} (x : Sight R) (e : Event) (old : Station R) (marks : List Mark) (rows : R) (fault : RowsFault) : Type 0 where
  pub taken : Turn
  pub is_turn : turn_of x old marks e ≡ Some taken
  pub changes : ¬ (taken.row ≡ x.saved old.rows (number_of e))
  pub was_open : x.is_open old.rows
  pub balked : WasBalked x old.rows rows (number_of e) taken.row fault

-- the store refused with this fault: the station stops and forgets what it took in
pub record TornByStore {R : Type 0} (x : Sight R) (e : Event) (old new : Station R) (marks : List Mark) (fault : RowsFault) : Type 0 where
  pub fixed : IsFixed old new
  pub stops : new.stopped ≡ true
  pub stands_for : StandsFor new.speaker.core []
  pub at : (WasRead x old.rows new.rows × x.blames old.rows new.rows fault) ⊎ AtSave x e old marks new.rows fault

-- memory was refused before any save, to a turn that is not quiet: the station stops and forgets what it took in
pub record TornByMemory {R : Type 0} (x : Sight R) (e : Event) (old new : Station R) (marks : List Mark) : Type 0 where
  pub fixed : IsFixed old new
  pub stops : new.stopped ≡ true
  pub stands_for : StandsFor new.speaker.core []
  pub rows : (new.rows ≡ old.rows) ⊎ WasRead x old.rows new.rows
  pub stirs : (t : Turn) → turn_of x old marks e ≡ Some t → Stirs t

-- no ballot is left: only the row was read
pub record Spent {R : Type 0} (x : Sight R) (e : Event) (old new : Station R) (marks : List Mark) : Type 0 where
  pub none : turn_of x old marks e ≡ None
  pub same : new ≡ record old { rows = new.rows }
  pub was_open : x.is_open old.rows
  pub is_open : x.is_open new.rows
  pub read : WasRead x old.rows new.rows

-- an offer or a search is of a number that is neither released nor open
abbrev pub IsFree : List Mark → Event → Type 0
IsFree marks (Offered n entry now) = (was_released n marks ≡ false) × (open_proposal n marks ≡ None)
IsFree marks (Sought n now) = (was_released n marks ≡ false) × (open_proposal n marks ≡ None)
IsFree marks (Came_due n now) = Unit {0}
IsFree marks (Arrived p now) = Unit {0}
IsFree marks (Recalled n to) = Unit {0}

-- how an event ends that nothing refused
abbrev pub Ends : {R : Type 0} → Sight R → Event → Station R → Station R → List Mark → Result Answer StepRefusal → Type 0
Ends x e old new marks (Ok a) = Done x e old new marks a
Ends x e old new marks (Err (Store fault)) = TornByStore x e old new marks fault
Ends x e old new marks (Err OutOfMemory) = TornByMemory x e old new marks
Ends x e old new marks (Err RoundsSpent) = Spent x e old new marks
Ends x e old new marks (Err _) = ⊥

-- nothing refuses the call, and it brings this event
pub record Asks {R : Type 0} (s : Station R) (marks : List Mark) (call : Call) (e : Event) : Type 0 where
  pub unrefused : refusal (setup_of s) s.stopped marks call ≡ None
  pub event : event_of (setup_of s) marks call ≡ Some e

-- nothing refuses the call but for an offered tape's own fault, and it brings this event
pub record AsksEarly {R : Type 0} (s : Station R) (marks : List Mark) (call : Call) (e : Event) : Type 0 where
  pub unrefused : early_refusal (setup_of s) s.stopped marks call ≡ None
  pub event : event_of (setup_of s) marks call ≡ Some e

-- nothing refuses the call, and it brings no event: the station stays
pub record Idles {R : Type 0} (old new : Station R) (marks : List Mark) (call : Call) (a : Answer) : Type 0 where
  pub unrefused : refusal (setup_of old) old.stopped marks call ≡ None
  pub no_event : event_of (setup_of old) marks call ≡ None
  pub same : new ≡ old
  pub out : a.out.items ≡ []
  pub release : a.release ≡ None
  pub note : note_value a.note ≡ Note_idle
  pub number : a.number ≡ None

-- the call is refused for its first reason, and the station stays
abbrev pub Refuses : {R : Type 0} → Station R → Station R → List Mark → Call → StepRefusal → Type 0
Refuses old new marks call r = IsRefusal (refusal (setup_of old) old.stopped marks call) r × (new ≡ old)

-- one step of a station whose core stands for these marks
abbrev pub Steps : {R : Type 0} → Sight R → Call → Station R → Station R → List Mark → Result Answer StepRefusal → Type 0
Steps x call old new marks (Ok a) = Idles old new marks call a ⊎ ((e : Event) × Asks old marks call e × Done x e old new marks a)
Steps x call old new marks (Err (Store fault)) = (e : Event) × Asks old marks call e × TornByStore x e old new marks fault
Steps x call old new marks (Err OutOfMemory) = (e : Event) × AsksEarly old marks call e × TornByMemory x e old new marks
Steps x call old new marks (Err RoundsSpent) = (e : Event) × Asks old marks call e × Spent x e old new marks
Steps x call old new marks (Err Stopped) = Refuses old new marks call Stopped
Steps x call old new marks (Err (BadDatagram fault)) = Refuses old new marks call (BadDatagram fault)
Steps x call old new marks (Err WrongCircuit) = Refuses old new marks call WrongCircuit
Steps x call old new marks (Err NotForMe) = Refuses old new marks call NotForMe
Steps x call old new marks (Err Stranger) = Refuses old new marks call Stranger
Steps x call old new marks (Err BadNumber) = Refuses old new marks call BadNumber
Steps x call old new marks (Err NoSuchMember) = Refuses old new marks call NoSuchMember
Steps x call old new marks (Err AlreadyReleased) = Refuses old new marks call AlreadyReleased
Steps x call old new marks (Err AlreadyOpen) = Refuses old new marks call AlreadyOpen
Steps x call old new marks (Err WireTooOld) = Refuses old new marks call WireTooOld
Steps x call old new marks (Err (TapeFaulty fault)) = Refuses old new marks call (TapeFaulty fault)

-- a step of a station: it takes the version of its rows over, and then goes by the marks that its core stands for
pub record TakesStep {R : Type 0} (x : Sight R) (call : Call) (old new : Station R) (result : Result Answer StepRefusal) : Type 0 where
  pub found : Station R
  pub follows : Follows x old found
  pub steps : (marks : List Mark) → StandsFor found.speaker.core marks → Steps x call found new marks result

-- what holds where the store refused
abbrev pub OnStore : {A : Type 0} → Result A StepRefusal → Type 0 → Type 0
OnStore (Err (Store fault)) P = P
OnStore _ P = Unit {0}

-- what holds of the fault where the store refused
abbrev pub IfStore : {A : Type 0} → Result A StepRefusal → (RowsFault → Type 0) → Type 0
IfStore (Err (Store fault)) P = P fault
IfStore _ P = Unit {0}

-- the rows blame this fault: as they were read, or as a row was saved after they were read
abbrev pub IsBlamed : {R : Type 0} → Sight R → R → R → RowsFault → Type 0
IsBlamed {R = R} x old new fault = x.blames old new fault ⊎ ((mid : R) × x.alike old mid × x.blames mid new fault)

-- the refusals that stop a station
abbrev pub tears : StepRefusal → Bool
tears Stopped = false
tears (BadDatagram fault) = false
tears WrongCircuit = false
tears NotForMe = false
tears Stranger = false
tears BadNumber = false
tears NoSuchMember = false
tears AlreadyReleased = false
tears AlreadyOpen = false
tears WireTooOld = false
tears (TapeFaulty fault) = false
tears RoundsSpent = false
tears (Store fault) = true
tears OutOfMemory = true

-- whether a station is stopped after this answer
abbrev pub stopped_after : Bool → Result Answer StepRefusal → Bool
stopped_after was (Ok a) = was
stopped_after was (Err r) = tears r || was

-- the refusals that are found before the row of the number is read
abbrev pub is_early : StepRefusal → Bool
is_early Stopped = true
is_early (BadDatagram fault) = true
is_early WrongCircuit = true
is_early NotForMe = true
is_early Stranger = true
is_early BadNumber = true
is_early NoSuchMember = true
is_early AlreadyReleased = true
is_early AlreadyOpen = true
is_early WireTooOld = true
is_early (TapeFaulty fault) = true
is_early RoundsSpent = false
is_early (Store fault) = false
is_early OutOfMemory = false

-- what holds where a call was refused before its row was read
abbrev pub IfEarly : {A : Type 0} → Result A StepRefusal → Type 0 → Type 0
IfEarly (Ok x) P = Unit {0}
IfEarly (Err r) P = is_early r ≡ true → P

-- a call of a station, answered so: what `Station::offer`, `withdraw`, `seek`, `due`, `receive` and `recall` promise, each of its own call
pub record IsStep {R : Type 0} (g : Ghosts R) (call : Call) (old new : Station R) (answer : Result Answer StepRefusal) : Type 0 where
  -- over rows that are kept it is a step of the protocol's
  pub steps : g.kept new.rows → TakesStep (sight g) call old new answer
  -- where it is refused before its row is read it is one over whatever rows, so it changes nothing
  pub early : IfEarly answer (TakesStep (sight g) call old new answer)
  -- what held of the rows as the call ended held before, and rows that were made for the store stay so
  pub was_kept : g.kept new.rows → g.kept old.rows
  pub made : g.made old.rows → g.made new.rows
  -- no more datagrams are handed out than there are places for
  pub few : IfOk answer (λ a. length a.out.items ≤ most_sent)
  -- what is released has a number that a story has
  pub numbered : IfOk answer (λ a. IsNumbered a.release)
  -- where the store refused, the count of its refusals rose, and the rows blame this fault
  pub cause : OnStore answer (Rises (g.refusals old.rows) (g.refusals new.rows))
  pub blames : IfStore answer (IsBlamed (sight g) old.rows new.rows)
  -- the version of the rows stays, and the station speaks in it
  pub version : g.version new.rows ≡ g.version old.rows
  pub wire : new.speaker.wire ≡ wire_at (sight g) old
  -- which answers stop the station, and what one that has stopped answers
  pub stops : new.stopped ≡ stopped_after old.stopped answer
  pub stopped : old.stopped ≡ true → (answer ≡ Err Stopped) × (new ≡ old)
