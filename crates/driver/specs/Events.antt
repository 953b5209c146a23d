-- What happened to a station on a wire, as a list: which steps it took, what passed over its wire for them, and why it came to an end.
use Rattle.std.specs.Prelude.{◌≡◌, ◌⊎◌, ℕ, List, [], ◌∷◌, ◌++◌, map, Bool, true, Result, Ok, Err}
use Rattle.protocol.specs.Circuit.{Datagram}
use Rattle.protocol.specs.Refusals.{Call, Offering, Seeking, Falling_due, Receiving, Recalling}
use Rattle.rows_saved.specs.declared.fault.RowsFault.TheVariants as row_faults
use Rattle.rows_saved.specs.declared.rows.Rows.{Ghosts}
use Rattle.station.specs.declared.answer.Answer.{Answer}
use Rattle.refusals.specs.declared.refusal.StepRefusal.{StepRefusal}
use Rattle.refusals.specs.declared.refusal.StepRefusal.TheVariants.{Store, OutOfMemory}
use Rattle.station.specs.declared.station.Station.{Station}
use Rattle.station.specs.Settling.{Settling}
use Rattle.station.specs.Steps.{IsStep}
use Rattle.wire.specs.Passing.{Passed, came, sent, told}
use Rattle.recalls.specs.Recalls.{Recall}
use Rattle.recalls.specs.Spelling.{spelling}
use Rattle.rolls.specs.Rolls.{Roll}
use Rattle.rolls.specs.Spelling.{spelling as roll_spelling}
use Rattle.command_ends.specs.Ends.{end_of}
use Rattle.command_ends.specs.declared.end.End.{End}
use Rattle.command_ends.specs.declared.end.End.TheVariants as ends
use Rattle.command_ends.specs.declared.fault.Fault.{Fault}

-- what passes over the wire beside the station's packets, which have another mark: bytes with the mark TR came, which no station is called
-- with; or a recall, or a roll, was sent to the member that it is to
pub data Aside : Type 0 where
  heard : (rest : List ℕ) → Aside
  hailed : (recall : Recall) → Aside
  rolled : (roll : Roll) → Aside

-- the clock was asked, the station was called and answered, it was to store all that it had saved and answered, or something passed beside
-- its packets
pub data Event : Type 0 where
  asked : (moment : ℕ) → Event
  took : (call : Call) (answer : Result Answer StepRefusal) → Event
  stored : (answer : Result (Unit {0}) StepRefusal) → Event
  aside : (what : Aside) → Event

-- these bytes have the mark of recalls and rolls
abbrev pub HasMark : List ℕ → Type 0
HasMark bytes = (rest : List ℕ) × (bytes ≡ 84 ∷ 82 ∷ rest)

-- a datagram that comes is the one that the station is called with
abbrev pub coming : Call → List Passed
coming (Offering n entry now) = []
coming (Seeking n now) = []
coming (Falling_due now) = []
coming (Receiving bytes now) = came bytes ∷ []
coming (Recalling n to) = []

-- each datagram that the station hands out is sent to its addressee, once, in order
abbrev pub sending : List Datagram → List Passed
sending out = map (λ (d : Datagram). sent d.to d.bytes) out

-- what the station hands out on the wire; a refusal hands out nothing
abbrev pub going : Result Answer StepRefusal → List Passed
going (Ok answer) = sending answer.out.items
going (Err refusal) = []

-- what comes beside the packets
abbrev pub coming_by : Aside → List Passed
coming_by (heard rest) = came (84 ∷ 82 ∷ rest) ∷ []
coming_by (hailed recall) = []
coming_by (rolled roll) = []

-- what is handed out beside them
abbrev pub going_by : Aside → List Passed
going_by (heard rest) = []
going_by (hailed recall) = sent recall.to (spelling recall) ∷ []
going_by (rolled roll) = sent roll.to (roll_spelling roll) ∷ []

-- What passes over the wire while these events happen, where this was handed out before and waits to be sent. What comes passes at once. What is
-- handed out waits until all that the station saved is stored; where that is refused, it is never sent.
abbrev pub passing_behind : List Passed → List Event → List Passed
passing_behind waits [] = []
passing_behind waits (asked moment ∷ rest) = told moment ∷ passing_behind waits rest
passing_behind waits (took call answer ∷ rest) = coming call ++ passing_behind (waits ++ going answer) rest
passing_behind waits (stored (Ok done) ∷ rest) = waits ++ passing_behind [] rest
passing_behind waits (stored (Err refusal) ∷ rest) = passing_behind waits rest
passing_behind waits (aside what ∷ rest) = coming_by what ++ passing_behind (waits ++ going_by what) rest

-- what waits to be sent once these events happened
abbrev pub waiting_behind : List Passed → List Event → List Passed
waiting_behind waits [] = waits
waiting_behind waits (asked moment ∷ rest) = waiting_behind waits rest
waiting_behind waits (took call answer ∷ rest) = waiting_behind (waits ++ going answer) rest
waiting_behind waits (stored (Ok done) ∷ rest) = waiting_behind [] rest
waiting_behind waits (stored (Err refusal) ∷ rest) = waiting_behind waits rest
waiting_behind waits (aside what ∷ rest) = waiting_behind (waits ++ going_by what) rest

-- these calls, one after the other, and nothing else changed the station but that what it saved was stored, as its rows say it
abbrev pub Takes : {R : Type 0} → Ghosts R → (R → Type 0) → Station R → Station R → List Event → Type 0
Takes g is_settled old new [] = new ≡ old
Takes g is_settled old new (asked moment ∷ rest) = Takes g is_settled old new rest
Takes {R = R} g is_settled old new (took call answer ∷ rest) = (mid : Station R) × IsStep g call old mid answer × Takes g is_settled mid new rest
Takes {R = R} g is_settled old new (stored answer ∷ rest) = (mid : Station R) × Settling g is_settled old mid answer × Takes g is_settled mid new rest
Takes g is_settled old new (aside what ∷ rest) = Takes g is_settled old new rest

-- the station was stopped by its rows, otherwise than for memory
abbrev pub IsByStore : StepRefusal → Type 0
IsByStore (Store fault) = ¬ (fault ≡ row_faults.OutOfMemory)
IsByStore _ = ⊥

-- the station was stopped for memory, its own or that of its rows
abbrev pub IsForMemory : StepRefusal → Type 0
IsForMemory (Store fault) = fault ≡ row_faults.OutOfMemory
IsForMemory OutOfMemory = Unit {0}
IsForMemory _ = ⊥

-- in this event the station answered so
abbrev pub IsRefused : Event → StepRefusal → Type 0
IsRefused (asked moment) refusal = ⊥
IsRefused (took call answer) refusal = answer ≡ Err refusal
IsRefused (stored answer) refusal = answer ≡ Err refusal
IsRefused (aside what) refusal = ⊥

-- the station has stopped, and the last that it answered is a refusal of this kind
pub record Stops (log : List Event) (new : Bool) (Kind : StepRefusal → Type 0) : Type 0 where
  pub before : List Event
  pub last : Event
  pub refusal : StepRefusal
  pub refused : IsRefused last refusal
  pub kind : Kind refusal
  pub is_last : log ≡ before ++ last ∷ []
  pub stopped : new ≡ true

-- an end has its cause: only by its store or for memory did the station stop; where it goes on and memory is the cause, a growth of the command was refused
abbrev pub HasCause : List Event → Bool → Bool → End → Type 0
HasCause log old new ends.Done = new ≡ old
HasCause log old new ends.Input = new ≡ old
HasCause log old new ends.Usage = ⊥
HasCause log old new ends.Store = Stops log new IsByStore
HasCause log old new ends.Socket = new ≡ old
HasCause log old new ends.Memory = (new ≡ old) ⊎ Stops log new IsForMemory
HasCause log old new ends.Busy = ⊥

-- how a command goes on or ends
abbrev pub ended : {A : Type 0} → Result A Fault → End
ended (Ok done) = ends.Done
ended (Err fault) = end_of fault
