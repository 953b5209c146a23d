-- What a driver is to do for a desk, and by which events it is done.
use Rattle.std.specs.Prelude.{◌≡◌, ◌⊎◌, ℕ, List, [], ◌∷◌, Result, Ok}
use Rattle.protocol.specs.Refusals.{Recalling, Seeking}
use Rattle.recalls.specs.Recalls.{Recall}
use Rattle.recalls.specs.Spelling.{spelling}
use Rattle.rolls.specs.Rolls.{Roll}
use Rattle.rolls.specs.Spelling.{spelling as roll_spelling}
use Rattle.refusals.specs.declared.refusal.StepRefusal.{StepRefusal}
use Rattle.station.specs.declared.answer.Answer.{Answer}
use Rattle.catch_up.specs.Errands.{IsGoodErrand}
use Rattle.catch_up.specs.declared.errand.Errand.{Errand}
use Rattle.catch_up.specs.declared.errand.Errand.TheVariants as errands
use Rattle.driver.specs.Events.{Event, took, stored, aside, hailed, rolled}
use Rattle.driver.specs.declared.calls.Call.{Call}
use Rattle.driver.specs.Calls.{call_of}
use Rattle.driver.specs.Driving.{MayStore, IsTakingUp, IsDueUp, Then}
use Rattle.driver.specs.declared.desk.Todo.{Todo}
use Rattle.driver.specs.declared.desk.Todo.TheVariants as todos

-- of an errand that sends, the bytes spell a recall or a roll to the member that they are sent to
abbrev pub IsGoodTodo : Todo → Type 0
IsGoodTodo (todos.Ask request) = Unit {0}
IsGoodTodo (todos.Run errand) = IsGoodErrand errand

-- these bytes spell a recall or a roll to this member
abbrev pub IsGoodSending : ℕ → List ℕ → Type 0
IsGoodSending to bytes = ((r : Recall) × (bytes ≡ spelling r) × (r.to ≡ to)) ⊎ ((r : Roll) × (bytes ≡ roll_spelling r) × (r.to ≡ to))

-- a recall or a roll that these bytes spell was sent to this member, once what the station saved was stored, and nothing else happened
abbrev pub IsHailing : ℕ → List ℕ → List Event → Type 0
IsHailing to bytes log =
    ((r : Recall) × (bytes ≡ spelling r) × (r.to ≡ to) × (log ≡ aside (hailed r) ∷ stored (Ok tt) ∷ []))
    ⊎ ((r : Roll) × (bytes ≡ roll_spelling r) × (r.to ≡ to) × (log ≡ aside (rolled r) ∷ stored (Ok tt) ∷ []))

-- the station was asked to tell its vote of this number again to this member
abbrev pub IsTellingAgain : ℕ → ℕ → List Event → Type 0
IsTellingAgain n to log = (answer : Result Answer StepRefusal) × (log ≡ took (Recalling n to) answer ∷ [])

-- the station was asked to search this number at this moment
abbrev pub IsSearching : ℕ → ℕ → List Event → Type 0
IsSearching n now log = (answer : Result Answer StepRefusal) × (log ≡ took (Seeking n now) answer ∷ [])

-- what an errand is run by
abbrev pub IsRunOf : Errand → ℕ → List Event → Type 0
IsRunOf (errands.Send to bytes) now log = IsHailing to bytes.items log
IsRunOf (errands.Tell number to) now log = IsTellingAgain number to log
IsRunOf (errands.Seek number) now log = IsSearching number now log

-- the station was asked for a file at this moment, or was not asked
abbrev pub IsAskingFor : ℕ → List Event → Type 0
IsAskingFor now log = (log ≡ []) ⊎ ((call : Call) × (answer : Result Answer StepRefusal) × (log ≡ took (call_of call now) answer ∷ []))

-- what was to be done for the desk was done at this moment
abbrev pub IsTodoDone : Todo → ℕ → List Event → Type 0
IsTodoDone (todos.Ask request) now log = IsAskingFor now log
IsTodoDone (todos.Run errand) now log = IsRunOf errand now log

-- a deed: the desk did it, or said what was to be done
abbrev pub IsDeed : ℕ → List Event → Type 0
IsDeed now log = (log ≡ []) ⊎ ((todo : Todo) × IsTodoDone todo now log)

-- a work: a look, in which nothing happens, a datagram that waits or is waited for, what is due, or a deed
abbrev pub IsWorkDone : ℕ → List Event → Type 0
IsWorkDone now log = (log ≡ []) ⊎ (IsTakingUp now log ⊎ (IsDueUp now log ⊎ IsDeed now log))

-- the next work: what the works before it saved may be stored, and then it is done
abbrev pub IsNextWork : ℕ → List Event → Type 0
IsNextWork now log = Then MayStore (IsWorkDone now) log
