-- What `serve` did: what its station was asked and which turns it took, and what was printed of that.
use Rattle.std.specs.Prelude.{◌≡◌, ◌+◌, ℕ, List, [], ◌∷◌, ◌++◌, false, Option, Some, None, Result, Ok, Err, OnOk}
use Rattle.std.specs.Io.KnownBytes.{Appends}
use Rattle.streams.specs.Fronts.{AppendsFront}
use Rattle.protocol.specs.Entries.{Entry, Tape, Void, Taped}
use Rattle.protocol.specs.Refusals.{Offering, Seeking}
use Rattle.rows_saved.specs.declared.rows.Rows.{Ghosts}
use Rattle.tape_frames.specs.Entries.{owned_entry}
use Rattle.station.specs.declared.answer.Answer.{Answer}
use Rattle.station.specs.declared.answer.Release.{Release}
use Rattle.refusals.specs.declared.refusal.StepRefusal.{StepRefusal}
use Rattle.station.specs.Readiness.{slugs_of}
use Rattle.wire.specs.Passing.{Trace}
use Rattle.release_texts.specs.ReleaseText.{release_text}
use Rattle.command_ends.specs.declared.fault.Fault.{Fault}
use Rattle.driver.specs.Events.{Event, asked, took, stored, aside, ended}
use Rattle.driver.specs.Driving.{Fate, known, post_in, Drove, AtClock, Then, IsTurn}
use Rattle.driver.specs.declared.machine.Machine.{Machine}
use Rattle.serve_command.specs.declared.serve_loop.ServeTask.{ServeTask}

-- a release is written as its line, and its galley where its tape sets
abbrev pub release_of : Release → List ℕ
release_of r = release_text [] r.number (owned_entry r.entry) (slugs_of r.set)

-- what is written of a release, if there is one
abbrev pub printing : Option Release → List ℕ
printing None = []
printing (Some r) = release_of r

-- what is written of an answer; of a refusal nothing is
abbrev pub written : Result Answer StepRefusal → List ℕ
written (Ok answer) = printing answer.release
written (Err refusal) = []

-- What is printed while these events happen, if this text waits before them. What a step releases waits until all that the station saved is
-- stored. If that is refused, it is never printed.
abbrev pub printed_behind : List ℕ → List Event → List ℕ
printed_behind waits [] = []
printed_behind waits (asked moment ∷ rest) = printed_behind waits rest
printed_behind waits (took call answer ∷ rest) = printed_behind (waits ++ written answer) rest
printed_behind waits (stored (Ok done) ∷ rest) = waits ++ printed_behind [] rest
printed_behind waits (stored (Err refusal) ∷ rest) = printed_behind waits rest
printed_behind waits (aside what ∷ rest) = printed_behind waits rest

-- what waits to be printed behind these events
abbrev pub unprinted_behind : List ℕ → List Event → List ℕ
unprinted_behind waits [] = waits
unprinted_behind waits (asked moment ∷ rest) = unprinted_behind waits rest
unprinted_behind waits (took call answer ∷ rest) = unprinted_behind (waits ++ written answer) rest
unprinted_behind waits (stored (Ok done) ∷ rest) = unprinted_behind [] rest
unprinted_behind waits (stored (Err refusal) ∷ rest) = unprinted_behind waits rest
unprinted_behind waits (aside what ∷ rest) = unprinted_behind waits rest

-- While these events happened, the text of each release was printed whose save is stored, in order. There is no other release.
pub record PrintsStored (old new : Option (List ℕ)) (log : List Event) : Type 0 where
  pub text : Appends old new (printed_behind [] log)
  pub none_waits : unprinted_behind [] log ≡ []

-- a prefix of the text of those releases was printed whose saves are stored
abbrev pub PrintsPrefix : Option (List ℕ) → Option (List ℕ) → List Event → Type 0
PrintsPrefix old new log = AppendsFront old new (printed_behind [] log)

-- what becomes of an output
abbrev pub prints : {W : Type 0} → (W → Option (List ℕ)) → Fate W
prints contents = record {
  lived = λ old new log. PrintsStored (contents old) (contents new) log;
  front = λ old new log. PrintsPrefix (contents old) (contents new) log;
}

-- what `serve` did up to this result by events of this form, on a machine with its output, as it was and as it is: rows that are kept in the
-- end were kept before, and where the station has stopped the result is a fault
pub record ServesBy {R N W : Type 0} (Form : List Event → Type 0) (result : Result (Unit {0}) Fault) (rows : Ghosts R) (is_settled : R → Type 0)
    (passed : N → Trace) (contents : W → Option (List ℕ)) (old new : Machine R N W) : Type 0 where
  pub done : Drove (known rows is_settled passed (prints contents)) (post_in old) (post_in new) (ended result) Form
  pub was_kept : rows.kept new.station.rows → rows.kept old.station.rows
  pub goes_on : OnOk result (new.station.stopped ≡ false)

-- the entry was taken, and what the station saved of it was stored
abbrev pub IsOffering : ℕ → Entry → ℕ → List Event → Type 0
IsOffering n entry now log = (answer : Answer) × (log ≡ took (Offering n entry now) (Ok answer) ∷ stored (Ok tt) ∷ [])

-- the search was begun, and what the station saved of it was stored
abbrev pub IsSeeking : ℕ → ℕ → List Event → Type 0
IsSeeking n now log = (answer : Answer) × (log ≡ took (Seeking n now) (Ok answer) ∷ stored (Ok tt) ∷ [])

-- the tape was offered, if there is one
abbrev pub IsOffer : Option (ℕ × Tape) → List Event → Type 0
IsOffer None log = log ≡ []
IsOffer (Some offer) log = AtClock (IsOffering offer.0 (Taped offer.1)) log

-- the withdrawal was offered, if there is one
abbrev pub IsWithdrawal : Option ℕ → List Event → Type 0
IsWithdrawal None log = log ≡ []
IsWithdrawal (Some number) log = AtClock (IsOffering number Void) log

-- the search was made, if there is one
abbrev pub IsSearch : Option ℕ → List Event → Type 0
IsSearch None log = log ≡ []
IsSearch (Some number) log = AtClock (IsSeeking number) log

-- so many turns, each at the moment of the clock
pub data AreTurns : ℕ → List Event → Type 0 where
  none : AreTurns 0 []
  one_more :
      (n m : ℕ) (before last log : List Event) → m ≡ n + 1 → AreTurns n before → AtClock IsTurn last
      → log ≡ before ++ last → AreTurns m log

-- what is asked after the offer: the withdrawal, then the search
abbrev pub IsLaterAsking : Option ℕ → Option ℕ → List Event → Type 0
IsLaterAsking withdraw seek log = Then (IsWithdrawal withdraw) (IsSearch seek) log

-- the offer, then the withdrawal, then the search
abbrev pub IsAsking : Option (ℕ × Tape) → Option ℕ → Option ℕ → List Event → Type 0
IsAsking offer withdraw seek log = Then (IsOffer offer) (IsLaterAsking withdraw seek) log

-- what is asked first, and then so many turns
abbrev pub IsRun : ServeTask → List Event → Type 0
IsRun task log = Then (IsAsking task.offer task.withdraw task.seek) (AreTurns task.turns) log
