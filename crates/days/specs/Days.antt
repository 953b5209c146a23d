-- The days of a circuit's processes, and what is agreed in each.
use Rattle.std.specs.Prelude.{◌≡◌, ℕ, List, [], ◌∷◌, Result, Err}
use Rattle.protocol.specs.Ballots.{IsMember}
use Rattle.protocol.specs.Refusals.{Call}
use Rattle.protocol.specs.Circuit.{with_at}
use Rattle.code_table.specs.Tables.{mean}
use Rattle.rows_saved.specs.declared.rows.Rows.{Ghosts}
use Rattle.tape_frames.specs.Entries.{owned_entry}
use Rattle.station.specs.declared.answer.Answer.{Answer}
use Rattle.station.specs.declared.answer.Release.{Release}
use Rattle.station.specs.declared.station.Station.{Station}
use Rattle.station.specs.Readiness.{SetsEntry, slugs_of, IsNumber}
use Rattle.station.specs.Stations.{sight}
use Rattle.station.specs.Settling.{IsReadAlike}
use Rattle.station.specs.Steps.{IsStep}
use Rattle.refusals.specs.declared.refusal.StepRefusal.{StepRefusal}
use Rattle.refusals.specs.declared.refusal.StepRefusal.TheVariants.{Stopped}
use Rattle.days.specs.Happening.{Ending, Happened, did, ended, began, Releases, WasReleased, WasOffered, Came, CameIn}
use Rattle.days.specs.Handing.{Plants, Begins, HasNoRow, HandsOver, Member, runs, over, after_call}

-- a day of these plants: what happened to their processes, the latest first, and how each member stands after it
pub data Day {R : Type 0} (g : Ghosts R) (p : Plants) : List Happened → (ℕ → Member R) → Type 0 where
  -- it begins with each member's first process, over rows just made
  dawns :
      (at : ℕ → Member R) → ((m : ℕ) → IsMember p.count m → (s : Station R) × (at m ≡ runs s) × Begins g p m s × HasNoRow g s) → Day g p [] at
  -- a process calls its station, whose rows are kept, and is answered; a datagram that it takes in was handed out for it in the day
  answers :
      {day : List Happened} {at : ℕ → Member R} → Day g p day at → (m : ℕ) (call : Call) (old new : Station R) (answer : Result Answer StepRefusal)
      → IsMember p.count m → at m ≡ runs old → Came day m call → g.kept new.rows → IsStep g call old new answer
      → Day g p (did m call answer ∷ day) (with_at at m (after_call call answer old new))
  -- a process stores what its station saved, which is read as before
  settles :
      {day : List Happened} {at : ℕ → Member R} → Day g p day at → (m : ℕ) (old new : Station R)
      → IsMember p.count m → at m ≡ runs old → g.kept new.rows → IsReadAlike g old new → Day g p day (with_at at m (runs new))
  -- a process whose station has stopped calls it again, and is refused
  refuses :
      {day : List Happened} {at : ℕ → Member R} → Day g p day at → (m : ℕ) (call : Call) (ending : Ending) (last : Station R)
      → IsMember p.count m → at m ≡ over ending last → Day g p (did m call (Err Stopped) ∷ day) at
  -- a process ends: between two calls, in a call, or in an upgrade of its rows
  ends :
      {day : List Happened} {at : ℕ → Member R} → Day g p day at → (m : ℕ) (ending : Ending) (last : Station R)
      → IsMember p.count m → at m ≡ runs last → CameIn day m ending
      → Day g p (ended m ending ∷ day) (with_at at m (over ending last))
  -- the next process of a member begins, over what the last one left
  begins :
      {day : List Happened} {at : ℕ → Member R} → Day g p day at → (m : ℕ) (ending : Ending) (last next : Station R)
      → IsMember p.count m → at m ≡ over ending last → HandsOver (sight g) ending last next → Begins g p m next
      → Day g p (began m ∷ day) (with_at at m (runs next))

-- what is agreed in a day: any two releases of one number, of one member or of two, by one process or by two, have one entry (`one`);
-- a released entry was offered for its number in the day (`offered`), and that is one which a story has (`numbered`);
-- and it is set as the member's own code table and widths set it (`set`)
pub record IsDayAgreed (p : Plants) (day : List Happened) : Type 0 where
  pub one : (j k : ℕ) (r q : Release) → WasReleased day j r → WasReleased day k q → r.number ≡ q.number → owned_entry r.entry ≡ owned_entry q.entry
  pub offered : (m : ℕ) (r : Release) → WasReleased day m r → WasOffered day r.number (owned_entry r.entry)
  pub numbered : (m : ℕ) (r : Release) → WasReleased day m r → IsNumber r.number
  pub set : (m : ℕ) (r : Release) → WasReleased day m r → SetsEntry (mean (p.tables m)) (p.files m) (owned_entry r.entry) (slugs_of r.set)

-- each released entry was offered for its number no later than in the call that released it
abbrev pub OfferedFirst : List Happened → Type 0
OfferedFirst [] = Unit {0}
OfferedFirst (x ∷ day) = ((m : ℕ) (r : Release) → Releases m r x → WasOffered (x ∷ day) r.number (owned_entry r.entry)) × OfferedFirst day

-- the headline of the processes: whatever plants a circuit has, and over whatever rows, each of its days is agreed
abbrev pub DaysAgree : {R : Type 0} → Ghosts R → Type 0
DaysAgree {R = R} g = (p : Plants) (day : List Happened) (at : ℕ → Member R) → Day g p day at → IsDayAgreed p day × OfferedFirst day
