-- What a process of a member begins with, and what the next one finds of its rows.
use Rattle.std.specs.Prelude.{◌≡◌, ◌⊎◌, ℕ, List, [], Result, Ok, Err, Some, false, if◌then◌else◌}
use Rattle.protocol.specs.Rows.{blank}
use Rattle.protocol.specs.Versions.{Version, Two}
use Rattle.protocol.specs.Marks.{Mark}
use Rattle.protocol.specs.Turn.{Event, number_of, Turn}
use Rattle.protocol.specs.Refusals.{Call}
use Rattle.code_table.specs.Tables.{Places}
use Rattle.widths.specs.Widths.{WidthFile}
use Rattle.rows_saved.specs.Saved.{Saved, SameRows, WithRow}
use Rattle.rows_saved.specs.declared.rows.Rows.{Ghosts}
use Rattle.node_core.specs.Standing.{StandsFor}
use Rattle.station.specs.declared.answer.Answer.{Answer}
use Rattle.station.specs.declared.station.Station.{Station}
use Rattle.refusals.specs.declared.refusal.StepRefusal.{StepRefusal}
use Rattle.station.specs.Stations.{Sight}
use Rattle.station.specs.Steps.{Asks, turn_of, tears}
use Rattle.days.specs.Happening.{Ending, At_rest, In_call, Upgrading}

-- the plants of a circuit: its number, how many they are, and the code table and the width file of each
pub record Plants : Type 0 where
  pub number : ℕ
  pub count : ℕ
  pub tables : ℕ → Places
  pub files : ℕ → WidthFile

-- a process of this member begins with this station, as `Station::new` makes it: it sits as the plants say, over rows that are open,
-- speaks their version, and has taken nothing in
pub record Begins {R : Type 0} (g : Ghosts R) (p : Plants) (m : ℕ) (s : Station R) : Type 0 where
  pub circuit : s.speaker.core.circuit ≡ p.number
  pub members : s.speaker.core.members ≡ p.count
  pub me : s.speaker.core.me ≡ m
  pub table : s.table ≡ p.tables m
  pub widths : s.widths ≡ p.files m
  pub is_open : g.is_open s.rows
  pub wire : s.speaker.wire ≡ g.version s.rows
  pub stands_for : StandsFor s.speaker.core []
  pub goes : s.stopped ≡ false

-- no row is saved
abbrev pub HasNoRow : {R : Type 0} → Ghosts R → Station R → Type 0
HasNoRow g s = (n : ℕ) → g.saved s.rows n ≡ blank

-- this call of the station has saved the row of its turn, and these rows are found then: nothing refuses the call, and its turn changes the row of its number
pub record HasSaved {R : Type 0} (x : Sight R) (last : Station R) (marks : List Mark) (call : Call) (found : Saved) : Type 0 where
  pub event : Event
  pub asks : Asks last marks call event
  pub taken : Turn
  pub is_turn : turn_of x last marks event ≡ Some taken
  pub changes : ¬ (taken.row ≡ x.saved last.rows (number_of event))
  pub rows : WithRow (x.saved last.rows) (number_of event) taken.row found

-- a call that was cut off, or that stopped its station, may leave these rows: those before it, or those with the row of its turn
abbrev pub MayLeave : {R : Type 0} → Sight R → Station R → Call → Saved → Type 0
MayLeave x last call rows =
    SameRows (x.saved last.rows) rows ⊎ ((marks : List Mark) → StandsFor last.speaker.core marks → HasSaved x last marks call rows)

-- the next process finds these rows at this version, where the one before ended so, with this station as it was before the call or the upgrade that it was in:
-- after a process at rest the same rows, in a call those that it may leave, in an upgrade the same rows, all at the version before or all at version 2
abbrev pub FindsRows : {R : Type 0} → Sight R → Ending → Station R → Saved → Version → Type 0
FindsRows x At_rest last rows version = SameRows (x.saved last.rows) rows × (version ≡ x.version last.rows)
FindsRows x (In_call call) last rows version = MayLeave x last call rows × (version ≡ x.version last.rows)
FindsRows x Upgrading last rows version = SameRows (x.saved last.rows) rows × ((version ≡ x.version last.rows) ⊎ (version ≡ Two))

-- one process of a member hands its rows over to the next
abbrev pub HandsOver : {R : Type 0} → Sight R → Ending → Station R → Station R → Type 0
HandsOver x ending last next = FindsRows x ending last (x.saved next.rows) (x.version next.rows)

-- a member: its process runs, with this station; or it is over, or its station has stopped: it ended so, and had this station before the call that it was in
pub data Member (R : Type 0) : Type 0 where
  runs : (station : Station R) → Member R
  over : (ending : Ending) (last : Station R) → Member R

-- a member after a call that was answered so: where the answer stops its station, its process is over
abbrev pub after_call : {R : Type 0} → Call → Result Answer StepRefusal → Station R → Station R → Member R
after_call call (Ok answer) old new = runs new
after_call call (Err refusal) old new = if tears refusal then over (In_call call) old else runs new
