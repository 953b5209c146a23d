-- A world in which nothing has happened yet.
use Rattle.std.specs.Prelude.{◌≡◌, ◌≤◌, ℕ, suc, List, [], Some, None, false, Result, Ok, Err, length, slice_get}
use Rattle.protocol.specs.Seats.{Seat, sits}
use Rattle.protocol.specs.Rows.{blank}
use Rattle.protocol.specs.Versions.{Version}
use Rattle.protocol.specs.Limits.{most_members}
use Rattle.code_table.specs.Tables.{Places}
use Rattle.widths.specs.Widths.{WidthFile}
use Rattle.rows_saved.specs.Saved.{Saved}
use Rattle.rows_saved.specs.declared.balky.Balky.{Balky}
use Rattle.rows_saved.specs.declared.rows.Rows.{Ghosts}
use Rattle.node_core.specs.Standing.{StandsFor as CoreStandsFor}
use Rattle.station.specs.declared.station.Station.{Station}
use Rattle.world.specs.declared.world.World.{World}
use Rattle.world.specs.declared.world.NewWorldFault.{NewWorldFault}
use Rattle.world.specs.declared.world.NewWorldFault.TheVariants.{BadCount, OutOfMemory}
use Rattle.world.specs.Setups.{StationCircuit, IsSetUp}
use Rattle.world.specs.Worlds.{count_of}

-- what a member is given: its code table, its widths and its rows
abbrev pub Part : Type 0 → Type 0
Part R = Places × WidthFile × R

-- a member's code table and its widths
abbrev pub Given : Type 0
Given = Places × WidthFile

-- what a member is given but for its rows
abbrev pub given_of : {R : Type 0} → Part R → Given
given_of part = (part.0, part.1)

-- a circuit has 1 to 15 members
abbrev pub IsCount : ℕ → Type 0
IsCount n = (1 ≤ n) × (n ≤ most_members)

-- the station of this seat, which has taken nothing in, with this table, these widths and these rows, unarmed, and in their version
pub record IsNew {R : Type 0} (version : R → Version) (seat : Seat) (part : Part R) (s : Station (Balky R)) : Type 0 where
  pub circuit : s.speaker.core.circuit ≡ seat.circuit
  pub members : s.speaker.core.members ≡ seat.members
  pub me : s.speaker.core.me ≡ seat.me
  pub table : s.table ≡ part.0
  pub widths : s.widths ≡ part.1
  pub rows : s.rows.rows ≡ part.2
  pub unarmed : s.rows.armed ≡ None
  pub goes : s.stopped ≡ false
  pub stands : CoreStandsFor s.speaker.core []
  pub wire : s.speaker.wire ≡ version part.2

-- the stations are those of the parts, numbered from 1 in order
abbrev pub AreNew : {R : Type 0} → (R → Version) → ℕ → ℕ → List (Part R) → List (Station (Balky R)) → Type 0
AreNew {R = R} version k c parts stations =
    (i : ℕ) (s : Station (Balky R)) → slice_get stations i ≡ Some s
    → (part : Part R) × (slice_get parts i ≡ Some part) × IsNew version (sits k (suc i) c) part s

-- all members of circuit k, and nothing went between them
pub record IsFounded {R : Type 0} (version : R → Version) (k : ℕ) (parts : List (Part R)) (v : World R) : Type 0 where
  pub count : count_of v ≡ length parts
  pub stations : AreNew version k (length parts) parts v.stations.items
  pub sent : v.sent.items ≡ []
  pub offers : v.offers.items ≡ []
  pub releases : v.releases.items ≡ []

-- why there is no world: a count that is none, and the list handed back; or want of memory
abbrev pub IsUnfounded : {R : Type 0} → List (Part R) → NewWorldFault R → Type 0
IsUnfounded parts (BadCount back) = (¬ IsCount (length parts)) × (back.items ≡ parts)
IsUnfounded parts OutOfMemory = IsCount (length parts)

-- it was founded, of a count that a circuit has, or not
abbrev pub Founds : {R : Type 0} → (R → Version) → ℕ → List (Part R) → Result (World R) (NewWorldFault R) → Type 0
Founds version k parts (Ok v) = IsCount (length parts) × IsFounded version k parts v
Founds version k parts (Err fault) = IsUnfounded parts fault

-- no row is saved
abbrev pub AreBlank : {R : Type 0} → (R → Type 0) → (R → Saved) → List (Part R) → Type 0
AreBlank {R = R} is_open saved parts =
    (i : ℕ) (part : Part R) → slice_get parts i ≡ Some part → is_open part.2 → (n : ℕ) → saved part.2 n ≡ blank

-- each member's rows are at its version
abbrev pub AreAt : {R : Type 0} → (R → Version) → (ℕ → Version) → List (Part R) → Type 0
AreAt {R = R} version at parts = (i : ℕ) (part : Part R) → slice_get parts i ≡ Some part → version part.2 ≡ at (suc i)

-- what the rows stand on was made for their member, and while they are kept and open none is saved
abbrev pub IsNewlyMade : {R : Type 0} → Ghosts R → R → Type 0
IsNewlyMade g rows = g.made rows × (g.kept rows → g.is_open rows → (n : ℕ) → g.saved rows n ≡ blank)

-- the rows of each member were just made for it
abbrev pub AreNewlyMade : {R : Type 0} → Ghosts R → List (Part R) → Type 0
AreNewlyMade {R = R} g parts = (i : ℕ) (part : Part R) → slice_get parts i ≡ Some part → IsNewlyMade g part.2

-- circuit k, set up by these members' tables and widths
pub record IsCircuitOf (k : ℕ) (members : List Given) (z : StationCircuit) : Type 0 where
  pub tables : ℕ → Places
  pub files : ℕ → WidthFile
  pub set_up : IsSetUp tables files z
  pub number : z.number ≡ k
  pub count : z.count ≡ length members
  pub table : (i : ℕ) (member : Given) → slice_get members i ≡ Some member → tables (suc i) ≡ member.0
  pub widths : (i : ℕ) (member : Given) → slice_get members i ≡ Some member → files (suc i) ≡ member.1
