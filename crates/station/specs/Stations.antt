-- A station: how it is set up, and the words of its rows.
use Rattle.std.specs.Prelude.{◌≡◌, ℕ, [], Option, Some, None, Result, Ok, Err, true, false, if◌then◌else◌}
use Rattle.protocol.specs.Entries.{Entry, Void, Taped}
use Rattle.protocol.specs.Rows.{Row}
use Rattle.protocol.specs.Versions.{Version, fits}
use Rattle.protocol.specs.Refusals.{Setup}
use Rattle.rows_saved.specs.Saved.{Saved}
use Rattle.rows_saved.specs.declared.fault.RowsFault.{RowsFault}
use Rattle.rows_saved.specs.declared.rows.Rows.{Ghosts}
use Rattle.code_table.specs.Tables.{Places, mean}
use Rattle.widths.specs.Widths.{WidthFile}
use Rattle.packets.specs.Reading.{packet_at}
use Rattle.packets.specs.declared.fault.PacketFault.{PacketFault}
use Rattle.line_check.specs.Sets.{first_fault}
use Rattle.line_check.specs.declared.fault.SetFault.{SetFault}
use Rattle.node_core.specs.Standing.{StandsFor, IsSameSeat, seat_of}
use Rattle.station.specs.Speaking.{is_lower}
use Rattle.station.specs.declared.station.Station.{Station}

-- what is said of saved rows: whether they are kept and open, what is saved, at which version they are, which rows differ only
-- by what was read, by a save or by an upgrade that was done, what a save or an upgrade that was refused tells, and what a refused call blames
pub record Sight (R : Type 0) : Type 1 where
  pub kept : R → Type 0
  pub is_open : R → Type 0
  pub saved : R → Saved
  pub version : R → Version
  pub alike : R → R → Type 0
  pub passes : R → R → Type 0
  pub tells : R → R → ℕ → Row → Type 0
  pub upgrades : R → R → Type 0
  pub balks : R → R → Type 0
  pub blames : R → R → RowsFault → Type 0

-- of the words of rows those that a step or an upgrade speaks of
abbrev pub sight : {R : Type 0} → Ghosts R → Sight R
sight g =
    record {
      kept = g.kept;
      is_open = g.is_open;
      saved = g.saved;
      version = g.version;
      alike = g.alike;
      passes = g.passes;
      tells = g.tells;
      upgrades = g.upgrades;
      balks = g.balks;
      blames = g.blames;
    }

-- a tape sets where it has no first fault
abbrev pub unless_faulty : Option SetFault → Result (Unit {0}) SetFault
unless_faulty None = Ok tt
unless_faulty (Some fault) = Err fault

-- whether an entry sets by this code table and these widths; a withdrawal has nothing to set
abbrev pub sets_entry : Places → WidthFile → Entry → Result (Unit {0}) SetFault
sets_entry table widths Void = Ok tt
sets_entry table widths (Taped tape) = unless_faulty (first_fault (mean table) widths tape)

-- where the station sits, the grammar of packets and the entries of the version that it speaks,
-- and whether an entry sets by its own code table and widths
abbrev pub setup_of : {R : Type 0} → Station R → Setup PacketFault (Unit {0}) SetFault
setup_of s =
    record { seat = seat_of s.speaker.core; reads = packet_at s.speaker.wire; fits = fits s.speaker.wire; sets = sets_entry s.table s.widths }

-- the circuit, the count, which member it is, the code table and the widths stay
pub record IsFixed {R : Type 0} (old new : Station R) : Type 0 where
  pub circuit : new.speaker.core.circuit ≡ old.speaker.core.circuit
  pub members : new.speaker.core.members ≡ old.speaker.core.members
  pub me : new.speaker.core.me ≡ old.speaker.core.me
  pub table : new.table ≡ old.table
  pub widths : new.widths ≡ old.widths

-- the station forgets what it took in, and takes no step until a restart, or an upgrade that is Ok; its rows stay
pub record Halts {R : Type 0} (old new : Station R) : Type 0 where
  pub stands : StandsFor new.speaker.core []
  pub wire : new.speaker.wire ≡ old.speaker.wire
  pub fixed : IsFixed old new
  pub stopped : new ≡ record old { speaker = new.speaker; stopped = true }

-- whatever a step does with its rows: their version stays, what is kept now was kept before, and what was made for the store stays so
pub record StaysMade {R : Type 0} (g : Ghosts R) (old new : R) : Type 0 where
  pub version : g.version new ≡ g.version old
  pub was_kept : g.kept new → g.kept old
  pub made : g.made old → g.made new

-- the station with these rows
abbrev pub with_rows : {R : Type 0} → Station R → R → Station R
with_rows s rows = record s { rows = rows }

-- in which version the station's next step speaks: in that of its rows, which a station that is stopped does not look at
abbrev pub wire_at : {R : Type 0} → Sight R → Station R → Version
wire_at x s = if s.stopped then s.speaker.wire else x.version s.rows

-- the station takes that version over, and keeps what it took in; where another left its rows at a lower version than its own, it forgets that
pub record Follows {R : Type 0} (x : Sight R) (old new : Station R) : Type 0 where
  pub same : new ≡ record old { speaker = new.speaker }
  pub fixed : IsFixed old new
  pub wire : new.speaker.wire ≡ wire_at x old
  pub keeps : is_lower (wire_at x old) old.speaker.wire ≡ false → new.speaker.core ≡ old.speaker.core
  pub forgets : is_lower (wire_at x old) old.speaker.wire ≡ true → StandsFor new.speaker.core []

-- the station speaks the version of its rows from now on, in which circuit and as which member it did; one that has not stopped takes it over
pub record FollowsRows {R : Type 0} (g : Ghosts R) (old new : Station R) : Type 0 where
  pub same : new ≡ record old { speaker = new.speaker }
  pub wire : new.speaker.wire ≡ g.version old.rows
  pub seat : IsSameSeat old.speaker.core new.speaker.core
  pub follows : old.stopped ≡ false → Follows (sight g) old new
