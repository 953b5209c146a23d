-- A station that goes on, and a state of the circuit that shows it: what it refuses and which turn it takes are the state's.
use Rattle.std.proofs.Common.{◌≡◌, ℕ, refl, sym, ap, subst, ◌∙◌, List, None, Option, Bool, false}
use Rattle.std.specs.Prelude.{if◌then◌else◌}
use Rattle.protocol.specs.Seats.{sits}
use Rattle.protocol.specs.Entries.{Entry}
use Rattle.protocol.specs.Versions.{Version, One, Two, fits}
use Rattle.protocol.specs.Turn.{Event, number_of, Turn, turn}
use Rattle.protocol.specs.Refusals.{Call, refusal, setting_refusal, event_of}
use Rattle.protocol.specs.Circuit as circuit
use Rattle.protocol.specs.Circuit.{hears, IsSameState}
use Rattle.packets.specs.Reading.{packet_in, packet_at}
use Rattle.packets.specs.declared.fault.PacketFault.{PacketFault}
use Rattle.code_table.specs.Tables.{Places, mean}
use Rattle.widths.specs.Widths.{WidthFile}
use Rattle.rows_saved.specs.declared.rows.Rows.{Ghosts}
use Rattle.node_core.specs.Standing.{StandsFor as CoreStandsFor, seat_of}
use Rattle.station.specs.declared.station.Station.{Station}
use Rattle.station.specs.Readiness.{SetsEntry}
use Rattle.station.specs.Speaking.{is_lower}
use Rattle.station.specs.Stations.{Sight, sight, Follows, wire_at}
use Rattle.station.specs.Stations as stations
use Rattle.station.specs.Steps.{turn_of}
use Rattle.world.specs.Setups.{StationCircuit, StationState, IsSetUp}
use Rattle.world.proofs.Alike.{entry_alike, refusal_alike, event_alike}
use Rattle.days.specs.Handing.{Plants}

pub same_state : (w : StationState) → IsSameState w w
same_state w = record { version = λ m. refl; rows = λ m n. refl; marks = λ m. refl; is_stopped = λ m. refl; armed = λ m. refl; sent = refl; offers = refl; releases = refl }

-- the circuit of these plants
pub record IsOf (p : Plants) (z : StationCircuit) : Type 0 where
  pub number : z.number ≡ p.number
  pub count : z.count ≡ p.count
  pub set_up : IsSetUp p.tables p.files z

-- a station that goes on is what the state has of this member
pub record Shows {R : Type 0} (g : Ghosts R) (p : Plants) (w : StationState) (m : ℕ) (s : Station R) : Type 0 where
  pub circuit : s.speaker.core.circuit ≡ p.number
  pub members : s.speaker.core.members ≡ p.count
  pub me : s.speaker.core.me ≡ m
  pub table : s.table ≡ p.tables m
  pub widths : s.widths ≡ p.files m
  pub wire : s.speaker.wire ≡ w.version m
  pub version : g.version s.rows ≡ w.version m
  pub rows : (n : ℕ) → g.saved s.rows n ≡ w.rows m n
  pub marks : CoreStandsFor s.speaker.core (w.marks m)
  pub goes : s.stopped ≡ false
  pub goes_on : w.is_stopped m ≡ false
  pub unarmed : w.armed m ≡ None

never_lower : (v : Version) → is_lower v v ≡ false
never_lower One = refl
never_lower Two = refl

-- a station that goes on speaks the version of its rows
pub wire_is : {R : Type 0} (x : Sight R) (s : Station R) → s.stopped ≡ false → wire_at x s ≡ x.version s.rows
wire_is x s goes = ap (λ (b : Bool). if b then s.speaker.wire else x.version s.rows) goes

-- where it did so before, it takes nothing over
pub followed : {R : Type 0} (x : Sight R) (s found : Station R) → s.stopped ≡ false → s.speaker.wire ≡ x.version s.rows → Follows x s found → found ≡ s
followed {R = R} x s found goes speaks f =
    let wire : wire_at x s ≡ s.speaker.wire = wire_is x s goes ∙ sym speaks in
    let core : found.speaker.core ≡ s.speaker.core = f.keeps (ap (λ (a : Version). is_lower a s.speaker.wire) wire ∙ never_lower s.speaker.wire) in
    f.same ∙ (λ i. record s { speaker = record { core = core i; wire = (f.wire ∙ wire) i } })

-- a member reads what the grammar of its version gives
hears_at : {tables : ℕ → Places} {files : ℕ → WidthFile} (z : StationCircuit) → IsSetUp tables files z → (v : Version) (bytes : List ℕ) → hears z v bytes ≡ packet_at v bytes
hears_at z set_up One bytes = set_up.reads One bytes
hears_at z set_up Two bytes = set_up.reads (z.version_of bytes) bytes ∙ ap (λ (v : Version). packet_in v bytes) (set_up.version_of bytes)

module _ {R : Type 0} (g : Ghosts R) (p : Plants) (z : StationCircuit) (is : IsOf p z) (w : StationState) (m : ℕ) (s : Station R) (old : Shows g p w m s) where
  pub sets : (entry : Entry) → SetsEntry (mean s.table) s.widths entry (z.sets m entry)
  sets entry =
      let a = subst (λ (t : Places). SetsEntry (mean t) (p.files m) entry (z.sets m entry)) (sym old.table) (is.set_up.sets m entry) in
      subst (λ (f : WidthFile). SetsEntry (mean s.table) f entry (z.sets m entry)) (sym old.widths) a

  reads : (bytes : List ℕ) → hears z (w.version m) bytes ≡ packet_at s.speaker.wire bytes
  reads bytes = hears_at z is.set_up (w.version m) bytes ∙ ap (λ (a : Version). packet_at a bytes) (sym old.wire)

  spells : (entry : Entry) → fits (w.version m) entry ≡ fits s.speaker.wire entry
  spells entry = ap (λ (a : Version). fits a entry) (sym old.wire)

  faults : (entry : Entry) → setting_refusal {D = PacketFault} (z.sets m entry) ≡ setting_refusal {D = PacketFault} (stations.sets_entry s.table s.widths entry)
  faults entry = entry_alike s.table s.widths entry (z.sets m entry) (sets entry)

  seat_is : circuit.seat_at z m ≡ seat_of s.speaker.core
  seat_is = λ j. sits ((is.number ∙ sym old.circuit) j) (sym old.me j) ((is.count ∙ sym old.members) j)

  pub refusal_is : (call : Call) → refusal (circuit.setup_of z (w.version m) m) (w.is_stopped m) (w.marks m) call ≡ refusal (stations.setup_of s) s.stopped (w.marks m) call
  refusal_is call =
      ap (λ (b : Bool). refusal (circuit.setup_of z (w.version m) m) b (w.marks m) call) (old.goes_on ∙ sym old.goes)
      ∙ refusal_alike (circuit.setup_of z (w.version m) m) (stations.setup_of s) seat_is reads spells faults s.stopped (w.marks m) call

  pub event_is : (call : Call) → event_of (circuit.setup_of z (w.version m) m) (w.marks m) call ≡ event_of (stations.setup_of s) (w.marks m) call
  event_is call = event_alike (circuit.setup_of z (w.version m) m) (stations.setup_of s) seat_is reads spells faults (w.marks m) call

  -- a turn of the station's is one of the state's
  pub turns : (e : Event) (o : Option Turn) → turn_of (sight g) s (w.marks m) e ≡ o → turn (circuit.seat_at z m) (w.marks m) (w.rows m (number_of e)) e ≡ o
  turns e o it = (λ j. turn (seat_is j) (w.marks m) (sym (old.rows (number_of e)) j) e) ∙ it
