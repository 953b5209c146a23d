-- A circuit as its stations are built: they read packets by the grammar of each version, and each sets entries by its own table and widths.
use Rattle.std.specs.Prelude.{◌≡◌, ℕ, List}
use Rattle.protocol.specs.Entries.{Entry}
use Rattle.protocol.specs.Versions.{Version}
use Rattle.protocol.specs.Circuit.{Circuit, State}
use Rattle.packets.specs.Grammar.{said_version}
use Rattle.packets.specs.Reading.{packet_in}
use Rattle.packets.specs.declared.fault.PacketFault.{PacketFault}
use Rattle.code_table.specs.Tables.{Places, mean}
use Rattle.widths.specs.Widths.{WidthFile}
use Rattle.line_check.specs.declared.slug.Slug.{Slug}
use Rattle.line_check.specs.declared.fault.SetFault.{SetFault}
use Rattle.station.specs.Readiness.{SetsEntry}

-- a circuit of stations: what bytes are read as, and what an entry sets as
abbrev pub StationCircuit : Type 0
StationCircuit = Circuit PacketFault (List Slug) SetFault

-- where such a circuit stands
abbrev pub StationState : Type 0
StationState = State (List Slug) SetFault

-- packets of either version are read by the grammar, bytes say by their third of which version they are,
-- and member m sets entries by its table and its width file
pub record IsSetUp (tables : ℕ → Places) (files : ℕ → WidthFile) (z : StationCircuit) : Type 0 where
  pub reads : (v : Version) (bytes : List ℕ) → z.reads v bytes ≡ packet_in v bytes
  pub version_of : (bytes : List ℕ) → z.version_of bytes ≡ said_version bytes
  pub sets : (m : ℕ) (entry : Entry) → SetsEntry (mean (tables m)) (files m) entry (z.sets m entry)
