-- A circuit of stations, from the setting that each tape has and from the version that is read in bytes.
use Rattle.std.proofs.Common.{ℕ, List, [], refl}
use Rattle.std.specs.Prelude.{Result, Ok}
use Rattle.protocol.specs.Entries.{Entry, Void, Taped}
use Rattle.packets.specs.Grammar.{said_version}
use Rattle.packets.specs.Laws.{ReadAsSaid}
use Rattle.packets.specs.Reading.{packet_in}
use Rattle.code_table.specs.Tables.{Places, mean}
use Rattle.widths.specs.Widths.{WidthFile}
use Rattle.line_check.specs.Laws.{HasSetting}
use Rattle.line_check.specs.declared.slug.Slug.{Slug}
use Rattle.line_check.specs.declared.fault.SetFault.{SetFault}
use Rattle.station.specs.Readiness.{SetsEntry}
use Rattle.world.specs.Setups.{StationCircuit}
use Rattle.world.specs.Laws.{CircuitsExist}

-- an entry sets in some way: a withdrawal as no slug
sets : HasSetting → (table : Places) (widths : WidthFile) (entry : Entry) → (r : Result (List Slug) SetFault) × SetsEntry (mean table) widths entry r
sets settings table widths Void = (Ok [], refl)
sets settings table widths (Taped tape) = settings (mean table) widths tape

pub circuits_exist : HasSetting → ReadAsSaid → CircuitsExist
circuits_exist settings says number count tables files =
    let set = λ (m : ℕ) (entry : Entry). sets settings (tables m) (files m) entry in
    let z : StationCircuit = record { number = number; count = count; reads = packet_in; version_of = said_version; sets = λ m entry. (set m entry).0; says = says } in
    (z, refl, refl, record { reads = λ v bytes. refl; version_of = λ bytes. refl; sets = λ m entry. (set m entry).1 })
