-- What a station starts from, by its configuration.
use Rattle.std.specs.Prelude.{◌≡◌, ℕ, List, [], length, false, Option, Some, Result, Ok, MatchOption, IfOk, IfErr, IfSome, IsSome, string_bytes}
use Rattle.protocol.specs.Versions as protocol
use Rattle.toml.specs.Parse.{parse_document}
use Rattle.code_table.specs.Tables.{Places}
use Rattle.code_table.specs.Reading.{read_table}
use Rattle.widths.specs.Widths.{WidthFile}
use Rattle.widths.specs.Reading.{read_widths}
use Rattle.tape_frames.specs.declared.version.Version.{Version}
use Rattle.rows_saved.specs.declared.identity.Identity.{Identity}
use Rattle.node_core.specs.Standing.{StandsFor}
use Rattle.station.specs.declared.station.Station.{Station}
use Rattle.wire.specs.Addresses.{address_of}
use Rattle.wire.specs.declared.address.Address.{Address}
use Rattle.seals.specs.declared.opening.Keys.{Keys}
use Rattle.command_ends.specs.Ends.{end_of}
use Rattle.command_ends.specs.declared.end.End.TheVariants.{Store}
use Rattle.command_ends.specs.declared.fault.Fault.{Fault}
use Rattle.configuration.specs.Reading.{ConfigFile, file_of}
use Rattle.configuration.specs.Stations.{IsCircuit}
use Rattle.configuration.specs.declared.config.Config.{Config}
use Rattle.rows_files.specs.Creating.{AreMade, AreNotMade}
use Rattle.rows_files.specs.declared.causes.RefusedRows.{RefusedRows}
use Rattle.commands.specs.declared.files.Files.{Files}
use Rattle.commands.specs.declared.start_up.Launch.{Launch}

-- a station may be started by this configuration: it is one of a circuit, and where a version is given its row file may be made
pub record MayStart (Allowed : Type 0) (config : Config) (create : Option Version) : Type 0 where
  pub circuit : IsCircuit config.member config.stations.items
  pub asked : IsSome create → Allowed

-- a part of a start gives such a value, or else a fault that is none of the rows
pub record GivesBesideRows {A : Type 0} (result : Result A Fault) (Is : A → Type 0) : Type 0 where
  pub ok : IfOk result Is
  pub fault : IfErr result (λ fault. ¬ (end_of fault ≡ Store))

-- whose rows a station of this configuration saves: those of its circuit and member, of as many members as there are stations
abbrev pub identity_of : ConfigFile → Identity
identity_of config = record { circuit = config.circuit; member = config.member; members = length config.stations }

-- the station of this circuit and member, of so many members, that has taken nothing in
pub record IsStationOf {R : Type 0} (i : Identity) (station : Station R) : Type 0 where
  pub circuit : station.speaker.core.circuit ≡ i.circuit
  pub member : station.speaker.core.me ≡ i.member
  pub members : station.speaker.core.members ≡ i.members
  pub goes : station.stopped ≡ false
  pub fresh : StandsFor station.speaker.core []

-- the table is the one in the text at this path, where that is known
abbrev pub IsTableAt : (List ℕ → Option (List ℕ)) → List ℕ → Places → Type 0
IsTableAt texts path table = IfSome (texts path) (λ text. read_table (parse_document text) ≡ Ok table)

-- the measures and widths are those in the text at this path, where that is known
abbrev pub AreWidthsAt : (List ℕ → Option (List ℕ)) → List ℕ → WidthFile → Type 0
AreWidthsAt texts path widths = IfSome (texts path) (λ text. read_widths (parse_document text) ≡ Ok widths)

-- it is offered for the number that is asked for, and is the file at its path, where that is known
abbrev pub IsOfferAt : (List ℕ → Option (List ℕ)) → (ℕ × List ℕ) → (ℕ × List ℕ) → Type 0
IsOfferAt texts asked offer = (offer.0 ≡ asked.0) × IfSome (texts asked.1) (λ frames. offer.1 ≡ frames)

-- the tape that is offered for a number is the file at a path, where both are asked for
abbrev pub IsOffer : (List ℕ → Option (List ℕ)) → Option (ℕ × List ℕ) → Option (ℕ × List ℕ) → Type 0
IsOffer texts asked offer = MatchOption asked (MatchOption offer (Unit {0}) (λ _. ⊥)) (λ a. MatchOption offer ⊥ (λ o. IsOfferAt texts a o))

-- the files that a configuration names, and the tape that is offered, are those at their paths, where these are known
pub record AreFilesOf (texts : List ℕ → Option (List ℕ)) (config : Config) (asked : Option (ℕ × List ℕ)) (files : Files) : Type 0 where
  pub table : IsTableAt texts (string_bytes config.table) files.table
  pub widths : AreWidthsAt texts (string_bytes config.widths) files.widths
  pub offer : IsOffer texts asked files.offer

-- the rows were made for the station in this version, or taken up as the station's where none are to be made
abbrev pub AreRowsOf :
    {R : Type 0} → Option Version → (Identity → Version → R → Type 0) → (Option Identity → R → Type 0) → Identity → R → Type 0
AreRowsOf create makes opens i rows = MatchOption create (opens (Some i) rows) (λ version. makes i version rows)

-- so were the rows at this path, in these files of rows
abbrev pub AreRowsAt :
    {F R : Type 0} → (F → List ℕ → Identity → Version → Type 0) → (F → List ℕ → Option Identity → R → Type 0) → (R → protocol.Version)
    → F → List ℕ → Option Version → Identity → R → Type 0
AreRowsAt leaves opens version_in files path create i rows =
    AreRowsOf create (AreMade leaves opens version_in files path) (opens files path) i rows

-- so were the rows that the configuration of a launch names, for its station
abbrev pub AreRowsFor :
    {F R : Type 0} → (F → List ℕ → Identity → Version → Type 0) → (F → List ℕ → Option Identity → R → Type 0) → (R → protocol.Version)
    → F → Launch → R → Type 0
AreRowsFor leaves opens version_in files launch rows =
    AreRowsAt leaves opens version_in files (string_bytes launch.config.now.rows) launch.create (identity_of (file_of launch.config.now)) rows

-- rows that are to be made where a version is given, or else to be taken up, are refused so: as their files refuse them, or once made, since the file is in another layout
abbrev pub AreRefusedBy : {F : Type 0} → (F → RefusedRows → Type 0) → F → Option Version → RefusedRows → Type 0
AreRefusedBy refuses files create refused = MatchOption create (refuses files refused) (λ _. AreNotMade refuses files refused)

module _
    {F R : Type 0} (leaves : F → List ℕ → Identity → Version → Type 0) (opens : F → List ℕ → Option Identity → R → Type 0) (version_in : R → protocol.Version)
    (closes : F → R → Type 0) (files : F) where
  -- a station of a configuration was started over rows that were made where a version is given, or else taken up, and in the end rows in these files were closed
  pub record HasRunBy (config : ConfigFile) (create : Option Version) : Type 0 where
    pub began : R
    pub ended : R
    pub rows : AreRowsAt leaves opens version_in files config.rows create (identity_of config) began
    pub closed : closes files ended

  -- so was the station of some configuration
  pub record HasRun (create : Option Version) : Type 0 where
    pub config : ConfigFile
    pub ran : HasRunBy config create

-- some rows in these files were closed
pub record WereClosed {F R : Type 0} (closes : F → R → Type 0) (files : F) : Type 0 where
  pub rows : R
  pub closed : closes files rows

-- the wire was opened at the member's own address among those of all stations, and sends to these, under these keys if there are such
abbrev pub IsWireAmong : {N : Type 0} → (N → Address → List Address → Option Keys → Type 0) → List Address → ℕ → Option Keys → N → Type 0
IsWireAmong is_bound stations member keys wire = MatchOption (address_of stations member) ⊥ (λ own. is_bound wire own stations keys)

-- the same for the station of a configuration
abbrev pub IsWireOf : {N : Type 0} → (N → Address → List Address → Option Keys → Type 0) → ConfigFile → Option Keys → N → Type 0
IsWireOf is_bound config keys wire = IsWireAmong is_bound config.stations config.member keys wire
