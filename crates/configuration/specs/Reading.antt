-- A configuration as a TOML document gives it, or its first fault.
use Rattle.std.specs.Prelude.{◌≡◌, ◌⊎◌, ℕ, Bool, List, length, string_bytes, Option, Some, None, option_map, Result, Ok, Err, IfOk, IfErr, nat_le}
use Rattle.protocol.specs.Limits.{most_members}
use Rattle.toml.specs.Data.{Members}
use Rattle.wire.specs.declared.address.Address.{Address}
use Rattle.configuration.specs.Keys.{◌>>=◌, holds, number_at, Paths, FolderPaths, folder_paths, three_paths, paths_in, folders_in, catches_up_in, wire_in, entries_at}
use Rattle.configuration.specs.Hosts.{Finds, AreFound}
use Rattle.configuration.specs.Stations.{Found, IsCircuit, read_stations}
use Rattle.configuration.specs.declared.config.Config.{Config}
use Rattle.configuration.specs.declared.config.FilePaths.{FilePaths}
use Rattle.configuration.specs.declared.config.Own.{Own}
use Rattle.configuration.specs.declared.config.WorkFolders.{WorkFolders}
use Rattle.configuration.specs.declared.fault.ConfigKey.TheVariants.{Circuit, Member}
use Rattle.configuration.specs.declared.fault.ConfigFault.{ConfigFault}
use Rattle.configuration.specs.declared.fault.ConfigFault.TheVariants.{NotToml, OutOfRange, OutOfMemory}

-- what a configuration says: the circuit, the own member, the paths of three files and, where it names them, of two folders, with what
-- holds of what comes into them, whether the station catches up by itself, the path of the file of keys where its wire is sealed, and the
-- stations in order of their members
pub record ConfigFile : Type 0 where
  pub circuit : ℕ
  pub member : ℕ
  pub table : List ℕ
  pub widths : List ℕ
  pub rows : List ℕ
  pub folders : Option FolderPaths
  pub catches_up : Bool
  pub key : Option (List ℕ)
  pub stations : List Address

-- it says this, with these paths of files
abbrev pub file_with : ℕ → ℕ → Paths → Option FolderPaths → Bool → Option (List ℕ) → List Address → ConfigFile
file_with circuit member paths folders catches_up key stations = record {
  circuit = circuit;
  member = member;
  table = paths.table;
  widths = paths.widths;
  rows = paths.rows;
  folders = folders;
  catches_up = catches_up;
  key = key;
  stations = stations;
}

-- the paths of these folders, whether texts may be offered, whether files come only by being renamed, and the path of the status file
abbrev pub paths_of : WorkFolders → FolderPaths
paths_of folders = folder_paths (string_bytes folders.offers) (string_bytes folders.releases) folders.text folders.renamed (option_map string_bytes folders.status)

-- what these files, folders and stations say of a station
abbrev pub file_from : Own → FilePaths → Option WorkFolders → List Address → ConfigFile
file_from own files folders stations =
    file_with own.circuit own.member (three_paths (string_bytes files.table) (string_bytes files.widths) (string_bytes files.rows))
    (option_map paths_of folders) own.catches_up (option_map string_bytes files.key) stations

-- what this configuration says
abbrev pub file_of : Config → ConfigFile
file_of config = record {
  circuit = config.circuit;
  member = config.member;
  table = string_bytes config.table;
  widths = string_bytes config.widths;
  rows = string_bytes config.rows;
  folders = option_map paths_of config.folders;
  catches_up = config.catches_up;
  key = option_map string_bytes config.key;
  stations = config.stations.items;
}

-- the configuration of a document, where this was found for the hosts of its entries, or its first fault: key by key, then entry by entry,
-- and last that there is no station of the own member
unfoldable pub read_file : Found → Members → Result ConfigFile ConfigFault
read_file found file = do
  circuit ← number_at Circuit 0 65535 file
  member ← number_at Member 1 most_members file
  paths ← paths_in file
  folders ← folders_in file
  catches_up ← catches_up_in file
  key ← wire_in file
  entries ← entries_at file
  stations ← read_stations found entries
  own ← holds (OutOfRange Member) (nat_le member (length stations))
  Ok (file_with circuit member paths folders catches_up key stations)

-- the configuration of a document that was read; where none was read, it is not TOML
unfoldable pub read_config : Found → Option Members → Result ConfigFile ConfigFault
read_config found None = Err NotToml
read_config found (Some file) = read_file found file

-- the configuration is what is to be read, and its stations are a circuit; or the fault is the one that is to be told, or memory was
-- refused
pub record IsReadAs (read : Result ConfigFile ConfigFault) (result : Result Config ConfigFault) : Type 0 where
  pub ok : IfOk result (λ config. read ≡ Ok (file_of config))
  pub circuit : IfOk result (λ config. IsCircuit config.member config.stations.items)
  pub err : IfErr result (λ fault. (fault ≡ OutOfMemory) ⊎ (read ≡ Err fault))

-- a configuration is what a document says that was read, with what may have been found for its hosts, and its stations are a circuit
pub record IsReadFrom (finds : Finds) (document : Option Members) (config : Config) : Type 0 where
  pub found : Found
  pub looked_up : AreFound finds document found
  pub read : read_config found document ≡ Ok (file_of config)
  pub circuit : IsCircuit config.member config.stations.items
