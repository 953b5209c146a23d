-- The configuration of a new station, and what was asked of it.
use Rattle.std.specs.Prelude.{◌≡◌, ◌⊎◌, ◌-◌, ℕ, List, [], ◌∷◌, Bool, true, false, codes, string_bytes, Option, Some, None, option_map, IsSomeAnd, slice_get, ◌==◌, if◌then◌else◌}
use Rattle.toml.specs.Parse.{parse_document}
use Rattle.wire.specs.declared.address.Address.{Address}
use Rattle.configuration.specs.Reading.{IsReadFrom}
use Rattle.configuration.specs.declared.config.Config.{Config}
use Rattle.configuration.specs.declared.config.WorkFolders.{WorkFolders}
use Rattle.init_command.specs.declared.new_station.Habits.{Habits}
use Rattle.init_command.specs.declared.new_station.NewStation.{NewStation}
use Rattle.init_command.specs.declared.place.StationHost.{StationHost}
use Rattle.init_command.specs.declared.place.StationHost.TheVariants.{Ip, Name}
use Rattle.init_command.specs.declared.place.StationPlace.{StationPlace}

-- the name of a host, if it has one
abbrev pub name_in : StationHost → Option (List ℕ)
name_in (Ip ip) = None
name_in (Name name) = Some name.now

-- the name of the host of a place, if there is such a place
abbrev pub name_of_place : Option StationPlace → Option (List ℕ)
name_of_place None = None
name_of_place (Some place) = name_in place.host

-- the name that was asked for at a place, counted from 1
abbrev pub name_at : List StationPlace → ℕ → Option (List ℕ)
name_at places at = if at == 0 then None else name_of_place (slice_get places (at - 1))

-- what a name is taken for while a configuration is read back: for an address that tells its place, where just that name was asked for there,
-- and else for none
abbrev pub IsTakenFor : List StationPlace → ℕ → List ℕ → Option (List ℕ) → Type 0
IsTakenFor places at name ip = (ip ≡ None) ⊎ ((name_at places at ≡ Some name) × (ip ≡ Some (0 ∷ 0 ∷ 0 ∷ at ∷ [])))

-- the IP address for which a host is taken then
abbrev pub ip_taken : StationHost → ℕ → List ℕ
ip_taken (Ip ip) member = ip
ip_taken (Name name) member = 0 ∷ 0 ∷ 0 ∷ member ∷ []

-- an address is the place that was asked for
pub record IsPlace (address : Address) (place : StationPlace) : Type 0 where
  pub ip : address.ip ≡ ip_taken place.host address.member
  pub port : address.port ≡ place.port

-- these addresses are the places that were asked for, as many, in their order
abbrev pub ArePlaces : List Address → List StationPlace → Type 0
ArePlaces [] [] = Unit {0}
ArePlaces [] (place ∷ places) = ⊥
ArePlaces (address ∷ addresses) [] = ⊥
ArePlaces (address ∷ addresses) (place ∷ places) = IsPlace address place × ArePlaces addresses places

-- the path of the file of the key, where the wire is sealed
abbrev pub key_asked : Bool → Option (List ℕ)
key_asked true = Some (codes "circuit.key")
key_asked false = None

-- a configuration names the files of a plant that lie beside it
pub record NamesFiles (config : Config) : Type 0 where
  pub table : string_bytes config.table ≡ codes "codes.toml"
  pub widths : string_bytes config.widths ≡ codes "widths.toml"
  pub rows : string_bytes config.rows ≡ codes "station.db"

-- the folders lie beside it too, with its status, and the plant works so
pub record WorksAs (habits : Habits) (folders : WorkFolders) : Type 0 where
  pub offers : string_bytes folders.offers ≡ codes "offers"
  pub releases : string_bytes folders.releases ≡ codes "releases"
  pub text : folders.text ≡ habits.text
  pub renamed : folders.renamed ≡ habits.renamed
  pub status : option_map string_bytes folders.status ≡ Some (codes "status.txt")

-- a configuration says what was asked of a station: which it is, its files, its folders, how it works, its key, and where all stations are
pub record SaysAsked (station : NewStation) (config : Config) : Type 0 where
  pub circuit : config.circuit ≡ station.circuit
  pub member : config.member ≡ station.member
  pub files : NamesFiles config
  pub folders : IsSomeAnd config.folders (WorksAs station.habits)
  pub catches_up : config.catches_up ≡ station.habits.catches_up
  pub key : option_map string_bytes config.key ≡ key_asked station.sealed
  pub places : ArePlaces config.stations.items station.places.now

-- a text is read as a configuration that says what was asked, by the reader of every command that takes a configuration. A name is one of
-- those that were asked for, at its place, since no other is found
pub record IsReadAsAsked (station : NewStation) (text : List ℕ) : Type 0 where
  pub config : Config
  pub read : IsReadFrom (IsTakenFor station.places.now) (parse_document text) config
  pub says : SaysAsked station config
