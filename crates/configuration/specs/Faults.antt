-- The faults of a configuration, not the first alone.
use Rattle.std.specs.Prelude.{◌≡◌, ◌⊎◌, ℕ, List, [], ◌∷◌, ◌++◌, length, Option, Some, None, Result, Ok, Err, MatchResult, nat_le, if◌then◌else◌}
use Rattle.protocol.specs.Limits.{most_members}
use Rattle.toml.specs.Data.{Members}
use Rattle.wire.specs.declared.address.Address.{Address}
use Rattle.configuration.specs.Keys.{number_at, text_at, folders_in, catches_up_in, wire_in, entries_at, ◌>>=◌}
use Rattle.configuration.specs.Stations.{Found, read_stations}
use Rattle.configuration.specs.declared.fault.ConfigKey.TheVariants.{Circuit, Member, Table, Widths, Rows}
use Rattle.configuration.specs.declared.fault.ConfigFault.{ConfigFault}
use Rattle.configuration.specs.declared.fault.ConfigFault.TheVariants.{NotToml, OutOfMemory, OutOfRange}

-- the fault of what is read, if any
abbrev pub fault_of : {A : Type 0} → Result A ConfigFault → Option ConfigFault
fault_of (Ok x) = None
fault_of (Err e) = Some e

-- a call gives what is read: this of what it found, or the same fault, or there was no memory
abbrev pub GivesOrNoMemory : {X A : Type 0} → Result X ConfigFault → (X → A) → Result A ConfigFault → Type 0
GivesOrNoMemory result view read = MatchResult result (λ x. read ≡ Ok (view x)) (λ e. (e ≡ OutOfMemory) ⊎ (read ≡ Err e))

-- these faults, and one more where there is one
unfoldable pub noted : List ConfigFault → Option ConfigFault → List ConfigFault
noted faults None = faults
noted faults (Some fault) = faults ++ fault ∷ []

-- the stations of a document, or the first fault among them
unfoldable pub stations_in : Found → Members → Result (List Address) ConfigFault
stations_in found file = do
  entries ← entries_at file
  read_stations found entries

-- that this member is none of so many stations, where it was read
unfoldable pub absent : Result ℕ ConfigFault → ℕ → Option ConfigFault
absent (Ok member) count = if nat_le member count then None else Some (OutOfRange Member)
absent (Err e) count = None

-- these faults, and those of the stations: the first among them, or that the own member is none of them
unfoldable pub with_stations : List ConfigFault → Result ℕ ConfigFault → Result (List Address) ConfigFault → List ConfigFault
with_stations faults member (Ok stations) = noted faults (absent member (length stations))
with_stations faults member (Err fault) = noted faults (Some fault)

-- these faults, and those of the stations of a document
abbrev pub with_stations_in : List ConfigFault → Found → Members → List ConfigFault
with_stations_in faults found file = with_stations faults (number_at Member 1 most_members file) (stations_in found file)

-- the faults of a document: that of each key, the first of the folders and the first among the stations, and that there is no station of
-- the own member
unfoldable pub faults_in : Found → Members → List ConfigFault
faults_in found file =
    with_stations (noted (noted (noted (noted (noted (noted (noted (noted []
    (fault_of (number_at Circuit 0 65535 file)))
    (fault_of (number_at Member 1 most_members file)))
    (fault_of (text_at Table file)))
    (fault_of (text_at Widths file)))
    (fault_of (text_at Rows file)))
    (fault_of (folders_in file)))
    (fault_of (catches_up_in file)))
    (fault_of (wire_in file)))
    (number_at Member 1 most_members file) (stations_in found file)

-- the faults of a document that was read; where none was read, it is not TOML
unfoldable pub all_faults : Found → Option Members → List ConfigFault
all_faults found None = NotToml ∷ []
all_faults found (Some file) = faults_in found file
