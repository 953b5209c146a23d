-- The hosts that the entries of the stations name, and what is found for them.
use Rattle.std.specs.Prelude.{◌≡◌, ◌<◌, ◌+◌, ℕ, List, codes, Option, Some, None, Result, Ok, Err}
use Rattle.toml.specs.Data.{Data, Items, Members, get_member, as_str, as_table}
use Rattle.configuration.specs.Addresses.{◌>>=◌}
use Rattle.configuration.specs.Keys.{count, entries_at}
use Rattle.configuration.specs.Stations.{Found, found_at, item_at}
use Rattle.configuration.specs.declared.fault.ConfigFault.{ConfigFault}

-- the name of the host of an entry, if it has one
unfoldable pub host_of : Data → Option (List ℕ)
host_of entry = do
  keys ← as_table entry
  value ← get_member (codes "host") keys
  as_str value

-- what may be found for the name of the host of the entry at a place
abbrev pub Finds : Type 1
Finds = ℕ → List ℕ → Option (List ℕ) → Type 0

-- this may be found for an entry at a place, where it names a host; where it names none nothing is found
abbrev pub IsFound : Finds → ℕ → Option (List ℕ) → Option (List ℕ) → Type 0
IsFound finds place None ip = ip ≡ None
IsFound finds place (Some name) ip = finds place name ip

-- so it is with each entry
abbrev pub AreHosts : Finds → Items → Found → Type 0
AreHosts finds entries found =
    (i : ℕ) → i < count entries → IsFound finds (i + 1) (host_of (item_at entries i)) (found_at found i)

-- the same, where the entries can be read
abbrev pub AreHostsOf : Finds → Result Items ConfigFault → Found → Type 0
AreHostsOf finds (Ok entries) found = AreHosts finds entries found
AreHostsOf finds (Err fault) found = Unit {0}

-- this may be found for the entries of a document
abbrev pub AreFoundIn : Finds → Members → Found → Type 0
AreFoundIn finds file found = AreHostsOf finds (entries_at file) found

-- the same, where it was read
abbrev pub AreFound : Finds → Option Members → Found → Type 0
AreFound finds None found = Unit {0}
AreFound finds (Some file) found = AreFoundIn finds file found
