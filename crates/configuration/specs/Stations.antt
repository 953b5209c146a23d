-- The stations of a circuit.
use Rattle.std.specs.Prelude.{◌≡◌, ◌≤◌, ◌<◌, ◌+◌, ℕ, zero, suc, List, [], ◌∷◌, ◌++◌, length, Bool, codes, Option, Some, None, unwrap_or, slice_get, Result, Ok, Err, ◌==◌, ◌&&◌, ◌||◌, not}
use Rattle.std.specs.List.{find, list_any, cons_option}
use Rattle.std.specs.Str.{bytes_eq}
use Rattle.protocol.specs.Limits.{most_members}
use Rattle.toml.specs.Data.{Data, string, Items, get_item, Members, get_member, as_str, as_table}
use Rattle.wire.specs.declared.address.Address.{Address}
use Rattle.configuration.specs.Keys.{◌>>=◌, wanted, holds, count}
use Rattle.configuration.specs.Addresses.{number_in, spelled_ip}
use Rattle.configuration.specs.declared.fault.ConfigFault.{ConfigFault}
use Rattle.configuration.specs.declared.fault.ConfigFault.TheVariants.{BadStation, NoAddress}

-- the stations of members 1, 2, 3 and so on, each at a port above 0
abbrev pub AreInOrder : List Address → Type 0
AreInOrder stations =
    (i : ℕ) (address : Address) → slice_get stations i ≡ Some address → (address.member ≡ i + 1) × (0 < address.port)

-- as many stations as a circuit has members at most, in the order of their members, and one of them is this member's
pub record IsCircuit (member : ℕ) (stations : List Address) : Type 0 where
  pub own : member ≤ length stations
  pub most : length stations ≤ most_members
  pub order : AreInOrder stations

-- two addresses are at odds: they are of one member, or have one IP address and port
abbrev pub are_at_odds : Address → Address → Bool
are_at_odds a b = (a.member == b.member) || (bytes_eq a.ip b.ip && (a.port == b.port))

-- one of these addresses is at odds with this one
abbrev pub is_taken : List Address → Address → Bool
is_taken earlier address = list_any (λ other. are_at_odds other address) earlier

-- what was found for the host of each entry, in their order, where that has a name: its first IPv4 address, if it has one
abbrev pub Found : Type 0
Found = List (Option (List ℕ))

-- what was found for the entry at a place, counted from 0; past the last there is nothing
abbrev pub found_at : Found → ℕ → Option (List ℕ)
found_at found place = unwrap_or (slice_get found place) None

-- the IP address of the entry at a place by its values at `ip` and at `host`, of which it has one: the address that is written, or the
-- one that was found for the name
abbrev pub ip_of_either : ℕ → Option (List ℕ) → Option Data → Option Data → Result (List ℕ) ConfigFault
ip_of_either place found (Some value) None = wanted (BadStation place) (spelled_ip value)
ip_of_either place found None (Some value) = do
  name ← wanted (BadStation place) (as_str value)
  wanted (NoAddress place) found
ip_of_either place found None None = Err (BadStation place)
ip_of_either place found (Some value) (Some other) = Err (BadStation place)

-- the IP address of the entry at a place, where this was found for its host
unfoldable pub ip_in : ℕ → Option (List ℕ) → Members → Result (List ℕ) ConfigFault
ip_in place found keys = ip_of_either place found (get_member (codes "ip") keys) (get_member (codes "host") keys)

-- the address of the entry at a place: a table with the keys `member`, which is one of so many, `port`, and `ip` or `host`
unfoldable pub address_of : ℕ → ℕ → Option (List ℕ) → Data → Result Address ConfigFault
address_of members place found entry = do
  keys ← wanted (BadStation place) (as_table entry)
  member ← wanted (BadStation place) (number_in (codes "member") 1 members keys)
  port ← wanted (BadStation place) (number_in (codes "port") 1 65535 keys)
  ip ← ip_in place found keys
  Ok (record { member = member; ip = ip; port = port })

-- the address of the entry at a place, counted from 1, in a circuit of so many members: none of the earlier is at odds with it
unfoldable pub read_entry : ℕ → List Address → ℕ → Option (List ℕ) → Data → Result Address ConfigFault
read_entry members earlier place found entry = do
  address ← address_of members place found entry
  free ← holds (BadStation place) (not (is_taken earlier address))
  Ok address

-- the item at a place, counted from 0; past the last there is an empty text
abbrev pub item_at : Items → ℕ → Data
item_at items place = unwrap_or (get_item place items) (string [])

-- the addresses of the first so many entries, each read beside those before it; or their first fault
abbrev pub first_addresses : ℕ → Found → Items → ℕ → Result (List Address) ConfigFault
first_addresses members found entries zero = Ok []
first_addresses members found entries (suc n) = do
  earlier ← first_addresses members found entries n
  address ← read_entry members earlier (suc n) (found_at found n) (item_at entries n)
  Ok (earlier ++ address ∷ [])

-- the addresses of all entries, of as many members; or their first fault
abbrev pub addresses_of : Found → Items → Result (List Address) ConfigFault
addresses_of found entries = first_addresses (count entries) found entries (count entries)

-- the address of a member among some
abbrev pub address_among : List Address → ℕ → Option Address
address_among addresses member = find (λ address. address.member == member) addresses

-- the addresses of so many members from this one on, where they are among these
abbrev pub of_members : ℕ → ℕ → List Address → List Address
of_members member zero addresses = []
of_members member (suc more) addresses = cons_option (address_among addresses member) (of_members (suc member) more addresses)

-- the addresses in order of their members, from 1
unfoldable pub in_order : List Address → List Address
in_order addresses = of_members 1 (length addresses) addresses

-- the stations of an array's entries in order of their members, as many members as entries, or the first fault
unfoldable pub read_stations : Found → Items → Result (List Address) ConfigFault
read_stations found entries = do
  addresses ← addresses_of found entries
  Ok (in_order addresses)
