-- The entries of an array, one after another.
use Rattle.std.proofs.Common.{◌≡◌, ℕ, zero, suc, ◌+◌, ◌-◌, ◌<◌, ◌≤◌, List, [], ◌∷◌, ◌++◌, length, get_or, Ok, Err, refl, ap, arith, zero-add, add-one}
use Rattle.toml.specs.Data.{Items}
use Rattle.toml.specs.View.{view, items_view}
use Rattle.toml.specs.declared.value.Value.{Value}
use Rattle.wire.specs.declared.address.Address.{Address}
use Rattle.configuration.specs.Keys.{◌>>=◌, count}
use Rattle.configuration.specs.Stations.{Found, found_at, read_entry, item_at, first_addresses, addresses_of}
use Rattle.configuration.specs.declared.fault.ConfigFault.{ConfigFault}

pub counted : (entries : List Value) → count (items_view entries) ≡ length entries
counted [] = refl
counted (entry ∷ rest) = ap suc (counted rest)

-- the item at a place is the value there
pub item_is : (entries : List Value) (place : ℕ) (d : Value) → place < length entries → item_at (items_view entries) place ≡ view (get_or entries place d)
item_is [] place d within = absurd (omega arith)
item_is (entry ∷ rest) zero d within = refl
item_is (entry ∷ rest) (suc place) d within = item_is rest place d (omega arith)

-- a fault of the first entries is the fault of more
fault_stays : (members : ℕ) (found : Found) (entries : Items) (more n : ℕ) (e : ConfigFault) → first_addresses members found entries n ≡ Err e → first_addresses members found entries (more + n) ≡ Err e
fault_stays members found entries zero n e h = rw zero-add h
fault_stays members found entries (suc more) n e h =
    let next : suc more + n ≡ suc (more + n) = omega arith in
    rw (next, fault_stays members found entries more n e h) refl

fault_of_all : (found : Found) (entries : Items) (n : ℕ) (e : ConfigFault) → n ≤ count entries → first_addresses (count entries) found entries n ≡ Err e → addresses_of found entries ≡ Err e
fault_of_all found entries n e le h =
    let all : (count entries - n) + n ≡ count entries = omega arith in
    rw all at (fault_stays (count entries) found entries (count entries - n) n e h)

-- how far the entries were read: the addresses of the first
pub record ReadSoFar (found : Found) (entries : List Value) (addresses : List Address) (index : ℕ) : Type 0 where
  pub bound : index ≤ length entries
  pub read : first_addresses (length entries) found (items_view entries) index ≡ Ok addresses

-- what is read next
module _ (found : Found) (entries : List Value) (addresses : List Address) (index : ℕ) (so_far : ReadSoFar found entries addresses index) (d : Value) (within : index < length entries) where
  next : first_addresses (length entries) found (items_view entries) (index + 1) ≡ (read_entry (length entries) addresses (index + 1) (found_at found index) (view (get_or entries index d)) >>= (λ address. Ok (addresses ++ address ∷ [])))
  next = rw (add-one, so_far.read, item_is entries index d within) refl

  pub stops : (e : ConfigFault) → read_entry (length entries) addresses (index + 1) (found_at found index) (view (get_or entries index d)) ≡ Err e → addresses_of found (items_view entries) ≡ Err e
  stops e h = fault_of_all found (items_view entries) (index + 1) e (omega (arith, counted entries)) (rw (counted entries) (rw h at next))

  pub goes_on : (address : Address) → read_entry (length entries) addresses (index + 1) (found_at found index) (view (get_or entries index d)) ≡ Ok address → ReadSoFar found entries (addresses ++ address ∷ []) (index + 1)
  goes_on address h = record { bound = omega arith; read = rw h at next }

pub ends : (found : Found) (entries : List Value) (addresses : List Address) (index : ℕ) → ReadSoFar found entries addresses index → length entries ≤ index → addresses_of found (items_view entries) ≡ Ok addresses
ends found entries addresses index so_far past =
    let all : length entries ≡ index = omega (arith, so_far.bound) in
    rw (counted entries) (rw (← all) at so_far.read)
