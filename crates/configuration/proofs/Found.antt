-- What is found for the hosts of entries, one after another.
use Rattle.std.proofs.Common.{◌≡◌, ◌≢◌, ◌==◌, ℕ, zero, suc, ◌+◌, ◌<◌, ◌≤◌, Bool, true, false, List, [], ◌∷◌, ◌++◌, length, get_or, Option, refl, sym, subst, arith, length-append}
use Rattle.std.proofs.lemmas.Bool.Decides.{nat_tests}
use Rattle.toml.specs.View.{view, items_view}
use Rattle.toml.specs.declared.value.Value.{Value}
use Rattle.configuration.specs.Hosts.{Finds, host_of, IsFound, AreHosts}
use Rattle.configuration.specs.Stations.{Found, found_at, item_at}
use Rattle.configuration.proofs.Entries.{counted, item_is}

-- one more leaves what was found for the others
found_before : (found : Found) (ip : Option (List ℕ)) (i : ℕ) → i < length found → found_at (found ++ ip ∷ []) i ≡ found_at found i
found_before [] ip i within = absurd (omega arith)
found_before (x ∷ xs) ip zero within = refl
found_before (x ∷ xs) ip (suc i) within = found_before xs ip i (omega arith)

found_last : (found : Found) (ip : Option (List ℕ)) → found_at (found ++ ip ∷ []) (length found) ≡ ip
found_last [] ip = refl
found_last (x ∷ xs) ip = found_last xs ip

-- what was found for the first entries
pub record FoundSoFar (finds : Finds) (entries : List Value) (found : Found) (index : ℕ) : Type 0 where
  pub number : length found ≡ index
  pub bound : index ≤ length entries
  pub each : (i : ℕ) → i < index → IsFound finds (i + 1) (host_of (item_at (items_view entries) i)) (found_at found i)

pub none_yet : (finds : Finds) (entries : List Value) (found : Found) → found ≡ [] → FoundSoFar finds entries found 0
none_yet finds entries found none = record { number = rw none refl; bound = omega arith; each = λ i within. absurd (omega arith) }

module _ (finds : Finds) (entries : List Value) (found : Found) (index : ℕ) (so_far : FoundSoFar finds entries found index) (d : Value) (ip : Option (List ℕ)) where
  newest : index < length entries → IsFound finds (index + 1) (host_of (view (get_or entries index d))) ip → IsFound finds (index + 1) (host_of (item_at (items_view entries) index)) (found_at (found ++ ip ∷ []) index)
  newest within new =
      let last : found_at (found ++ ip ∷ []) index ≡ ip = rw so_far.number at (found_last found ip) in
      rw (item_is entries index d within, last) new

  older : (i : ℕ) → i < index → IsFound finds (i + 1) (host_of (item_at (items_view entries) i)) (found_at (found ++ ip ∷ []) i)
  older i before =
      let kept : found_at (found ++ ip ∷ []) i ≡ found_at found i = found_before found ip i (omega (arith, so_far.number)) in
      rw kept (so_far.each i before)

  pub one_more : index < length entries → IsFound finds (index + 1) (host_of (view (get_or entries index d))) ip → FoundSoFar finds entries (found ++ ip ∷ []) (index + 1)
  one_more within new = record {
    number = omega (arith, length-append found (ip ∷ []), so_far.number);
    bound = omega arith;
    each = λ i before. at_place i before (i == index) refl;
  }
    where
      at_last : (i : ℕ) → i ≡ index → IsFound finds (index + 1) (host_of (item_at (items_view entries) index)) (found_at (found ++ ip ∷ []) index) → IsFound finds (i + 1) (host_of (item_at (items_view entries) i)) (found_at (found ++ ip ∷ []) i)
      at_last i same here = subst (λ (n : ℕ). IsFound finds (n + 1) (host_of (item_at (items_view entries) n)) (found_at (found ++ ip ∷ []) n)) (sym same) here

      at_place : (i : ℕ) → i < index + 1 → (b : Bool) → (i == index) ≡ b → IsFound finds (i + 1) (host_of (item_at (items_view entries) i)) (found_at (found ++ ip ∷ []) i)
      at_place i before true e = at_last i (grind (arith, nat_tests)) (newest within new)
      at_place i before false e =
          let other : i ≢ index = grind (arith, nat_tests) in
          older i (omega arith)

pub all_found : (finds : Finds) (entries : List Value) (found : Found) (index : ℕ) → FoundSoFar finds entries found index → length entries ≤ index → AreHosts finds (items_view entries) found
all_found finds entries found index so_far past i within =
    let many = counted entries in
    so_far.each i (omega (arith, so_far.bound, many))
