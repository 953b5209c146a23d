-- Files in order, and those from a place on.
use Rattle.std.proofs.Common.{◌≡◌, ℕ, suc, ◌+◌, drop, ◌≤◌, ◌<◌, List, [], ◌∷◌, None, true, false, refl, arith}
use Rattle.std.proofs.lemmas.Bool.Decides.{nat_tests}
use Rattle.offers.specs.declared.offer.Offer.{Offer}
use Rattle.offers.specs.Order.{rank, Rises, RisesFrom, file_at, from, starts_before}

-- those from a place on rise from there
pub rises_from : (low b : ℕ) (os : List Offer) → RisesFrom b os → RisesFrom low (from low os)
rises_from low b [] h = tt
rises_from low b (o ∷ os) h = grind (arith, nat_tests, rises_from low (suc (rank o.request)) os h.1, h.0)

-- a file from the place on is still there
pub file_from : (low k : ℕ) (os : List Offer) → low ≤ k → file_at (from low os) k ≡ file_at os k
file_from low k [] h = refl
file_from low k (o ∷ os) h = grind (arith, nat_tests, file_from low k os h)

-- those from a place on, of those from an earlier place on
pub from_from : (low high : ℕ) (os : List Offer) → low ≤ high → from high (from low os) ≡ from high os
from_from low high [] h = refl
from_from low high (o ∷ os) h = grind (arith, nat_tests, from_from low high os h)

-- those that rise from a place are those from the place on
pub from_same : (low : ℕ) (os : List Offer) → RisesFrom low os → from low os ≡ os
from_same low [] h = refl
from_same low (o ∷ os) h = grind (arith, nat_tests, h.0)

-- none before the place from which they rise
pub absent : (k low : ℕ) (os : List Offer) → k < low → RisesFrom low os → file_at os k ≡ None
absent k low [] h r = refl
absent k low (o ∷ os) h r = grind (arith, nat_tests, absent k (suc (rank o.request)) os (omega (arith, r.0)) r.1, r.0)

-- the first stands at the place from which they rise: the others are those behind it
pub behind_first : (place : ℕ) (os : List Offer) → RisesFrom place os → starts_before (place + 1) os ≡ true → drop 1 os ≡ from (suc place) os
behind_first place [] r h = cc
behind_first place (o ∷ os) r h = grind (arith, nat_tests, from_same (suc (rank o.request)) os r.1, r.0)

-- the first stands behind the place from which they rise: none stands there
pub none_at : (place : ℕ) (os : List Offer) → RisesFrom place os → starts_before (place + 1) os ≡ false → file_at os place ≡ None
none_at place [] r h = refl
none_at place (o ∷ os) r h = grind (arith, nat_tests, absent place (suc (rank o.request)) os (omega (arith, r.0)) r.1, r.0)

-- in order from a place on is in order
pub rises : (low : ℕ) (os : List Offer) → RisesFrom low os → Rises os
rises low [] r = tt
rises low (o ∷ os) r = (omega arith, r.1)
