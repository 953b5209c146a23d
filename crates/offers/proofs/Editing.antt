-- Files in order by their index, and the change of one of them.
use Rattle.std.proofs.Common.{◌≡◌, ℕ, zero, suc, ◌≤◌, ◌<◌, ◌==◌, ◌⊎◌, inl, inr, List, [], ◌∷◌, Some, None, Bool, true, false, length, get_or, set, Result, Ok, Err, MatchResult, Less, Equal, Greater, nat_cmp, refl, arith}
use Rattle.std.specs.Ordering.{ordering_index}
use Rattle.std.specs.List.Sorted.{IsNonDecreasingBy, IsSearchInRange, IsBinarySearchResult, IsPartitionPoint}
use Rattle.std.proofs.lemmas.Bool.{cases_lt}
use Rattle.std.proofs.lemmas.Bool.Decides.{nat_tests}
use Rattle.std.proofs.lemmas.Map.Lookups.{exact_unsigned}
use Rattle.offers.specs.declared.offer.Offer.{Offer}
use Rattle.offers.specs.declared.stage.Stage.{Stage}
use Rattle.offers.specs.Order.{rank, Rises, RisesFrom, file_at, IsPlaceOf}
use Rattle.offers.specs.Stages.{change_at, changed}
use Rattle.offers.proofs.Merging.{absent}

-- files that rise from a place stand from there on
pub low_at : (low : ℕ) (os : List Offer) (i : ℕ) (d : Offer) → RisesFrom low os → i < length os → low ≤ rank (get_or os i d).request
low_at low [] i d r h = absurd (omega arith)
low_at low (o ∷ os) zero d r h = r.0
low_at low (o ∷ os) (suc i) d r h = let rest = low_at (suc (rank o.request)) os i d r.1 (omega arith) in omega (arith, r.0)

-- a later file stands at a later place
pub ordered : (low : ℕ) (os : List Offer) (i j : ℕ) (d : Offer) → RisesFrom low os → i ≤ j → j < length os → rank (get_or os i d).request ≤ rank (get_or os j d).request
ordered low [] i j d r le h = absurd (omega arith)
ordered low (o ∷ os) zero zero d r le h = omega arith
ordered low (o ∷ os) zero (suc j) d r le h = let rest = low_at (suc (rank o.request)) os j d r.1 (omega arith) in omega arith
ordered low (o ∷ os) (suc i) zero d r le h = absurd (omega arith)
ordered low (o ∷ os) (suc i) (suc j) d r le h = ordered (suc (rank o.request)) os i j d r.1 (omega arith) (omega arith)

-- and at a greater one, so that of one place there is one
ascends : (low : ℕ) (os : List Offer) (i j : ℕ) (d : Offer) → RisesFrom low os → i < j → j < length os → rank (get_or os i d).request < rank (get_or os j d).request
ascends low [] i j d r lt h = absurd (omega arith)
ascends low (o ∷ os) zero zero d r lt h = absurd (omega arith)
ascends low (o ∷ os) zero (suc j) d r lt h = let rest = low_at (suc (rank o.request)) os j d r.1 (omega arith) in omega arith
ascends low (o ∷ os) (suc i) zero d r lt h = absurd (omega arith)
ascends low (o ∷ os) (suc i) (suc j) d r lt h = ascends (suc (rank o.request)) os i j d r.1 (omega arith) (omega arith)

pub only_one : (os : List Offer) (i j : ℕ) (d : Offer) → Rises os → i < length os → j < length os → rank (get_or os i d).request ≡ rank (get_or os j d).request → i ≡ j
only_one os i j d r hi hj e = elim (cases_lt i j) [
  | inl below ↦ let apart = ascends 0 os i j d r below hj in absurd (omega arith)
  | inr from ↦ elim (cases_lt j i) [
    | inl above ↦ let apart = ascends 0 os j i d r above hi in absurd (omega arith)
    | inr same ↦ omega arith
  ]
]

-- how lesser numbers compare
lesser : (a b k : ℕ) → a ≤ b → ordering_index (nat_cmp a k) ≤ ordering_index (nat_cmp b k)
lesser a b k h = grind (arith, nat_tests)

-- what a binary search asks for
rise : (os : List Offer) (k : ℕ) → Rises os → IsNonDecreasingBy (λ o. ordering_index (nat_cmp (rank o.request) k)) os
rise os k r = λ i j d le h. lesser _ _ k (ordered 0 os i j d r le h)

-- where no file stands at the place, none is found there
none_there : (os : List Offer) (k : ℕ) → ((i : ℕ) (d : Offer) → i < length os → ¬ (rank (get_or os i d).request ≡ k)) → file_at os k ≡ None
none_there [] k h = refl
none_there (o ∷ os) k h = let here = h 0 o (omega arith) in grind (arith, nat_tests, here, none_there os k (λ i d lt. h (suc i) d (omega arith)))

apart : (os : List Offer) (k gap : ℕ) → IsPartitionPoint (λ o. nat_cmp (rank o.request) k ≡ Less) (λ o. nat_cmp (rank o.request) k ≡ Greater) os gap → (i : ℕ) (d : Offer) → i < length os → ¬ (rank (get_or os i d).request ≡ k)
apart os k gap h i d lt = λ e.
    let level : nat_cmp (rank (get_or os i d).request) k ≡ Equal = grind (arith, nat_tests) in
    elim (cases_lt i gap) [
      | inl before ↦ let below = h.0 i d (omega arith) before in cc
      | inr behind ↦ let above = h.1 i d behind lt in cc
    ]

-- what a binary search by place says
pub searched : (os : List Offer) (k : ℕ) (r : Result ℕ ℕ) → Rises os → IsSearchInRange r (length os) → IsBinarySearchResult (λ o. nat_cmp (rank o.request) k) os r → MatchResult r (λ i. IsPlaceOf os k i) (λ _. file_at os k ≡ None)
searched os k (Ok i) r range is = record { within = range; is = λ d. exact_unsigned _ _ (is d) }
searched os k (Err gap) r range is = none_there os k (apart os k gap (is (rise os k r)))

-- a test answers one or the other
pub two_ways : (b : Bool) → (b ≡ true) ⊎ (b ≡ false)
two_ways true = inl refl
two_ways false = inr refl

-- a file at another place stays
pub stays : (k : ℕ) (g : Stage → Stage) (o : Offer) → (rank o.request == k) ≡ false → change_at k g o ≡ o
stays k g o h = rw h refl

-- where no file stands at the place, none is changed
pub untouched : (k : ℕ) (g : Stage → Stage) (os : List Offer) → file_at os k ≡ None → changed k g os ≡ os
untouched k g [] e = refl
untouched k g (o ∷ os) e = elim (two_ways (rank o.request == k)) [
  | inl here ↦ let found = rw here at e in cc
  | inr apart_from ↦ let rest = untouched k g os (rw apart_from at e) in let same = stays k g o apart_from in cc
]

-- the one at an index is changed
pub set_is : (low : ℕ) (g : Stage → Stage) (os : List Offer) (i : ℕ) (d : Offer) → RisesFrom low os → i < length os → set os i (record (get_or os i d) { stage = g (get_or os i d).stage }) ≡ changed (rank (get_or os i d).request) g os
set_is low g [] i d r h = absurd (omega arith)
set_is low g (o ∷ os) zero d r h =
    let here : (rank o.request == rank o.request) ≡ true = grind (arith, nat_tests) in
    let rest = untouched (rank o.request) g os (absent (rank o.request) (suc (rank o.request)) os (omega arith) r.1) in
    rw (here, rest) refl
set_is low g (o ∷ os) (suc i) d r h =
    let behind = low_at (suc (rank o.request)) os i d r.1 (omega arith) in
    let apart_from : (rank o.request == rank (get_or os i d).request) ≡ false = grind (arith, nat_tests) in
    let rest = set_is (suc (rank o.request)) g os i d r.1 (omega arith) in
    let same = stays (rank (get_or os i d).request) g o apart_from in
    cc

-- what is changed stays in order
pub changed_rises : (low k : ℕ) (g : Stage → Stage) (os : List Offer) → RisesFrom low os → RisesFrom low (changed k g os)
changed_rises low k g [] r = tt
changed_rises low k g (o ∷ os) r = elim (two_ways (rank o.request == k)) [
  | inl here ↦ rw here (r.0, changed_rises (suc (rank o.request)) k g os r.1)
  | inr apart_from ↦ rw apart_from (r.0, changed_rises (suc (rank o.request)) k g os r.1)
]

-- the file at an index is the one of its place
pub file_is : (low : ℕ) (os : List Offer) (i : ℕ) (d : Offer) (k : ℕ) → RisesFrom low os → i < length os → rank (get_or os i d).request ≡ k → file_at os k ≡ Some (get_or os i d)
file_is low [] i d k r h e = absurd (omega arith)
file_is low (o ∷ os) zero d k r h e = let here : (rank o.request == k) ≡ true = grind (arith, nat_tests) in rw here refl
file_is low (o ∷ os) (suc i) d k r h e =
    let behind = low_at (suc (rank o.request)) os i d r.1 (omega arith) in
    let apart_from : (rank o.request == k) ≡ false = grind (arith, nat_tests) in
    rw apart_from (file_is (suc (rank o.request)) os i d k r.1 (omega arith) e)
