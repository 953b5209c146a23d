-- Of a list, so many were looked at.
use Rattle.std.proofs.Common.{◌≡◌, ◌<◌, ◌+◌, ◌++◌, ℕ, zero, suc, List, [], ◌∷◌, length, get_or, take, false, true, Some, ap, subst, sym, arith, below_more}
use Rattle.std.specs.Prelude.{slice_get}
use Rattle.std.specs.List.{AllByRecursion}
use Rattle.std.proofs.lemmas.Option.{slice_get-get_or}
use Rattle.std.proofs.lemmas.Bool.{false≢true}

pub all_more : {X : Type 0} (P : X → Type 0) (xs : List X) (x : X) → AllByRecursion P xs → P x → AllByRecursion P (xs ++ x ∷ [])
all_more P [] x all p = (p, tt)
all_more P (y ∷ ys) x all p = (all.0, all_more P ys x all.1 p)

pub take_next : {X : Type 0} (xs : List X) (i : ℕ) (x : X) → slice_get xs i ≡ Some x → take (suc i) xs ≡ take i xs ++ x ∷ []
take_next [] i x e = cc
take_next (y ∷ ys) zero x e = let same : y ≡ x = cc in ap (λ z. z ∷ []) same
take_next (y ∷ ys) (suc i) x e = ap (λ zs. y ∷ zs) (take_next ys i x e)

-- one more was looked at, and it is so of it too
pub one_more : {X : Type 0} (P : X → Type 0) (xs : List X) (i : ℕ) (x : X) → slice_get xs i ≡ Some x → AllByRecursion P (take i xs) → P x → AllByRecursion P (take (suc i) xs)
one_more P xs i x at all p = subst (AllByRecursion P) (sym (take_next xs i x at)) (all_more P (take i xs) x all p)

-- the next was looked at, and it is not so of it either
pub passed_over : {X : Type 0} (P : X → Type 0) (xs : List X) (i : ℕ) (d : X) → i < length xs → AllByRecursion (λ x. ¬ P x) (take i xs)
    → (P (get_or xs i d) → false ≡ true) → AllByRecursion (λ x. ¬ P x) (take (i + 1) xs)
passed_over P xs i d less all looked =
    let next : suc i ≡ i + 1 = omega arith in
    subst (λ k. AllByRecursion (λ x. ¬ P x) (take k xs)) next
    (one_more (λ x. ¬ P x) xs i (get_or xs i d) (slice_get-get_or xs i d less) all (λ h. false≢true (looked h)))

-- two that stand at one place are one
pub same_place : {X : Type 0} (xs : List X) (i : ℕ) (x y : X) → slice_get xs i ≡ Some x → slice_get xs i ≡ Some y → x ≡ y
same_place xs i x y a b = cc

-- it is so of what stands at one more place, and all before it
pub next_place : {X : Type 0} (Q : X → X → Type 0) (xs : List X) (place : ℕ) (x : X) → slice_get xs place ≡ Some x → AllByRecursion (Q x) (take place xs)
    → ((i : ℕ) (y : X) → i < place → slice_get xs i ≡ Some y → AllByRecursion (Q y) (take i xs))
    → (i : ℕ) (y : X) → i < place + 1 → slice_get xs i ≡ Some y → AllByRecursion (Q y) (take i xs)
next_place {X} Q xs place x at here before i y less stands =
    below_more (λ k. (z : X) → slice_get xs k ≡ Some z → AllByRecursion (Q z) (take k xs)) place
    (λ k lower z. before k z lower)
    (λ z other. subst (λ w. AllByRecursion (Q w) (take place xs)) (same_place xs place x z at other) here)
    i less y stands

-- what stands at a place of a front stands there in the whole
pub get_in_take : {X : Type 0} (xs : List X) (n k : ℕ) (x : X) → slice_get (take n xs) k ≡ Some x → slice_get xs k ≡ Some x
get_in_take [] zero k x e = cc
get_in_take [] (suc n) k x e = cc
get_in_take (y ∷ ys) zero k x e = cc
get_in_take (y ∷ ys) (suc n) zero x e = e
get_in_take (y ∷ ys) (suc n) (suc k) x e = get_in_take ys n k x e
