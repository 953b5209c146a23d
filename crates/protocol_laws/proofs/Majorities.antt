-- Two majorities share a member.
use Rattle.std.proofs.Common.{◌≡◌, ℕ, zero, suc, ◌+◌, ◌*◌, ◌<◌, ◌≤◌, ◌⊎◌, inl, inr, refl, arith, List, [], ◌∷◌, ◌++◌, Bool, true, false, cond, length, length-append}
use Rattle.std.specs.List.{count_by}
use Rattle.std.proofs.lemmas.List.Sums.{sum_by-cons}
use Rattle.protocol.specs.Ballots.{members, IsMember, Majority}
use Rattle.protocol.specs.Lists.{IsAmong}

-- a count of one member more
pub one_more : (p : ℕ → Bool) (x : ℕ) (xs : List ℕ) → count_by p (x ∷ xs) ≡ cond (p x) 1 0 + count_by p xs
one_more p x xs = sum_by-cons (λ y. cond (p y) 1 0) x xs

few_more : (p q : ℕ → Bool) (x : ℕ) (xs : List ℕ) → cond (p x) 1 0 + cond (q x) 1 0 ≤ 1 → count_by p xs + count_by q xs ≤ length xs → count_by p (x ∷ xs) + count_by q (x ∷ xs) ≤ length (x ∷ xs)
few_more p q x xs l h = omega (arith, one_more p x xs, one_more q x xs)

pub both_or_few : (p q : ℕ → Bool) (xs : List ℕ) → ((x : ℕ) × IsAmong xs x × (p x ≡ true) × (q x ≡ true)) ⊎ (count_by p xs + count_by q xs ≤ length xs)
both_or_few p q [] = inr (omega arith)
both_or_few p q (x ∷ xs) = go (p x) (q x) refl refl (both_or_few p q xs)
  where
    go : (a b : Bool) → p x ≡ a → q x ≡ b
        → ((y : ℕ) × IsAmong xs y × (p y ≡ true) × (q y ≡ true)) ⊎ (count_by p xs + count_by q xs ≤ length xs)
        → ((y : ℕ) × IsAmong (x ∷ xs) y × (p y ≡ true) × (q y ≡ true)) ⊎ (count_by p (x ∷ xs) + count_by q (x ∷ xs) ≤ length (x ∷ xs))
    go true true e f h = inl (x, inl refl, e, f)
    go a b e f (inl (y, i, u, v)) = inl (y, inr i, u, v)
    go true false e f (inr h) = inr (few_more p q x xs (rw (e, f) (omega arith)) h)
    go false true e f (inr h) = inr (few_more p q x xs (rw (e, f) (omega arith)) h)
    go false false e f (inr h) = inr (few_more p q x xs (rw (e, f) (omega arith)) h)

pub length-members : (c : ℕ) → length (members c) ≡ c
length-members zero = refl
length-members (suc c) = let h : length (members c) ≡ c = length-members c in omega (arith, h, length-append (members c) (suc c ∷ []))

among-append : {A : Type 0} (xs ys : List A) (x : A) → IsAmong (xs ++ ys) x → IsAmong xs x ⊎ IsAmong ys x
among-append [] ys x h = inr h
among-append (y ∷ xs) ys x (inl e) = inl (inl e)
among-append (y ∷ xs) ys x (inr h) = elim (among-append xs ys x h) [ inl k ↦ inl (inr k) | inr k ↦ inr k ]

pub among_members : (c m : ℕ) → IsAmong (members c) m → IsMember c m
among_members zero m h = elim h [ ]
among_members (suc c) m h = elim (among-append (members c) (suc c ∷ []) m h) [
  | inl k ↦ let l : IsMember c m = among_members c m k in (omega arith, omega arith)
  | inr k ↦ elim k [ inl e ↦ (omega arith, omega arith) | inr n ↦ elim n [ ] ]
]

pub shared : {c : ℕ} {P Q : ℕ → Type 0} → Majority c P → Majority c Q → (m : ℕ) × IsMember c m × P m × Q m
shared {c = c} {P = P} {Q = Q} a b = elim (both_or_few a.has b.has (members c)) [
  | inl h ↦ (h.0, among_members c h.0 h.1, a.each h.0 (among_members c h.0 h.1) h.2, b.each h.0 (among_members c h.0 h.1) h.3)
  | inr few ↦ absurd (let l : length (members c) ≡ c = length-members c in let p : c < 2 * count_by a.has (members c) = a.many in let q : c < 2 * count_by b.has (members c) = b.many in omega arith)
]

-- a majority of which each member P, where P implies Q
pub weaker : {c : ℕ} {P Q : ℕ → Type 0} → ((m : ℕ) → IsMember c m → P m → Q m) → Majority c P → Majority c Q
weaker f a = record { has = a.has; many = a.many; each = λ m i h. f m i (a.each m i h) }

-- some member is in a majority
pub some_member : {c : ℕ} {P : ℕ → Type 0} → Majority c P → (m : ℕ) × IsMember c m × P m
some_member a = let h = shared a a in (h.0, h.1, h.2)
