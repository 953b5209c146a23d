-- Rounds and counting: one member is no majority of more, a ballot of the next round stands above all promises of the last,
-- and of the rounds of a set of members there is a greatest.
use Rattle.std.proofs.Common.{◌≡◌, ℕ, zero, suc, ◌+◌, ◌*◌, ◌<◌, ◌≤◌, ◌⊎◌, inl, inr, refl, sym, ap, subst, arith, List, [], ◌∷◌, ◌++◌, Option, Some, None, Bool, true, false, cond}
use Rattle.std.specs.Prelude.{◌==◌, nat_lt, count_by}
use Rattle.std.proofs.lemmas.Bool.{eqb-false, le-ltb, lt-ltb, ltb-true, ltb-false}
use Rattle.std.proofs.lemmas.Bool.Decides.{nat_tests}
use Rattle.std.proofs.lemmas.List.Sums.{sum_by-append}
use Rattle.protocol.specs.Lists.{IsAmong}
use Rattle.protocol.specs.Ballots.{Ballot, IsAtMost, members, is_majority, last_round, next}
use Rattle.protocol.specs.Entries.{Entry}
use Rattle.protocol.specs.Rows.{Vote}
use Rattle.protocol.specs.Acceptor.{is_above, is_at, vote_is_at}
use Rattle.protocol.specs.Marks.{Heard}
use Rattle.protocol.specs.Circuit.{Circuit, State, History}
use Rattle.protocol.specs.Progress.{HasRoundLeft, round_of}
use Rattle.protocol_laws.proofs.Majorities.{one_more, among_members}
use Rattle.protocol_laws.proofs.Steps.{history_sound}
use Rattle.protocol_laws.proofs.Agreements.{heard_is_voted}
use Rattle.protocol_laws.proofs.Replying.{yes_no}

-- one member alone is no majority of two or more

none_counted : (p : ℕ → Bool) (xs : List ℕ) → ((x : ℕ) → IsAmong xs x → p x ≡ false) → count_by p xs ≡ 0
none_counted p [] h = refl
none_counted p (x ∷ xs) h =
    let e : cond {A = ℕ} (p x) 1 0 ≡ 0 = ap (λ (t : Bool). cond {A = ℕ} t 1 0) (h x (inl refl)) in
    let f : count_by p xs ≡ 0 = none_counted p xs (λ y i. h y (inr i)) in
    omega (arith, one_more p x xs)

one_counted : (p : ℕ → Bool) (m : ℕ) → ((k : ℕ) → p k ≡ true → k ≡ m) → (c : ℕ) → count_by p (members c) ≤ 1
one_counted p m only zero = omega arith
one_counted p m only (suc c) = go (p (suc c)) refl (one_counted p m only c)
  where
    sum : count_by p (members c ++ suc c ∷ []) ≡ count_by p (members c) + count_by p (suc c ∷ [])
    sum = sum_by-append (λ y. cond (p y) 1 0) (members c) (suc c ∷ [])

    one : count_by p (suc c ∷ []) ≡ cond (p (suc c)) 1 0 + 0
    one = one_more p (suc c) []

    go : (t : Bool) → p (suc c) ≡ t → count_by p (members c) ≤ 1 → count_by p (members (suc c)) ≤ 1
    go false e l =
        let f : cond {A = ℕ} (p (suc c)) 1 0 ≡ 0 = ap (λ (t : Bool). cond {A = ℕ} t 1 0) e in
        omega (arith, sum, one)
    go true e l =
        let f : cond {A = ℕ} (p (suc c)) 1 0 ≡ 1 = ap (λ (t : Bool). cond {A = ℕ} t 1 0) e in
        let none : count_by p (members c) ≡ 0 = none_counted p (members c) (λ x i. other x i (p x) refl) in
        omega (arith, sum, one)
      where
        other : (x : ℕ) → IsAmong (members c) x → (s : Bool) → p x ≡ s → p x ≡ false
        other x i true g =
            let a : x ≡ m = only x g in
            let d : suc c ≡ m = only (suc c) e in
            let l : x ≤ c = (among_members c x i).1 in
            absurd (omega arith)
        other x i false g = g

pub few : (c m : ℕ) (p : ℕ → Bool) → 1 ≤ c → (c == 1) ≡ false → ((k : ℕ) → p k ≡ true → k ≡ m) → is_majority c p ≡ false
few c m p some many only =
    let l : count_by p (members c) ≤ 1 = one_counted p m only c in
    let other : c ≡ 1 → ⊥ = eqb-false c 1 many in
    le-ltb c (2 * count_by p (members c)) (two (count_by p (members c)) l (more c some other))
  where
    more : (c : ℕ) → 1 ≤ c → (c ≡ 1 → ⊥) → 2 ≤ c
    more c some other = go (nat_lt c 2) refl
      where
        go : (t : Bool) → nat_lt c 2 ≡ t → 2 ≤ c
        go true e = absurd (other (let l : c < 2 = ltb-true c 2 e in omega arith))
        go false e = ltb-false c 2 e

    two : (x : ℕ) → x ≤ 1 → 2 ≤ c → 2 * x ≤ c
    two x l h = omega arith

pub left_below : (q : Option Ballot) → HasRoundLeft q → round_of q < last_round
left_below None h = omega arith
left_below (Some p) h = h

pub next_is : (m : ℕ) (q : Option Ballot) (r : ℕ) → round_of q ≡ r → r < last_round → next q m ≡ Some (record { round = suc r; owner = m })
next_is m None r e l = ap (λ (x : ℕ). Some (record { round = x; owner = m })) one
  where
    one : 1 ≡ suc r
    one = omega arith
next_is m (Some p) r e l =
    let f : nat_lt p.round last_round ≡ true = lt-ltb p.round last_round (let g : p.round ≡ r = e in omega arith) in
    rw f (ap (λ (x : ℕ). Some (record { round = suc x; owner = m })) e)

pub above_none :
    (q : Option Ballot) (r m : ℕ) → round_of q ≤ r
    → (is_above q (record { round = suc r; owner = m }) ≡ false) × (is_at q (record { round = suc r; owner = m }) ≡ false)
above_none None r m l = (refl, refl)
above_none (Some p) r m l = let h : p.round ≤ r = l in (grind (arith, nat_tests), grind (arith, nat_tests))

pub not_at : (v : Option Vote) (r m : ℕ) → ((x : Vote) → v ≡ Some x → x.ballot.round ≤ r) → vote_is_at v (record { round = suc r; owner = m }) ≡ false
not_at None r m h = refl
not_at (Some x) r m h = let l : x.ballot.round ≤ r = h x refl in grind (arith, nat_tests)

-- of the numbers of those that pass there is a greatest: it is one of them, or 0
pub greatest_of : (f : ℕ → ℕ) (p : ℕ → Bool) (limit : ℕ) → 0 < limit → (xs : List ℕ) → ((x : ℕ) → IsAmong xs x → p x ≡ true → f x < limit)
    → (r : ℕ) × (r < limit) × ((x : ℕ) → IsAmong xs x → p x ≡ true → f x ≤ r) × ((r ≡ 0) ⊎ ((x : ℕ) × IsAmong xs x × (p x ≡ true) × (f x ≡ r)))
greatest_of f p limit some [] h = (0, some, λ x i. absurd i, inl refl)
greatest_of f p limit some (x ∷ xs) h = go (greatest_of f p limit some xs (λ y i. h y (inr i))) (p x) refl (nat_cases _ _)
  where
    nat_cases : (a b : ℕ) → (a ≤ b) ⊎ (b < a)
    nat_cases a b = grind arith

    wider : {r : ℕ} → (r ≡ 0) ⊎ ((y : ℕ) × IsAmong xs y × (p y ≡ true) × (f y ≡ r)) → (r ≡ 0) ⊎ ((y : ℕ) × IsAmong (x ∷ xs) y × (p y ≡ true) × (f y ≡ r))
    wider (inl e) = inl e
    wider (inr (y, i, e, g)) = inr (y, inr i, e, g)

    go :
        (rest : (r : ℕ) × (r < limit) × ((y : ℕ) → IsAmong xs y → p y ≡ true → f y ≤ r) × ((r ≡ 0) ⊎ ((y : ℕ) × IsAmong xs y × (p y ≡ true) × (f y ≡ r))))
        → (t : Bool) → p x ≡ t → (f x ≤ rest.0) ⊎ (rest.0 < f x)
        → (r : ℕ) × (r < limit) × ((y : ℕ) → IsAmong (x ∷ xs) y → p y ≡ true → f y ≤ r) × ((r ≡ 0) ⊎ ((y : ℕ) × IsAmong (x ∷ xs) y × (p y ≡ true) × (f y ≡ r)))
    go rest false e c =
        (rest.0, rest.1, λ y i g. elim i [ inl same ↦ absurd (yes_no (p x) e (subst (λ (q : ℕ). p q ≡ true) same g)) | inr j ↦ rest.2 y j g ], wider rest.3)
    go rest true e (inl l) = (rest.0, rest.1, λ y i g. elim i [ inl same ↦ subst (λ (q : ℕ). f q ≤ rest.0) (sym same) l | inr j ↦ rest.2 y j g ], wider rest.3)
    go rest true e (inr l) =
        (f x, h x (inl refl) e, λ y i g. elim i [ inl same ↦ subst (λ (q : ℕ). f q ≤ f x) (sym same) (omega arith) | inr j ↦ (let k : f y ≤ rest.0 = rest.2 y j g in omega arith) ], inr (x, inl refl, e, refl))

-- a saved vote is not above its row's promise
pub vote_round :
    {D G F : Type 0} {z : Circuit D G F} {w : State G F} (h : History z w) (k n r : ℕ) → round_of (w.rows k n).promised ≤ r → (x : Vote)
    → (w.rows k n).vote ≡ Some x → x.ballot.round ≤ r
vote_round {w = w} h k n r l x e =
    let p = (history_sound h).sound.valid k n x e in
    let q : p.at.round ≤ r = subst (λ (o : Option Ballot). round_of o ≤ r) p.is l in
    at_most x.ballot p.at r p.reaches q
  where
    at_most : (a b : Ballot) (r : ℕ) → IsAtMost a b → b.round ≤ r → a.round ≤ r
    at_most a b r h l = grind arith

-- nor is a vote that was heard
pub heard_round :
    {D G F : Type 0} {z : Circuit D G F} {w : State G F} (h : History z w) (m n j r : ℕ) → round_of (w.rows j n).promised ≤ r
    → (a : Ballot) (u : Entry) → IsAmong (w.marks m) (Heard n j a u) → a.round ≤ r
heard_round {z = z} {w = w} h m n j r l a u i =
    let x = (history_sound h).sound.last j n a u (heard_is_voted z w h m n j a u i) in
    at_most a x.0.ballot r x.2 (vote_round h j n r l x.0 x.1)
  where
    at_most : (a b : Ballot) (r : ℕ) → IsAtMost a b → b.round ≤ r → a.round ≤ r
    at_most a b r h l = grind arith
