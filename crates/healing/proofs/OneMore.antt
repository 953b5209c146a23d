-- Lists of numbers, one more at their ends.
use Rattle.std.proofs.Common.{◌≡◌, ◌<◌, ◌≤◌, ◌+◌, ℕ, Bool, true, false, List, [], ◌∷◌, ◌++◌, length, length-append, take, get_or, refl, sym, ap, ◌∙◌, inl, inr, ◌⊎◌, eqb, eq-eqb, subst, true≢false, arith}
use Rattle.std.specs.Prelude.{◌||◌, if◌then◌else◌}
use Rattle.std.proofs.lemmas.List.{take_more}
use Rattle.std.proofs.lemmas.Bool.{eqb-true}
use Rattle.std.proofs.lemmas.List.Folds.{list_any-append}
use Rattle.protocol.specs.Limits.{last_number}
use Rattle.healing.specs.declared.case.LackedNumber.{LackedNumber}
use Rattle.healing.specs.Lists.{Rise, is_among}
use Rattle.healing.specs.Healing.{IsDueIn, AreDueIn}

-- the last number, or this one where there is none
abbrev pub Ends : ℕ → List ℕ → ℕ → Type 0
Ends above [] last = above ≡ last
Ends above (n ∷ ns) last = Ends n ns last

pub rise_more : (above : ℕ) (ns : List ℕ) (last n : ℕ) → Rise above ns → Ends above ns last → last < n → n ≤ last_number → Rise above (ns ++ n ∷ [])
rise_more above [] last n rise is up high = ((let below = up in omega (arith, is, below)), high, tt)
rise_more above (m ∷ ns) last n rise is up high = (rise.0, rise.1, rise_more m ns last n rise.2 is up high)

pub ends_more : (above : ℕ) (ns : List ℕ) (n : ℕ) → Ends above (ns ++ n ∷ []) n
ends_more above [] n = refl
ends_more above (m ∷ ns) n = ends_more m ns n

pub due_more : (cases : List (ℕ × LackedNumber)) (now : ℕ) (ns : List ℕ) (n : ℕ) → AreDueIn cases now ns → IsDueIn cases now n → AreDueIn cases now (ns ++ n ∷ [])
due_more cases now [] n due is = (is, tt)
due_more cases now (m ∷ ns) n due is = (due.0, due_more cases now ns n due.1 is)

or_false : (b : Bool) → (b || false) ≡ b
or_false true = refl
or_false false = refl

pub among_more : (ns : List ℕ) (k n : ℕ) → is_among (ns ++ k ∷ []) n ≡ (is_among ns n || eqb k n)
among_more ns k n = list_any-append (λ each. eqb each n) ns (k ∷ []) ∙ ap (λ b. is_among ns n || b) (or_false (eqb k n))

-- what is kept of the first numbers
abbrev pub AreKept : (ℕ → Bool) → List ℕ → List ℕ → Type 0
AreKept keeps numbers kept = (n : ℕ) → keeps n ≡ true → is_among numbers n ≡ true → is_among kept n ≡ true

pub or_left : (a b : Bool) → a ≡ true → (a || b) ≡ true
or_left true b e = refl
or_left false b e = absurd (true≢false (sym e))

pub or_right : (a b : Bool) → b ≡ true → (a || b) ≡ true
or_right true b e = refl
or_right false b e = e

pub or_cases : (a b : Bool) → (a || b) ≡ true → (a ≡ true) ⊎ (b ≡ true)
or_cases true b e = inl refl
or_cases false b e = inr e

pub was_among : (ns : List ℕ) (k n : ℕ) → is_among ns n ≡ true → is_among (ns ++ k ∷ []) n ≡ true
was_among ns k n is = among_more ns k n ∙ or_left (is_among ns n) (eqb k n) is

pub new_among : (ns : List ℕ) (n : ℕ) → is_among (ns ++ n ∷ []) n ≡ true
new_among ns n = among_more ns n n ∙ or_right (is_among ns n) (eqb n n) (eq-eqb n n refl)

pub kept_one : (keeps : ℕ → Bool) (numbers kept : List ℕ) (k : ℕ) → AreKept keeps numbers kept → AreKept keeps (numbers ++ k ∷ []) (kept ++ k ∷ [])
kept_one keeps numbers kept k all n keep is =
    elim (or_cases (is_among numbers n) (eqb k n) (sym (among_more numbers k n) ∙ is)) [
      | inl before ↦ was_among kept k n (all n keep before)
      | inr last ↦ subst (λ (m : ℕ). is_among (kept ++ k ∷ []) m ≡ true) (eqb-true k n last) (new_among kept k)
    ]

pub kept_none : (keeps : ℕ → Bool) (numbers kept : List ℕ) (k : ℕ) → AreKept keeps numbers kept → keeps k ≡ false → AreKept keeps (numbers ++ k ∷ []) kept
kept_none keeps numbers kept k all not_kept n keep is =
    elim (or_cases (is_among numbers n) (eqb k n) (sym (among_more numbers k n) ∙ is)) [
      | inl before ↦ all n keep before
      | inr last ↦ absurd (true≢false (sym keep ∙ ap keeps (sym (eqb-true k n last)) ∙ not_kept))
    ]

-- the same of one number more of a list
pub kept_next :
    (keeps : ℕ → Bool) (numbers kept : List ℕ) (i k : ℕ) (b : Bool) → i < length numbers → k ≡ get_or numbers i 0 → b ≡ keeps k
    → AreKept keeps (take i numbers) kept → AreKept keeps (take (i + 1) numbers) (if b then kept ++ k ∷ [] else kept)
kept_next keeps numbers kept i k b within is test all =
    subst (λ (l : List ℕ). AreKept keeps l (if b then kept ++ k ∷ [] else kept))
    (ap (λ (m : ℕ). take i numbers ++ m ∷ []) is ∙ sym (take_more numbers i 0 within))
    (go b test)
  where
    go : (b : Bool) → b ≡ keeps k → AreKept keeps (take i numbers ++ k ∷ []) (if b then kept ++ k ∷ [] else kept)
    go true e = kept_one keeps (take i numbers) kept k all
    go false e = kept_none keeps (take i numbers) kept k all (sym e)

pub few_more : (b : Bool) (ns : List ℕ) (k i : ℕ) → length ns ≤ i → length (if b then ns ++ k ∷ [] else ns) ≤ i + 1
few_more true ns k i few = let more : length (ns ++ k ∷ []) ≡ length ns + 1 = length-append ns (k ∷ []) in omega (arith, few, more)
few_more false ns k i few = omega (arith, few)

-- none of the first numbers is so
abbrev pub AreNot : (ℕ → Type 0) → (ℕ → Bool) → List ℕ → Type 0
AreNot counts is_so numbers = (n : ℕ) → counts n → is_among numbers n ≡ true → is_so n ≡ false

pub not_next :
    (counts : ℕ → Type 0) (is_so : ℕ → Bool) (numbers : List ℕ) (i k : ℕ) → i < length numbers → k ≡ get_or numbers i 0 → (counts k → is_so k ≡ false)
    → AreNot counts is_so (take i numbers) → AreNot counts is_so (take (i + 1) numbers)
not_next counts is_so numbers i k within at not_k before =
    subst (AreNot counts is_so) (ap (λ (m : ℕ). take i numbers ++ m ∷ []) at ∙ sym (take_more numbers i 0 within))
    (λ n counted is. elim (or_cases (is_among (take i numbers) n) (eqb k n) (sym (among_more (take i numbers) k n) ∙ is)) [
      | inl early ↦ before n counted early
      | inr last ↦
          let same : k ≡ n = eqb-true k n last in
          subst (λ (m : ℕ). is_so m ≡ false) same (not_k (subst counts (sym same) counted))
    ])
