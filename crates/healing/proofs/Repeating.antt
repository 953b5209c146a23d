-- Numbers of a sorted list that are kept once each.
use Rattle.std.proofs.Common.{◌≡◌, ◌<◌, ◌≤◌, ◌+◌, ℕ, Bool, true, false, List, [], ◌∷◌, ◌++◌, length, take, drop, get_or, refl, sym, ap, ◌∙◌, inl, inr, ◌⊎◌, eqb, eq-eqb, subst, true≢false, Option, Some, None, arith}
use Rattle.std.specs.Prelude.{◌&&◌, not, IfSome}
use Rattle.std.specs.List.{refill}
use Rattle.std.specs.List.Sorted.{IsSorted, IsPermutation}
use Rattle.std.specs.Ordering.{nat_cmp}
use Rattle.std.proofs.lemmas.Bool.{eqb-true}
use Rattle.std.proofs.lemmas.List.{take-append-le, take_all, take_more}
use Rattle.std.proofs.lemmas.List.Sorted.{IsNonDecreasingBy-from_sort, list_any-IsPermutation}
use Rattle.protocol.specs.Limits.{last_number}
use Rattle.healing.specs.declared.case.LackedNumber.{LackedNumber}
use Rattle.healing.specs.declared.case.LackStage.{LackStage}
use Rattle.healing.specs.declared.case.LackStage.TheVariants.{Waiting, Recalled, Sought, Open, Left}
use Rattle.healing.specs.Cases.{awaited_in, is_over, is_recalled, recalled_in, was_asked}
use Rattle.healing.specs.Lists.{is_among}
use Rattle.healing.specs.Healing.{case_in}
use Rattle.healing.proofs.OneMore.{Ends, among_more, new_among, or_cases, or_left, or_right, was_among}

-- a circuit number that is asked for once more
abbrev pub Counts : List (ℕ × LackedNumber) → ℕ → ℕ → Type 0
Counts cases now n = (1 ≤ n) × (n ≤ last_number) × (awaited_in (case_in cases n) now ≡ true)

-- all of these numbers that count are kept
abbrev pub HasAll : (ℕ → Type 0) → List ℕ → List ℕ → Type 0
HasAll counts numbers kept = (n : ℕ) → counts n → is_among numbers n ≡ true → is_among kept n ≡ true

-- each number that is kept is so
abbrev pub HasOnly : (ℕ → Type 0) → List ℕ → Type 0
HasOnly is_so kept = (n : ℕ) → is_among kept n ≡ true → is_so n

pub only_more : (is_so : ℕ → Type 0) (kept : List ℕ) (k : ℕ) → HasOnly is_so kept → is_so k → HasOnly is_so (kept ++ k ∷ [])
only_more is_so kept k only so n is =
    elim (or_cases (is_among kept n) (eqb k n) (sym (among_more kept k n) ∙ is)) [
      | inl before ↦ only n before
      | inr last ↦ subst is_so (eqb-true k n last) so
    ]

-- one number more, which is among the kept if it counts
pub all_more :
    (counts : ℕ → Type 0) (numbers kept more : List ℕ) (i k : ℕ) → i < length numbers → k ≡ get_or numbers i 0
    → ((n : ℕ) → is_among kept n ≡ true → is_among more n ≡ true) → (counts k → is_among more k ≡ true)
    → HasAll counts (take i numbers) kept → HasAll counts (take (i + 1) numbers) more
all_more counts numbers kept more i k within at keeps has all =
    subst (λ (l : List ℕ). HasAll counts l more) (ap (λ (m : ℕ). take i numbers ++ m ∷ []) at ∙ sym (take_more numbers i 0 within))
    (λ n counted is. elim (or_cases (is_among (take i numbers) n) (eqb k n) (sym (among_more (take i numbers) k n) ∙ is)) [
      | inl early ↦ keeps n (all n counted early)
      | inr last ↦
          let same : k ≡ n = eqb-true k n last in
          subst (λ (m : ℕ). is_among more m ≡ true) same (has (subst counts (sym same) counted))
    ])

pub all_pushed :
    (counts : ℕ → Type 0) (numbers kept : List ℕ) (i k : ℕ) → i < length numbers → k ≡ get_or numbers i 0
    → HasAll counts (take i numbers) kept → HasAll counts (take (i + 1) numbers) (kept ++ k ∷ [])
all_pushed counts numbers kept i k within at =
    all_more counts numbers kept (kept ++ k ∷ []) i k within at (λ n. was_among kept k n) (λ counted. new_among kept k)

pub all_passed :
    (counts : ℕ → Type 0) (numbers kept : List ℕ) (i k : ℕ) → i < length numbers → k ≡ get_or numbers i 0
    → (counts k → is_among kept k ≡ true) → HasAll counts (take i numbers) kept → HasAll counts (take (i + 1) numbers) kept
all_passed counts numbers kept i k within at = all_more counts numbers kept kept i k within at (λ n is. is)

-- the last of some numbers is among them
pub last_among : (above : ℕ) (ns : List ℕ) (last : ℕ) → Ends above ns last → (last ≡ above) ⊎ (is_among ns last ≡ true)
last_among above [] last ends = inl (sym ends)
last_among above (n ∷ ns) last ends =
    elim (last_among n ns last ends) [
      | inl same ↦ inr (or_left (eqb n last) (is_among ns last) (eq-eqb n last (sym same)))
      | inr later ↦ inr (or_right (eqb n last) (is_among ns last) later)
    ]

-- the number at a place is at least as great as the last that was kept
abbrev pub IsFloor : ℕ → List ℕ → ℕ → Type 0
IsFloor above numbers i = i < length numbers → above ≤ get_or numbers i 0

pub floor_next : (numbers : List ℕ) (above i : ℕ) → IsSorted nat_cmp numbers → above ≤ get_or numbers i 0 → IsFloor above numbers (i + 1)
floor_next numbers above i sorted floor within =
    let up = IsNonDecreasingBy-from_sort (λ (n : ℕ). n) numbers sorted i (i + 1) 0 (omega arith) within in
    omega (arith, up, floor)

-- a number that is no greater than the last, and not less, is the last, and was kept
pub kept_before : (ns : List ℕ) (last k : ℕ) → Ends 0 ns last → last ≤ k → k ≤ last → 1 ≤ k → is_among ns k ≡ true
kept_before ns last k ends low high some =
    let same : last ≡ k = omega (arith, low, high) in
    elim (last_among 0 ns last ends) [
      | inl none ↦ absurd (let zero : last ≡ 0 = none in omega (arith, zero, same, some))
      | inr is ↦ subst (λ (m : ℕ). is_among ns m ≡ true) same is
    ]

-- what is asked for once more is recalled
asked_stage : (s : LackStage) (now : ℕ) (b : Bool) → (was_asked s now && b) ≡ true → is_recalled s ≡ true
asked_stage (Recalled at) now b e = refl
asked_stage Waiting now b e = absurd (true≢false (sym e))
asked_stage Sought now b e = absurd (true≢false (sym e))
asked_stage Open now b e = absurd (true≢false (sym e))
asked_stage Left now b e = absurd (true≢false (sym e))

pub awaited_recalled : (c : Option LackedNumber) (now : ℕ) → awaited_in c now ≡ true → recalled_in c ≡ true
awaited_recalled None now e = absurd (true≢false (sym e))
awaited_recalled (Some c) now e = asked_stage c.stage now (not (is_over c now)) e

-- what stood among some numbers does so after they were sorted in their place
pub among_sorted :
    (numbers lent sorted : List ℕ) (n : ℕ) → lent ≡ numbers → length sorted ≡ length lent → IsPermutation lent sorted → is_among numbers n ≡ true
    → is_among (refill (length numbers) numbers sorted) n ≡ true
among_sorted numbers lent sorted n from len same is =
    let long : length sorted ≡ length numbers = len ∙ ap (λ (l : List ℕ). length l) from in
    ap (λ (l : List ℕ). is_among l n)
    (take-append-le (length numbers) sorted (drop (length sorted) numbers) (omega (arith, long)) ∙ take_all (length numbers) sorted (omega (arith, long)))
    ∙ sym (list_any-IsPermutation (λ each. eqb each n) lent sorted same)
    ∙ ap (λ (l : List ℕ). is_among l n) from
    ∙ is

-- what holds of these numbers holds of a batch of them
pub of_batch : (batch : Option (List ℕ)) (items : List ℕ) (holds : List ℕ → Type 0) → IfSome batch (λ b. b ≡ items) → holds items → IfSome batch holds
of_batch None items holds is h = tt
of_batch (Some b) items holds is h = subst holds (sym is) h

-- where no number is kept none is so that would be
pub none_kept : (b : Bool) (items : List ℕ) (n : ℕ) → items ≡ [] → (b ≡ true → is_among items n ≡ true) → b ≡ false
none_kept false items n none keeps = refl
none_kept true items n none keeps = absurd (true≢false (sym (keeps refl) ∙ ap (λ (l : List ℕ). is_among l n) none))
