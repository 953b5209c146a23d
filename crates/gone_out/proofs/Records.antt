-- Records by their places.
use Rattle.std.proofs.Common.{◌≡◌, ◌<◌, ◌≤◌, ◌+◌, ◌*◌, ◌-◌, ◌/◌, ◌⊎◌, inl, inr, ℕ, Bool, true, List, length, min, take, drop, sym, ap, ◌∙◌, arith, subst}
use Rattle.std.specs.Prelude.{◌↔◌, IsTrue, slice_index}
use Rattle.std.proofs.lemmas.Bool.{cases_eq}
use Rattle.std.proofs.lemmas.List.{length-take, length-drop}
use Rattle.gone_out.specs.declared.origin.Origin.{Origin}
use Rattle.gone_out.specs.Files.{IsNumber, IsRecordAt, HasRecord, record_bytes}
use Rattle.gone_out.specs.Numbers.{has}

-- a record names its number
pub same_number : (o : Origin) (n m : ℕ) → IsNumber n → IsNumber m → record_bytes o n ≡ record_bytes o m → n ≡ m
same_number o n m is other e =
    let e0 : slice_index (record_bytes o n) 0 ≡ slice_index (record_bytes o m) 0 = ap (λ (l : List ℕ). slice_index l 0) e in
    let e1 : slice_index (record_bytes o n) 1 ≡ slice_index (record_bytes o m) 1 = ap (λ (l : List ℕ). slice_index l 1) e in
    let e2 : slice_index (record_bytes o n) 2 ≡ slice_index (record_bytes o m) 2 = ap (λ (l : List ℕ). slice_index l 2) e in
    let e3 : slice_index (record_bytes o n) 3 ≡ slice_index (record_bytes o m) 3 = ap (λ (l : List ℕ). slice_index l 3) e in
    omega (arith, e0, e1, e2, e3, is.1, other.1)

-- the number has a record before this place
abbrev pub HasBefore : List ℕ → Origin → ℕ → ℕ → Type 0
HasBefore bytes o n end = (place : ℕ) × (place < end) × IsRecordAt bytes o n place

-- the numbers are those of the records before this place
abbrev pub AreBefore : List ℕ → Origin → List Bool → ℕ → Type 0
AreBefore bytes o flags end = (n : ℕ) → IsTrue (has flags n) ↔ (IsNumber n × HasBefore bytes o n end)

-- one place more
pub one_more :
    (bytes : List ℕ) (o : Origin) (old new : List Bool) (place : ℕ) → AreBefore bytes o old place
    → ((n : ℕ) → IsTrue (has new n) ↔ (IsTrue (has old n) ⊎ (IsNumber n × IsRecordAt bytes o n place)))
    → AreBefore bytes o new (place + 1)
one_more bytes o old new place before more n = (
  λ is. elim ((more n).0 is) [
    | inl was ↦ let h = (before n).0 was in (h.0, (h.1.0, (let l = h.1.1 in omega (arith, l)), h.1.2))
    | inr here ↦ (here.0, (place, omega arith, here.1))
  ],
  λ is. (more n).1 (elim (cases_eq is.1.0 place) as (λ _. IsTrue (has old n) ⊎ (IsNumber n × IsRecordAt bytes o n place)) [
    | inl same ↦ inr (is.0, subst (λ (p : ℕ). IsRecordAt bytes o n p) same is.1.2)
    | inr other ↦ inl ((before n).1 (is.0, (is.1.0, (let l = is.1.1 in omega (arith, l, other)), is.1.2)))
  ]),
)

-- a record lies within the bytes
pub lies_within : (bytes : List ℕ) (o : Origin) (n place : ℕ) → IsRecordAt bytes o n place → 16 + 8 * place + 8 ≤ length bytes
lies_within bytes o n place is =
    let len : length (take 8 (drop (16 + 8 * place) bytes)) ≡ 8 = ap (λ (l : List ℕ). length l) is in
    let parts : length (take 8 (drop (16 + 8 * place) bytes)) ≡ min 8 (length bytes - (16 + 8 * place)) =
    length-take 8 (drop (16 + 8 * place) bytes) ∙ ap (min 8) (length-drop (16 + 8 * place) bytes) in
    omega (arith, len, parts)

-- all places are looked at
pub all_looked_at :
    (bytes : List ℕ) (o : Origin) (flags : List Bool) (end : ℕ) → (length bytes - 16) / 8 ≤ end → AreBefore bytes o flags end
    → (n : ℕ) → IsTrue (has flags n) ↔ (IsNumber n × HasRecord bytes o n)
all_looked_at bytes o flags end high before n = (
  λ is. let h = (before n).0 is in (h.0, (h.1.0, h.1.2)),
  λ is. (before n).1 (is.0, (is.1.0, (let w = lies_within bytes o n is.1.0 is.1.1 in omega (arith, w, high)), is.1.1)),
)

-- where a record stands at the place, its number is added, and where none does, nothing is
module _ (bytes : List ℕ) (o : Origin) (place : ℕ) where
  pub found_one :
      (old new : List Bool) (k : ℕ) → IsNumber k → IsRecordAt bytes o k place → has new k ≡ true → ((n : ℕ) → ¬ (n ≡ k) → has new n ≡ has old n)
      → (n : ℕ) → IsTrue (has new n) ↔ (IsTrue (has old n) ⊎ (IsNumber n × IsRecordAt bytes o n place))
  found_one old new k number record_is same others n =
      elim (cases_eq n k) [
        | inl is ↦ (
          λ _. inr (subst (λ (m : ℕ). IsNumber m × IsRecordAt bytes o m place) (sym is) (number, record_is)),
          λ _. subst (λ (m : ℕ). has new m ≡ true) (sym is) same,
        )
        | inr apart ↦ (
          λ in_new. inl (sym (others n apart) ∙ in_new),
          λ either. elim either [
            | inl in_old ↦ others n apart ∙ in_old
            | inr here ↦ absurd (apart (same_number o n k here.0 number (sym here.1 ∙ record_is)))
          ],
        )
      ]

  pub found_none :
      (flags : List Bool) → ((n : ℕ) → IsNumber n → ¬ (IsRecordAt bytes o n place))
      → (n : ℕ) → IsTrue (has flags n) ↔ (IsTrue (has flags n) ⊎ (IsNumber n × IsRecordAt bytes o n place))
  found_none flags none n =
      (λ is. inl is, λ either. elim either [ inl is ↦ is | inr here ↦ absurd (none n here.0 here.1) ])
