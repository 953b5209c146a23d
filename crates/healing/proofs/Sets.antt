-- Bits as sets of members.
use Rattle.std.proofs.Common.{◌≡◌, ℕ, ◌^◌, ◌<◌, ◌≤◌, Bool, true, false, refl, sym, ap, ◌∙◌, true≢false, eqb, eq-eqb, ne_eqb, inl, inr, ◌⊎◌, arith}
use Rattle.std.specs.Prelude.{◌||◌, bit_or, max}
use Rattle.std.specs.Int.{bit_at}
use Rattle.std.proofs.lemmas.Bool.{eqb-true, cases_eq}
use Rattle.std.proofs.lemmas.Nat.Bits.{bit_at-zero, bit_at_or, bit_at-pow_same, bit_at-pow_other, bit_at-lt, same_from_bits}
use Rattle.healing.proofs.OneMore.{or_cases}
use Rattle.healing.specs.declared.voters.Voters.{Voters}
use Rattle.healing.specs.Voters.{AreSets, none, is_none, is_voter, with_voter, is_within}

pub none_empty : (v : Voters) → is_none v ≡ true → (member : ℕ) → is_voter v member ≡ false
none_empty v is member = ap (λ (b : ℕ). eqb (bit_at b member) 1) (eqb-true v.bits 0 is) ∙ ap (λ (b : ℕ). eqb b 1) (bit_at-zero member)

max_one : (x : ℕ) → x < 2 → eqb (max x 1) 1 ≡ true
max_one x small = eq-eqb _ 1 (omega arith)

max_zero : (x : ℕ) → eqb (max x 0) 1 ≡ eqb x 1
max_zero x = let same : max x 0 ≡ x = omega arith in ap (λ (b : ℕ). eqb b 1) same

pub one_more : (v : Voters) (new member : ℕ) → is_voter (with_voter new v) member ≡ (eqb new member || is_voter v member)
one_more v new member =
    ap (λ (b : ℕ). eqb b 1) (bit_at_or v.bits (2 ^ new) member)
    ∙ elim (cases_eq new member) as (λ _. eqb (max (bit_at v.bits member) (bit_at (2 ^ new) member)) 1 ≡ (eqb new member || is_voter v member)) [
      | inl same ↦
          ap (λ (b : ℕ). eqb (max (bit_at v.bits member) b) 1) (ap (λ (k : ℕ). bit_at (2 ^ new) k) (sym same) ∙ bit_at-pow_same new)
          ∙ max_one (bit_at v.bits member) (bit_at-lt v.bits member)
          ∙ sym (ap (λ (b : Bool). b || is_voter v member) (eq-eqb new member same))
      | inr other ↦
          ap (λ (b : ℕ). eqb (max (bit_at v.bits member) b) 1) (bit_at-pow_other new member (λ e. other (sym e)))
          ∙ max_zero (bit_at v.bits member)
          ∙ sym (ap (λ (b : Bool). b || is_voter v member) (ne_eqb new member other))
    ]

pub among_both : (v w : Voters) → is_within v w ≡ true → (member : ℕ) → is_voter v member ≡ true → is_voter w member ≡ true
among_both v w within member is =
    let a : ℕ = bit_at v.bits member in
    let b : ℕ = bit_at w.bits member in
    let small : b < 2 = bit_at-lt w.bits member in
    let one : a ≡ 1 = eqb-true a 1 is in
    let both : max a b ≡ b = sym (bit_at_or v.bits w.bits member) ∙ ap (λ (x : ℕ). bit_at x member) (eqb-true (bit_or v.bits w.bits) w.bits within) in
    eq-eqb b 1 (omega (arith, one, both, small))

pub all_among : (v w : Voters) → ((member : ℕ) → is_voter v member ≡ true → is_voter w member ≡ true) → is_within v w ≡ true
all_among v w all =
    eq-eqb (bit_or v.bits w.bits) w.bits
    (same_from_bits (bit_or v.bits w.bits) w.bits (λ i. bit_at_or v.bits w.bits i ∙ each i (cases_eq (bit_at v.bits i) 1)))
  where
    each : (i : ℕ) → (bit_at v.bits i ≡ 1) ⊎ (bit_at v.bits i ≡ 1 → ⊥) → max (bit_at v.bits i) (bit_at w.bits i) ≡ bit_at w.bits i
    each i (inl is) =
        let b : bit_at w.bits i ≡ 1 = eqb-true _ 1 (all i (eq-eqb _ 1 is)) in
        omega (arith, is, b)
    each i (inr is_not) =
        let small : bit_at v.bits i < 2 = bit_at-lt v.bits i in
        let zero : bit_at v.bits i ≡ 0 = omega (arith, small, is_not) in
        omega (arith, zero)

pub are_sets : AreSets
are_sets = record { empty = none_empty; more = one_more; within = among_both; all_within = all_among }

-- where there are none, each is among any others
pub none_within : (v w : Voters) → is_none v ≡ true → is_within v w ≡ true
none_within v w is = all_among v w (λ m e. absurd (true≢false (sym e ∙ none_empty v is m)))

-- one more of them is among others, if it is
pub more_within : (v w : Voters) (new : ℕ) → is_within v w ≡ true → is_voter w new ≡ true → is_within (with_voter new v) w ≡ true
more_within v w new within is =
    all_among (with_voter new v) w
    (λ m e. elim (or_cases (eqb new m) (is_voter v m) (sym (one_more v new m) ∙ e)) [
      | inl same ↦ ap (is_voter w) (sym (eqb-true new m same)) ∙ is
      | inr old ↦ among_both v w within m old
    ])
