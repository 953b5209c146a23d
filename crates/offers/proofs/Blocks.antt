-- Moments by index, and the first of each block.
use Rattle.std.proofs.Common.{◌≡◌, ◌≢◌, ℕ, ◌+◌, ◌*◌, ◌<◌, ◌≤◌, ◌==◌, inl, inr, List, Option, Some, None, IfSome, true, false, length, get_or, set, cond, nat_lt, refl, ◌∙◌, arith}
use Rattle.std.proofs.lemmas.Bool.{cases_lt}
use Rattle.std.proofs.lemmas.Bool.Decides.{nat_tests}
use Rattle.std.proofs.lemmas.List.{get_or-set_same, get_or-set_other, get_or_past, length-set}
use Rattle.offers.specs.Moments.{moment_at, NoneFrom, MatchIn, sooner, AreBlocks}
use Rattle.offers.proofs.Editing.{two_ways}

-- ---- of one moment, which may be none

weaker : (x : Option ℕ) (low high : ℕ) → low ≤ high → IfSome x (λ m. high ≤ m) → IfSome x (λ m. low ≤ m)
weaker None low high le h = tt
weaker (Some m) low high le h = omega arith

from_none : (x : Option ℕ) (low : ℕ) → x ≡ None → IfSome x (λ m. low ≤ m)
from_none None low e = tt
from_none (Some m) low e = cc

-- one that is none, or no sooner than a later one, comes later
later_none : (x : Option ℕ) (low : ℕ) → x ≡ None → IfSome x (λ m. low < m)
later_none None low e = tt
later_none (Some m) low e = cc

later_than : (x : Option ℕ) (low high : ℕ) → low < high → IfSome x (λ m. high ≤ m) → IfSome x (λ m. low < m)
later_than None low high lt h = tt
later_than (Some m) low high lt h = omega arith

-- ---- one of them is put there

-- another is as it was
pub other_is : (moments : List (Option ℕ)) (index i : ℕ) (m : Option ℕ) → i ≢ index → moment_at (set moments index m) i ≡ moment_at moments i
other_is moments index i m apart = get_or-set_other moments index i m None apart

-- those among which it is not are as they were
pub outside : (moments : List (Option ℕ)) (low high index : ℕ) (m : Option ℕ) (x : Option (ℕ × ℕ)) → ((i : ℕ) → low ≤ i → i < high → i ≢ index) → MatchIn moments low high x → MatchIn (set moments index m) low high x
outside moments low high index m None apart h = λ i above lt. other_is moments index i m (apart i above lt) ∙ h i above lt
outside moments low high index m (Some first) apart h = record {
  above = h.above;
  within = h.within;
  is = other_is moments index first.0 m (apart first.0 h.above h.within) ∙ h.is;
  first = λ i above lt. rw (other_is moments index i m (apart i above lt)) (h.first i above lt);
  least = λ i above lt. rw (other_is moments index i m (apart i above (omega (arith, h.within)))) (h.least i above lt);
}

-- one of those among which it is, where it was none
put_first : (moments : List (Option ℕ)) (low high index own m : ℕ) → index < length moments → own ≤ m → ((i : ℕ) → low ≤ i → i < high → i ≢ index → IfSome (moment_at moments i) (λ x. own ≤ x)) → (i : ℕ) → low ≤ i → i < high → IfSome (moment_at (set moments index (Some m)) i) (λ x. own ≤ x)
put_first moments low high index own m inside le rest i above lt = elim (two_ways (i == index)) [
  | inl here ↦
      let same : i ≡ index = grind (arith, nat_tests) in
      rw (same, get_or-set_same moments index (Some m) None inside) le
  | inr apart ↦
      let other : i ≢ index = grind (arith, nat_tests) in
      rw (other_is moments index i (Some m) other) (rest i above lt other)
]

-- one before it is as it was
before_is : (moments : List (Option ℕ)) (index i : ℕ) (m : Option ℕ) → i < index → moment_at (set moments index m) i ≡ moment_at moments i
before_is moments index i m lt = other_is moments index i m (omega arith)

-- where there was none from there on, the first stands before it
stands_before : (moments : List (Option ℕ)) (index i m : ℕ) → NoneFrom moments index → moment_at moments i ≡ Some m → i < index
stands_before moments index i m none is = elim (cases_lt i index) [
  | inl before ↦ before
  | inr behind ↦ let no = none i behind in cc
]

pub put_in : (moments : List (Option ℕ)) (low high index : ℕ) (m : Option ℕ) (x : Option (ℕ × ℕ)) → index < length moments → low ≤ index → index < high → NoneFrom moments index → MatchIn moments low high x → MatchIn (set moments index m) low high (sooner x index m)
put_in moments low high index None None inside above lt none h = λ i from to. elim (two_ways (i == index)) [
  | inl here ↦ let same : i ≡ index = grind (arith, nat_tests) in rw (same, get_or-set_same moments index None None inside) refl
  | inr apart ↦ let other : i ≢ index = grind (arith, nat_tests) in other_is moments index i None other ∙ h i from to
]
put_in moments low high index None (Some first) inside above lt none h =
    let before = stands_before moments index first.0 first.1 none h.is in
    record {
      above = h.above;
      within = h.within;
      is = before_is moments index first.0 None before ∙ h.is;
      first = λ i from to. elim (two_ways (i == index)) [
        | inl here ↦ let same : i ≡ index = grind (arith, nat_tests) in rw (same, get_or-set_same moments index None None inside) tt
        | inr apart ↦ let other : i ≢ index = grind (arith, nat_tests) in rw (other_is moments index i None other) (h.first i from to)
      ];
      least = λ i from to. rw (before_is moments index i None (omega arith)) (h.least i from to);
    }
put_in moments low high index (Some m) None inside above lt none h = record {
  above = above;
  within = lt;
  is = get_or-set_same moments index (Some m) None inside;
  first = put_first moments low high index m m inside (omega arith) (λ i from to apart. from_none _ m (h i from to));
  least = λ i from to. rw (before_is moments index i (Some m) to) (later_none _ m (h i from (omega arith)));
}
put_in moments low high index (Some m) (Some first) inside above lt none h = elim (nat_lt m first.1) as (λ t. t ≡ nat_lt m first.1 → MatchIn (set moments index (Some m)) low high (cond t (Some (index, m)) (Some first))) [
  | true ↦ λ e.
      let sooner_is : m < first.1 = grind (arith, nat_tests) in
      record {
        above = above;
        within = lt;
        is = get_or-set_same moments index (Some m) None inside;
        first = put_first moments low high index m m inside (omega arith) (λ i from to apart. weaker _ m first.1 (omega arith) (h.first i from to));
        least = λ i from to. rw (before_is moments index i (Some m) to) (later_than _ m first.1 sooner_is (h.first i from (omega arith)));
      }
  | false ↦ λ e.
      let later_is : first.1 ≤ m = grind (arith, nat_tests) in
      let before = stands_before moments index first.0 first.1 none h.is in
      record {
        above = h.above;
        within = h.within;
        is = before_is moments index first.0 (Some m) before ∙ h.is;
        first = put_first moments low high index first.1 m inside later_is (λ i from to apart. h.first i from to);
        least = λ i from to. rw (before_is moments index i (Some m) (omega arith)) (h.least i from to);
      }
] refl

-- ---- one of them is put there, beside the blocks

-- behind the last there is none
pub widen : (moments : List (Option ℕ)) (low high end : ℕ) (x : Option (ℕ × ℕ)) → high ≤ end → ((i : ℕ) → high ≤ i → i < end → length moments ≤ i) → MatchIn moments low high x → MatchIn moments low end x
widen moments low high end None le past h = λ i above lt. elim (cases_lt i high) [
  | inl below ↦ h i above below
  | inr from ↦ get_or_past moments i None (past i from lt)
]
widen moments low high end (Some first) le past h = record {
  above = h.above;
  within = omega (arith, h.within);
  is = h.is;
  first = λ i above lt. elim (cases_lt i high) [
    | inl below ↦ h.first i above below
    | inr from ↦ from_none _ first.1 (get_or_past moments i None (past i from lt))
  ];
  least = h.least;
}

pub set_block : (moments : List (Option ℕ)) (blocks : List (Option (ℕ × ℕ))) (index k : ℕ) (m : Option ℕ) (x : Option (ℕ × ℕ)) → AreBlocks moments blocks → index < length moments → 256 * k ≤ index → index < 256 * k + 256 → MatchIn (set moments index m) (256 * k) (256 * k + 256) x → AreBlocks (set moments index m) (set blocks k x)
set_block moments blocks index k m x are inside above below h = record {
  cover = rw (length-set moments index m, length-set blocks k x) are.cover;
  each = λ b. elim (two_ways (b == k)) [
    | inl here ↦
        let same : b ≡ k = grind (arith, nat_tests) in
        let within : k < length blocks = omega (arith, are.cover) in
        rw (same, get_or-set_same blocks k x None within) h
    | inr apart ↦
        let other : b ≢ k = grind (arith, nat_tests) in
        rw (get_or-set_other blocks k b x None other)
        (outside moments (256 * b) (256 * b + 256) index m (get_or blocks b None) (λ i from to. omega arith) (are.each b))
  ];
}
