-- Of a set one text of ranges is told.
use Rattle.std.proofs.Common.{◌≡◌, ◌≤◌, ◌<◌, ◌+◌, ℕ, Bool, true, List, [], ◌∷◌, ◌++◌, length, Option, Some, None, IfSome, inl, inr, refl, sym, ap, ◌∙◌, arith, true≢false}
use Rattle.std.proofs.lemmas.Bool.{cases_lt}
use Rattle.protocol.specs.Limits.{last_number}
use Rattle.gone_out.specs.declared.ranges.Range.{Range}
use Rattle.gone_out.specs.Numbers.{has}
use Rattle.gone_out.specs.Ranges.{IsFirstRange}
use Rattle.catch_up_log.specs.Ranges.{AreFrom, AreTold, ComesFrom, OneText, end_text, ranges_text}

module _ (flags : List Bool) (start : ℕ) where
  -- no first range begins before another
  not_before : (r s : Range) → IsFirstRange flags start r → IsFirstRange flags start s → ¬ (r.first < s.first)
  not_before r s p q less = true≢false (sym (p.all r.first (omega arith) p.rises) ∙ q.none_before r.first p.above less)

  same_first : (r s : Range) → IsFirstRange flags start r → IsFirstRange flags start s → r.first ≡ s.first
  same_first r s p q = elim (cases_lt r.first s.first) [
    | inl less ↦ absurd (not_before r s p q less)
    | inr not_less ↦ elim (cases_lt s.first r.first) [
      | inl more ↦ absurd (not_before s r q p more)
      | inr not_more ↦ omega (arith, not_less, not_more)
    ]
  ]

  -- nor does one that begins with another end before it
  not_shorter : (r s : Range) → r.first ≡ s.first → s.last ≤ last_number → IsFirstRange flags start r → IsFirstRange flags start s → ¬ (r.last < s.last)
  not_shorter r s same high p q less =
      true≢false (sym (q.all (r.last + 1) (omega (arith, same, p.rises)) (omega (arith, less))) ∙ p.whole (omega (arith, less, high)))

  same_last : (r s : Range) → r.first ≡ s.first → r.last ≤ last_number → s.last ≤ last_number → IsFirstRange flags start r → IsFirstRange flags start s → r.last ≡ s.last
  same_last r s same low high p q = elim (cases_lt r.last s.last) [
    | inl less ↦ absurd (not_shorter r s same high p q less)
    | inr not_less ↦ elim (cases_lt s.last r.last) [
      | inl more ↦ absurd (not_shorter s r (sym same) low q p more)
      | inr not_more ↦ omega (arith, not_less, not_more)
    ]
  ]

  alike : (r s : Range) → r.first ≡ s.first → r.last ≡ s.last → r ≡ s
  alike r s e f = ap (λ (n : ℕ). record { first = n; last = r.last }) e ∙ ap (λ (n : ℕ). record { first = s.first; last = n }) f

  same_range : (r s : Range) → ComesFrom flags start (Some r) → ComesFrom flags start (Some s) → r ≡ s
  same_range r s p q =
      let e = same_first r s p.0 q.0 in
      alike r s e (same_last r s e p.1 q.1 p.0 q.0)

  -- where none comes, none does
  not_both : (r : Range) → ComesFrom flags start None → ¬ (ComesFrom flags start (Some r))
  not_both r none some =
      let is : has flags r.first ≡ true = some.0.all r.first (omega arith) some.0.rises in
      true≢false (sym is ∙ none.0 r.first some.0.above (omega (arith, some.0.rises, some.1)))

-- so many ranges are told beside these, and with them no more than 20, and no fewer where another comes
record AreMany (rs : List Range) (next : Option Range) (k : ℕ) : Type 0 where
  pub few : length rs + k ≤ 20
  pub many : IfSome next (λ r. length rs + k ≡ 20)

one_further : (r : Range) (rs : List Range) (next : Option Range) (k : ℕ) → AreMany (r ∷ rs) next k → AreMany rs next (k + 1)
one_further r rs None k m = record { few = omega (arith, m.few); many = tt }
one_further r rs (Some n) k m = record { few = omega (arith, m.few); many = omega (arith, m.many) }

-- what comes behind the last is one more, or none is
ends_before : (flags : List Bool) (start k : ℕ) (next other : Option Range) (r : Range) (rs : List Range) → ComesFrom flags start next → AreMany [] next k
    → ComesFrom flags start (Some r) → ¬ (AreMany (r ∷ rs) other k)
ends_before flags start k None other r rs none m some n = not_both flags start r none some
ends_before flags start k (Some s) other r rs found m some n = omega (arith, m.many, n.few)

same_end : (flags : List Bool) (start : ℕ) (next other : Option Range) → ComesFrom flags start next → ComesFrom flags start other → end_text next ≡ end_text other
same_end flags start None None p q = refl
same_end flags start (Some r) (Some s) p q = refl
same_end flags start None (Some s) p q = absurd (not_both flags start s p q)
same_end flags start (Some r) None p q = absurd (not_both flags start r q p)

record AreSame (rs ss : List Range) (next other : Option Range) : Type 0 where
  pub ranges : rs ≡ ss
  pub ends : end_text next ≡ end_text other

all_same :
    (flags : List Bool) (start k : ℕ) (rs ss : List Range) (next other : Option Range) → AreFrom flags start rs next → AreFrom flags start ss other
    → AreMany rs next k → AreMany ss other k → AreSame rs ss next other
all_same flags start k [] [] next other p q m n = record { ranges = refl; ends = same_end flags start next other p q }
all_same flags start k [] (s ∷ ss) next other p q m n = absurd (ends_before flags start k next other s ss p m q.0 n)
all_same flags start k (r ∷ rs) [] next other p q m n = absurd (ends_before flags start k other next r rs q n p.0 m)
all_same flags start k (r ∷ rs) (s ∷ ss) next other p q m n =
    let one : r ≡ s = same_range flags start r s p.0 q.0 in
    let rest = all_same flags (s.last + 1) (k + 1) rs ss next other (rw (← one) p.1) q.1 (one_further r rs next k m) (one_further s ss other k n) in
    record { ranges = ap (λ (t : Range). t ∷ rs) one ∙ ap (λ (ts : List Range). s ∷ ts) rest.ranges; ends = rest.ends }

told_many : (flags : List Bool) (rs : List Range) (next : Option Range) → AreTold flags rs next → AreMany rs next 0
told_many flags rs None t = record { few = omega (arith, t.few); many = tt }
told_many flags rs (Some n) t = record { few = omega (arith, t.few); many = omega (arith, t.many) }

pub one_text : OneText
one_text ending flags a b (rs, next, told, is) (ss, other, too, as_well) =
    let all = all_same flags 1 0 rs ss next other told.first too.first (told_many flags rs next told) (told_many flags ss other too) in
    is ∙ ap (λ (ts : List Range). ranges_text ending ts ++ end_text next) all.ranges ∙ ap (λ (l : List ℕ). ranges_text ending ss ++ l) all.ends ∙ sym as_well
