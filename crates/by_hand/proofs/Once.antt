-- Each number of a range stands in one line, and the lines are the only ones.
use Rattle.std.proofs.Common.{◌≡◌, ◌≤◌, ◌<◌, ◌+◌, ◌∙◌, ℕ, Bool, true, false, List, [], ◌∷◌, flat_map, filter, cond, inl, inr, refl, sym, ap, subst, arith}
use Rattle.std.proofs.lemmas.Bool.{cases_lt}
use Rattle.by_hand.specs.declared.answer.SearchEnd.{SearchEnd}
use Rattle.by_hand.specs.declared.lines.HandLine.{HandLine}
use Rattle.by_hand.specs.Hands.{HandValue, answer_of}
use Rattle.by_hand.specs.Texts.{line_text, IsLineFrom, AreLinesFrom}
use Rattle.by_hand.specs.Laws.{is_in, IsNamedOnce, EachIsNamedOnce, OneText}

out_before : (n : ℕ) (l : HandLine) → n < l.first → is_in n l ≡ false
out_before n l before = grind arith

out_behind : (n : ℕ) (l : HandLine) → l.last < n → is_in n l ≡ false
out_behind n l behind = grind arith

within : (n : ℕ) (l : HandLine) → l.first ≤ n → n ≤ l.last → is_in n l ≡ true
within n l low high = grind arith

passed : (n : ℕ) (l : HandLine) (ls : List HandLine) → is_in n l ≡ false → filter (is_in n) (l ∷ ls) ≡ filter (is_in n) ls
passed n l ls out = ap (λ (b : Bool). cond b (l ∷ filter (is_in n) ls) (filter (is_in n) ls)) out

kept : (n : ℕ) (l : HandLine) (ls : List HandLine) → is_in n l ≡ true → filter (is_in n) (l ∷ ls) ≡ l ∷ filter (is_in n) ls
kept n l ls is = ap (λ (b : Bool). cond b (l ∷ filter (is_in n) ls) (filter (is_in n) ls)) is

module _ (h : HandValue) where
  -- no line from a number on has one before it
  none_before : (start n : ℕ) (ls : List HandLine) → AreLinesFrom h start ls → n < start → filter (is_in n) ls ≡ []
  none_before start n [] are before = refl
  none_before start n (l ∷ ls) are before =
      passed n l ls (out_before n l (omega (arith, are.0.first, before))) ∙ none_before (l.last + 1) n ls are.1 (omega (arith, are.0.first, are.0.rises, before))

  once : (start n : ℕ) (ls : List HandLine) → AreLinesFrom h start ls → start ≤ n → n ≤ h.last → IsNamedOnce h ls n
  once start n [] are low high = absurd (omega (arith, are, low, high))
  once start n (l ∷ ls) are low high =
      elim (cases_lt l.last n) [
        | inl behind ↦
            let rest = once (l.last + 1) n ls are.1 (omega (arith, behind)) high in
            (rest.0, passed n l ls (out_behind n l behind) ∙ rest.1, rest.2)
        | inr not_behind ↦
            let first : l.first ≤ n = omega (arith, are.0.first, low) in
            let last : n ≤ l.last = omega (arith, not_behind) in
            (l, kept n l ls (within n l first last) ∙ ap (λ (k : List HandLine). l ∷ k) (none_before (l.last + 1) n ls are.1 (omega (arith, last))), sym (are.0.all n first last))
      ]

  -- of two lines from a number on neither ends before the other
  not_shorter : (start : ℕ) (l m : HandLine) → IsLineFrom h start l → IsLineFrom h start m → ¬ (l.last < m.last)
  not_shorter start l m p q less =
      let one : answer_of h start ≡ l.answer = p.all start (omega (arith, p.first)) (omega (arith, p.first, p.rises)) in
      let other : answer_of h start ≡ m.answer = q.all start (omega (arith, q.first)) (omega (arith, q.first, q.rises)) in
      let next : answer_of h (l.last + 1) ≡ m.answer = q.all (l.last + 1) (omega (arith, p.first, q.first, p.rises)) (omega (arith, less)) in
      p.whole (omega (arith, less, q.within)) (next ∙ sym other ∙ one)

  same_last : (start : ℕ) (l m : HandLine) → IsLineFrom h start l → IsLineFrom h start m → l.last ≡ m.last
  same_last start l m p q = elim (cases_lt l.last m.last) [
    | inl less ↦ absurd (not_shorter start l m p q less)
    | inr not_less ↦ elim (cases_lt m.last l.last) [
      | inl more ↦ absurd (not_shorter start m l q p more)
      | inr not_more ↦ omega (arith, not_less, not_more)
    ]
  ]

  same_line : (start : ℕ) (l m : HandLine) → IsLineFrom h start l → IsLineFrom h start m → l ≡ m
  same_line start l m p q =
      let first : l.first ≡ m.first = p.first ∙ sym q.first in
      let last : l.last ≡ m.last = same_last start l m p q in
      let answer : l.answer ≡ m.answer = sym (p.all start (omega (arith, p.first)) (omega (arith, p.first, p.rises))) ∙ q.all start (omega (arith, q.first)) (omega (arith, q.first, q.rises)) in
      ap (λ (n : ℕ). record { first = n; last = l.last; answer = l.answer }) first
      ∙ ap (λ (n : ℕ). record { first = m.first; last = n; answer = l.answer }) last
      ∙ ap (λ (a : SearchEnd). record { first = m.first; last = m.last; answer = a }) answer

  same_lines : (start : ℕ) (ls ms : List HandLine) → AreLinesFrom h start ls → AreLinesFrom h start ms → ls ≡ ms
  same_lines start [] [] p q = refl
  same_lines start [] (m ∷ ms) p q = absurd (omega (arith, p, q.0.first, q.0.rises, q.0.within))
  same_lines start (l ∷ ls) [] p q = absurd (omega (arith, q, p.0.first, p.0.rises, p.0.within))
  same_lines start (l ∷ ls) (m ∷ ms) p q =
      let same : l ≡ m = same_line start l m p.0 q.0 in
      let rest : ls ≡ ms = same_lines (l.last + 1) ls ms p.1 (subst (λ (k : HandLine). AreLinesFrom h (k.last + 1) ms) (sym same) q.1) in
      ap (λ (k : HandLine). k ∷ ls) same ∙ ap (λ (k : List HandLine). m ∷ k) rest

pub named_once : EachIsNamedOnce
named_once h ls are n low high = once h h.first n ls are low high

pub one_text : OneText
one_text h a b p q = p.2 ∙ ap (λ (ls : List HandLine). flat_map line_text ls) (same_lines h h.first p.0 q.0 p.1 q.1) ∙ sym q.2
