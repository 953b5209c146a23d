-- No word has a bit.
use Rattle.std.proofs.Common.{◌≡◌, ℕ, List, length, replicate, sym, ap, subst, ◌∙◌}
use Rattle.std.proofs.lemmas.List.{length-replicate}
use Rattle.gone_out.specs.Numbers.{IsEmpty, flags_of}
use Rattle.gone_out.proofs.Flags.{zeros_empty, many_none}
use Rattle.gone_out.proofs.numbers.Numbers.new.Goals as goal

empty : (words : List ℕ) → words ≡ replicate 15625 0 → IsEmpty (flags_of words)
empty words is = subst (λ (l : List ℕ). IsEmpty (flags_of l)) (sym is) (zeros_empty 15625)

pub invariant_of-result : goal.invariant_of-result
invariant_of-result c =
    let is = c.in_ok-words.ensures.items_if_clones_equal (λ y h. h) in
    (ap (λ (l : List ℕ). length l) is ∙ length-replicate {A = ℕ} 15625 0, sym (many_none (flags_of c.in_ok-words.words.items) (empty c.in_ok-words.words.items is)))

pub returns : goal.returns
returns c = empty c.in_ok-words.words.items (c.in_ok-words.ensures.items_if_clones_equal (λ y h. h))
