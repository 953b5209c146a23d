-- One number more is in the set.
use Rattle.std.proofs.Common.{◌≡◌, ℕ, ◌+◌, ◌<◌, ◌≤◌, Bool, List, length, true, set, sym, ap, ◌∙◌, arith}
use Rattle.gone_out.specs.Numbers.{has, how_many, flags_of}
use Rattle.gone_out.proofs.Flags.{length-flags, many_le, many-new, set_same}
use Rattle.gone_out.proofs.numbers.Numbers.insert.Goals as goal

-- a number has a flag
flag : (words : List ℕ) (n : ℕ) → length words ≡ 15625 → n ≤ 999999 → n < length (flags_of words)
flag words n len high = omega (arith, length-flags words, len, high)

pub overflow_add-self : goal.overflow_add-self
overflow_add-self c =
    let words = c.self.inside.words.items in
    let inv = c.self.invariant in
    omega (arith, length-flags words, many_le (flags_of words), inv.0, inv.1)

pub invariant_of-self : goal.invariant_of-self
invariant_of-self c =
    let words = c.self.inside.words.items in
    let inv = c.self.invariant in
    let within = flag words c.get.result inv.0 c.get.ensures.high in (
      c.set_bit-is_new.ensures.len ∙ inv.0,
      ap (λ k. k + 1) inv.1
          ∙ sym (ap how_many c.set_bit-is_new.ensures.set ∙ many-new (flags_of words) c.get.result within (sym c.if-is_new.true ∙ c.set_bit-is_new.ensures.new)),
    )

pub returns-then-is_new-clause-same : goal.returns-then-is_new-clause-same
returns-then-is_new-clause-same c =
    let words = c.self.inside.words.items in
    let inv = c.self.invariant in
    let is : c.get.result ≡ c.args.number = c.get.ensures.value in
    ap (λ (l : List Bool). has l c.args.number) (c.set_bit-is_new.ensures.set ∙ ap (λ (k : ℕ). set (flags_of words) k true) is)
    ∙ set_same (flags_of words) c.args.number (flag words c.args.number inv.0 (omega (arith, is, c.get.ensures.high)))
