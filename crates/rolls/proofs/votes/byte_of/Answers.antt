-- One bit more.
use Rattle.std.proofs.Common.{◌≡◌, ℕ, eqb, ap, subst, sym, ◌∙◌, inl, inr, arith}
use Rattle.std.specs.Prelude.{◌&&◌, ◌+◌}
use Rattle.std.specs.Int.{bit_at}
use Rattle.std.proofs.lemmas.Bool.{cases_eq}
use Rattle.protocol.specs.Limits.{is_number}
use Rattle.gone_out.specs.Numbers.{has}
use Rattle.rolls.proofs.Flags.{with_bit, bit_same, bit_other}
use Rattle.rolls.proofs.votes.byte_of.Goals as goal

pub loop-k-preserved : goal.loop-k-preserved
loop-k-preserved c =
    let byte : ℕ = c.loop-k.byte in
    let k : ℕ = c.loop-k.k in
    let turn = c.loop-k-test.true in
    record {
      done = λ j l. elim (cases_eq j k) [
        | inl here ↦
            subst (λ (i : ℕ). eqb (bit_at (with_bit byte k c.from.result) i) 1 ≡ (is_number (c.args.first + i) && has c.args.numbers.now (c.args.first + i))) (sym here)
            (bit_same byte k c.from.result c.is_among.result turn (c.loop-k.invariant.left k (omega arith)) c.from.ensures ∙ c.is_among.ensures)
        | inr other ↦
            ap (λ (x : ℕ). eqb x 1) (bit_other byte k c.from.result c.is_among.result j turn other c.from.ensures)
            ∙ c.loop-k.invariant.done j (omega (arith, l, other))
      ];
      left = λ j l.
          bit_other byte k c.from.result c.is_among.result j turn (omega (arith, l)) c.from.ensures ∙ c.loop-k.invariant.left j (omega (arith, l));
    }
