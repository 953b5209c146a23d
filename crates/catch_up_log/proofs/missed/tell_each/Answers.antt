-- One number more was told, and all were.
use Rattle.std.proofs.Common.{◌≡◌, ◌+◌, ◌-◌, ℕ, suc, true, subst, arith}
use Rattle.std.specs.List.{range_with_len}
use Rattle.gone_out.specs.Numbers.{has}
use Rattle.plant_log.specs.Telling.{TellsEach}
use Rattle.catch_up_log.specs.Words.{missed_text}
use Rattle.catch_up_log.proofs.Each.{all_told, number_more}
use Rattle.catch_up_log.proofs.missed.tell_each.Goals as goal

pub loop-number-preserved : goal.loop-number-preserved
loop-number-preserved g c =
    let is_in : ℕ → Type 0 = λ n. has c.args.numbers.now n ≡ true in
    let number = c.loop-number.number in
    let old = g.E.Write.contents c.args.err.now in
    let new = g.E.Write.contents c.tell_if.new.err in
    let more = number_more is_in missed_text 1 (number - 1) number old (g.E.Write.contents c.loop-number.err) new (omega (arith, c.loop-number.auto.number)) c.loop-number.invariant c.tell_if.ensures in
    let same : suc (number - 1) ≡ number + 1 - 1 = omega (arith, c.loop-number.auto.number) in
    subst (λ n. TellsEach is_in missed_text (range_with_len 1 n) old new) same more

pub returns : goal.returns
returns g c =
    all_told (λ n. has c.args.numbers.now n ≡ true) missed_text (c.loop-number.number - 1) (g.E.Write.contents c.args.err.now) (g.E.Write.contents c.loop-number.err)
    (omega (arith, c.loop-number.auto.number, c.loop-number.auto.number-end, c.loop-number-test.false)) c.loop-number.invariant
