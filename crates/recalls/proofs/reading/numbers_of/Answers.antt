-- One number more is read, or none.
use Rattle.std.proofs.Common.{◌≡◌, ℕ, ◌+◌, List, [], ◌∷◌, length, sym, ap, ◌∙◌, arith, length-append}
use Rattle.recalls.proofs.Steps.{failed, went_on, read_all, read_rises, seen_err}
use Rattle.recalls.proofs.reading.numbers_of.Goals as goal

pub returns-in_err-number-clause-exact : goal.returns-in_err-number-clause-exact
returns-in_err-number-clause-exact c =
    seen_err _ _ c.from_residual.result _ c.from_residual.ensures
    (failed c.args.count c.loop.counter c.loop.above c.args.bytes.now c.loop.numbers.items c.loop.rest.now c.loop-test.true c.loop.invariant.read _
    (sym c.in_err-number.ensures.exact))

pub loop-preserved : goal.loop-preserved
loop-preserved c =
    let pushed : length c.push.new.self.items ≡ length c.loop.numbers.items + 1 =
    ap (λ (l : List ℕ). length l) c.push.ensures.items ∙ length-append c.loop.numbers.items (c.in_ok-number.number ∷ []) in
    let many = c.loop.invariant.many in
    record {
      read = rw (c.push.ensures.items, c.split_at.ensures.back)
          (went_on c.args.count c.loop.counter c.loop.above c.args.bytes.now c.loop.numbers.items c.loop.rest.now c.loop-test.true c.loop.invariant.read
          c.in_ok-number.number (sym c.in_ok-number.ensures.exact));
      many = omega (arith, pushed, many);
    }

pub returns-clause-rise : goal.returns-clause-rise
returns-clause-rise c =
    read_rises c.args.count 0 c.args.bytes.now c.loop.numbers.items c.loop.rest.now
    (read_all c.args.count c.loop.counter c.loop.above c.args.bytes.now c.loop.numbers.items c.loop.rest.now (let t = c.loop-test.false in omega (arith, t)) c.loop.invariant.read)
