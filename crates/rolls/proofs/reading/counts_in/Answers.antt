-- One count more is read.
use Rattle.std.proofs.Common.{◌≡◌, ℕ, ◌+◌, List, [], ◌∷◌, length, ap, ◌∙◌, arith, length-append}
use Rattle.rolls.specs.Pages.{pages}
use Rattle.rolls.proofs.Counting.{count_read, counts_read}
use Rattle.rolls.proofs.reading.counts_in.Goals as goal

pub loop-preserved : goal.loop-preserved
loop-preserved c =
    let pushed : length c.push.new.self.items ≡ length c.loop.counts.items + 1 =
    ap (λ (l : List ℕ). length l) c.push.ensures.items ∙ length-append c.loop.counts.items (c.first_count.result ∷ []) in
    let many = c.loop.invariant.many in
    let left = c.loop.invariant.left in
    let behind = c.split_at.ensures.back_len in
    record {
      read = rw (c.push.ensures.items, c.split_at.ensures.back, c.first_count.ensures)
          (count_read _ c.loop.counts.items c.loop.rest.now pages c.loop.counter c.loop-test.true c.loop.invariant.read);
      many = omega (arith, pushed, many);
      left = omega (arith, left, behind);
    }

pub returns : goal.returns
returns c = counts_read _ c.loop.counts.items c.loop.rest.now pages c.loop.counter c.loop-test.false c.loop.invariant.read
