-- One number more is written.
use Rattle.recalls.proofs.Steps.{written_more}
use Rattle.recalls.proofs.writing.put_numbers.Goals as goal

pub loop-number-preserved : goal.loop-number-preserved
loop-number-preserved c =
    written_more c.args.out.now.items c.loop-number.out.items c.put_number.new.out.items c.args.numbers.now c.loop-number.number-index _
    c.loop-number-test.true c.loop-number.invariant c.in_ok-put_number.ensures
