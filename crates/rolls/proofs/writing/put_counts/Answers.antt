-- One count more is written.
use Rattle.rolls.proofs.Counting.{count_written}
use Rattle.rolls.proofs.writing.put_counts.Goals as goal

pub loop-count-preserved : goal.loop-count-preserved
loop-count-preserved c =
    count_written c.args.out.now.items c.loop-count.out.items c.put_count.new.out.items c.args.counts.now c.loop-count.count-index _
    c.loop-count-test.true c.loop-count.invariant c.in_ok-put_count.ensures
