-- One record more, and in the end all.
use Rattle.std.proofs.Common.{arith}
use Rattle.gone_out.proofs.Records.{one_more, all_looked_at}
use Rattle.gone_out.proofs.reading.numbers_of.Goals as goal

pub loop-place-preserved : goal.loop-place-preserved
loop-place-preserved c = one_more c.args.bytes.now c.args.origin.now c.loop-place.numbers c.add_at.new.numbers c.loop-place.place c.loop-place.invariant c.add_at.ensures

pub returns : goal.returns
returns c = all_looked_at c.args.bytes.now c.args.origin.now c.loop-place.numbers c.loop-place.place (let past = c.loop-place-test.false in omega (arith, past, c.saturating_sub-place-end.ensures)) c.loop-place.invariant
