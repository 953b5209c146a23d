use Rattle.std.proofs.Common.{arith}
use Rattle.streams.proofs.Bytes.{wrote_more}
use Rattle.streams.proofs.output.put_all.Goals as goal

pub loop-at-preserved : goal.loop-at-preserved
loop-at-preserved g c =
    let bytes = rw (c.split_at.ensures.back) at c.in-Ok.ensures.bytes in
    record {
      within = omega (arith, c.in-Ok.ensures.bound, c.split_at.ensures.back_len);
      written = wrote_more _ (g.W.Write.contents c.loop-at.out) _ c.loop-at.at c.in-Ok.n c.args.bytes.now c.loop-at.invariant.within c.loop-at.invariant.written bytes;
    }
