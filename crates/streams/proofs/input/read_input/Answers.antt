use Rattle.std.proofs.Common.{arith}
use Rattle.streams.proofs.Bytes.{read_whole}
use Rattle.streams.proofs.input.read_input.Goals as goal

pub returns-clause-whole : goal.returns-clause-whole
returns-clause-whole g c =
    let e = rw (c.new-bytes.ensures.items, c.take-limited.ensures.limit, c.take-limited.ensures.inner) at c.in-Ok.ensures.bytes in
    read_whole 1048577 (g.R.Read.remaining c.args.input.now) _ e (omega (arith, c.len.ensures))
