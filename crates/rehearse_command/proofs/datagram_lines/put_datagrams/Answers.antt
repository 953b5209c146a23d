-- One datagram more.
use Rattle.streams.proofs.Writing.{front_written}
use Rattle.rehearse_command.specs.Datagrams.{datagrams_text}
use Rattle.rehearse_command.proofs.DatagramListing.{wrote_datagram, stopped_datagram}
use Rattle.rehearse_command.proofs.datagram_lines.put_datagrams.Goals as goal

pub returns-in_err-put_datagram : goal.returns-in_err-put_datagram
returns-in_err-put_datagram g c =
    front_written c.from_residual.result (g.W.Write.contents c.args.out.now) (g.W.Write.contents c.put_datagram.new.out) (datagrams_text c.args.before c.args.sent.now) c.from_residual.ensures.0
    (stopped_datagram c.args.before c.args.sent.now c.loop-index.index c.index-sent-index.result
    (g.W.Write.contents c.args.out.now) (g.W.Write.contents c.loop-index.out) (g.W.Write.contents c.put_datagram.new.out)
    c.loop-index-test.true c.index-sent-index.is c.loop-index.invariant c.in_err-put_datagram.ensures.err)

pub loop-index-preserved : goal.loop-index-preserved
loop-index-preserved g c =
    wrote_datagram c.args.before c.args.sent.now c.loop-index.index c.index-sent-index.result
    (g.W.Write.contents c.args.out.now) (g.W.Write.contents c.loop-index.out) (g.W.Write.contents c.put_datagram.new.out)
    c.loop-index-test.true c.index-sent-index.is c.loop-index.invariant c.in_ok-put_datagram.ensures.ok
