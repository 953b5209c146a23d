-- All of the text, and then the flush.
use Rattle.std.proofs.KnownBytes.{Appends-kept}
use Rattle.streams.proofs.Writing.{front_written, handed_on}
use Rattle.streams.proofs.output.put_whole.Goals as goal

pub returns-in_err-put_all : goal.returns-in_err-put_all
returns-in_err-put_all g c =
    front_written c.from_residual.result (g.W.Write.contents c.args.out.now) (g.W.Write.contents c.put_all.new.out) c.args.text.now c.from_residual.ensures.0 c.in_err-put_all.ensures.err

pub returns : goal.returns
returns g c =
    handed_on c.hand_on.result (g.W.Write.contents c.args.out.now) (g.W.Write.contents c.hand_on.new.out) c.args.text.now
    (Appends-kept _ (g.W.Write.contents c.put_all.new.out) _ _ c.in_ok-put_all.ensures.ok c.hand_on.ensures)
