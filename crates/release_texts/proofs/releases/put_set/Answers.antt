-- A line, and then a galley.
use Rattle.line_check.specs.Galley.{galley_of}
use Rattle.streams.proofs.Writing.{stopped, then_wrote}
use Rattle.release_texts.proofs.releases.put_set.Goals as goal

pub returns-in_err-put_line : goal.returns-in_err-put_line
returns-in_err-put_line g c =
    stopped c.from_residual.result (g.W.Write.contents c.args.out.now) (g.W.Write.contents c.put_line.new.out) c.args.line.now (galley_of c.args.slugs.now) c.from_residual.ensures.0 c.in_err-put_line.ensures.err

pub returns : goal.returns
returns g c =
    then_wrote c.put_galley.result (g.W.Write.contents c.args.out.now) (g.W.Write.contents c.put_line.new.out) (g.W.Write.contents c.put_galley.new.out) c.args.line.now (galley_of c.args.slugs.now) c.in_ok-put_line.ensures.ok c.put_galley.ensures
