-- What was made, and the line of it.
use Rattle.init_command.specs.Making.{thing_made}
use Rattle.init_command.proofs.Tellings.{told_by}
use Rattle.init_command.proofs.making.make_one.Goals as goal

pub returns : goal.returns
returns g c =
    told_by c.in-Ok.made (thing_made c.args.thing) (g.F.NewFolder.made c.args.folder.now) (g.F.NewFolder.made c.made_of.new.folder) (g.W.Write.contents c.args.out.now)
    (g.W.Write.contents c.put_line.new.out) c.as_str.result.now c.in-Ok.ensures.ok c.as_str.ensures.value c.in_ok-put_line.ensures
