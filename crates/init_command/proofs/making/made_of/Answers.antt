-- What the place says of its own making.
use Rattle.init_command.specs.Making.{thing_made}
use Rattle.init_command.proofs.Tellings.{made_as, left_as}
use Rattle.init_command.proofs.making.made_of.Goals as goal

pub returns-clause-ok : goal.returns-clause-ok
returns-clause-ok g c =
    made_as c.make.result (g.F.NewFolder.made c.args.folder.now) (g.F.NewFolder.made c.make.new.self) (thing_made c.args.thing.now) c.make.ensures.new c.make.ensures.left

pub returns-clause-nothing : goal.returns-clause-nothing
returns-clause-nothing g c = left_as c.make.result (g.F.NewFolder.made c.args.folder.now) (g.F.NewFolder.made c.make.new.self) c.make.ensures.left
