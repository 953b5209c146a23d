-- The line of the one thing is the line of all.
use Rattle.std.proofs.Common.{ap}
use Rattle.std.specs.Prelude.{option_map}
use Rattle.init_command.specs.Making.{thing_made}
use Rattle.init_command.proofs.Tellings.{told_if, told_no_thing}
use Rattle.init_command.proofs.making.make_if.Goals as goal

pub returns-in-Some : goal.returns-in-Some
returns-in-Some g c =
    told_if c.make_one.result (option_map thing_made c.args.thing) (thing_made c.in-Some.thing) (g.F.NewFolder.made c.args.folder.now) (g.F.NewFolder.made c.make_one.new.folder)
    (g.W.Write.contents c.args.out.now) (g.W.Write.contents c.make_one.new.out) (ap (option_map thing_made) c.in-Some.is) c.make_one.ensures

pub returns-in-None : goal.returns-in-None
returns-in-None g c =
    told_no_thing (option_map thing_made c.args.thing) (g.F.NewFolder.made c.args.folder.now) (g.W.Write.contents c.args.out.now) (ap (option_map thing_made) c.in-None.is)
