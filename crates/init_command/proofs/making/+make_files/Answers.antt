-- The first file is made and told, and then the others.
use Rattle.std.specs.Prelude.{option_map}
use Rattle.std.proofs.lemmas.List.{nil_from_length}
use Rattle.std.proofs.lemmas.Option.{MatchOption-at_none}
use Rattle.init_command.specs.Making.{thing_made}
use Rattle.init_command.proofs.Tellings.{told_files, told_no_file}
use Rattle.init_command.proofs.making.+make_files.Goals as goal

pub returns-in_default : goal.returns-in_default
returns-in_default g t c =
    told_no_file c.args.order.now c.args.files.now (g.F.NewFolder.made c.args.folder.now) (g.W.Write.contents c.args.out.now)
    (nil_from_length c.args.files.now (MatchOption-at_none _ _ c.in_default.is c.split_first.ensures.cases))

pub returns : goal.returns
returns g t c =
    told_files c.make_files.result c.args.order.now c.in-Some.first.now c.in-Some.rest.now c.args.files.now (option_map thing_made c.in_ok-thing.thing)
    (g.F.NewFolder.made c.args.folder.now) (g.F.NewFolder.made c.make_if.new.folder) (g.F.NewFolder.made c.make_files.new.folder)
    (g.W.Write.contents c.args.out.now) (g.W.Write.contents c.make_if.new.out) (g.W.Write.contents c.make_files.new.out)
    c.in-Some.ensures.cases.0 c.in_ok-thing.ensures c.in_ok-make_if.ensures c.make_files.ensures
