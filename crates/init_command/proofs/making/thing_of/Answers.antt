-- What the plant is to have under this name, with its path and its mode.
use Rattle.std.proofs.Common.{Some, ap, ◌∙◌}
use Rattle.std.specs.Prelude.{option_map}
use Rattle.init_command.specs.Plants.{with_bytes}
use Rattle.init_command.proofs.making.thing_of.Goals as goal

pub returns-in-Nothing : goal.returns-in-Nothing
returns-in-Nothing c = ap (option_map (with_bytes c.args.order.now c.args.file)) c.in-Nothing.ensures

pub returns-in_ok-thing_with-in-Folder : goal.returns-in_ok-thing_with-in-Folder
returns-in_ok-thing_with-in-Folder c =
    ap Some c.in_ok-thing_with-in-Folder.ensures ∙ ap (option_map (with_bytes c.args.order.now c.args.file)) c.in-Folder.ensures

pub returns-in_ok-thing_with-in-File : goal.returns-in_ok-thing_with-in-File
returns-in_ok-thing_with-in-File c =
    ap Some c.in_ok-thing_with-in-File.ensures ∙ ap (option_map (with_bytes c.args.order.now c.args.file)) c.in-File.ensures
