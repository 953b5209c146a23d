use Rattle.std.proofs.Common.{sym, ap, ◌∙◌, Some}
use Rattle.std.specs.Prelude.{option_map}
use Rattle.tape_frames.specs.Entries.{lent_entry}
use Rattle.node_core.proofs.instance.picked.Goals as goal

pub returns-in_ok-copy-in-Some : goal.returns-in_ok-copy-in-Some
returns-in_ok-copy-in-Some c = λ n marks o stands opens.
    ap Some c.in_ok-copy-in-Some.ensures.same ∙ ap (option_map lent_entry) (sym c.in-Some.is) ∙ c.pick.ensures n marks o stands opens
