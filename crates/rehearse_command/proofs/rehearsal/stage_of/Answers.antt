-- Nothing has happened yet, and all members are in the version that was asked for.
use Rattle.rehearse_command.proofs.Shown.{all_set_up, shown_new}
use Rattle.rehearse_command.proofs.rehearsal.stage_of.Goals as goal

pub returns-clause-begins : goal.returns-clause-begins
returns-clause-begins c = (_, c.in_ok-members.members.items, c.in_ok-world.ensures.fresh)

pub returns-clause-stands : goal.returns-clause-stands
returns-clause-stands c = λ by start now set_up written.
    let members = c.in_ok-members.members.items in
    let done = c.in_ok-world in
    shown_new by start now _ members _ done.world (all_set_up by (c.args.setting.table.now, c.args.setting.widths.now) members c.in_ok-members.ensures set_up) done.ensures.begins done.ensures.fresh done.ensures.reached written
