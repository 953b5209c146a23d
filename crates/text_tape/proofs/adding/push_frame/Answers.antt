use Rattle.std.proofs.Common.{sym, ◌∙◌}
use Rattle.code_table.specs.Tables.{mean}
use Rattle.text_tape.proofs.Looking.{case_push}
use Rattle.text_tape.proofs.adding.push_frame.Goals as goal

pub returns-clause-case : goal.returns-clause-case
returns-clause-case c =
    let items = c.in_ok-push.ensures.items in
    c.unwrap_or.ensures ∙ rw (c.selected_by.ensures, c.table.ensures, c.requires, items) (sym (case_push (mean c.args.codes.now) c.args.frames.now.items c.args.frame))
