use Rattle.std.proofs.Common.{sym, ◌∙◌, arith, add-one}
use Rattle.code_table.specs.Tables.{mean}
use Rattle.text_tape.proofs.Looking.{case_first, case_more}
use Rattle.text_tape.proofs.Read.{read_more, read_is}
use Rattle.text_tape.proofs.plain.spell_plainly.Goals as goal

pub loop-frame-init : goal.loop-frame-init
loop-frame-init c = record {
  case = case_first (mean c.args.table.now) c.frames-frames.result.now;
  text = c.new-text.ensures.items;
}

pub loop-frame-preserved : goal.loop-frame-preserved
loop-frame-preserved c =
    let means = mean c.args.table.now in
    let tape = c.frames-frames.result.now in
    let i = c.loop-frame.frame-index in
    let was = c.loop-frame.invariant in
    record {
      case = c.unwrap_or-case.ensures ∙ rw (c.selected_by.ensures, was.case) (rw add-one (sym (case_more means tape i)));
      text = c.in_ok-put_plainly.ensures ∙ rw (was.text, was.case) (sym (read_more means tape i));
    }

pub returns : goal.returns
returns c =
    c.loop-frame.invariant.text ∙ rw (← c.frames-frames.ensures.frames) (read_is (mean c.args.table.now) c.frames-frames.result.now c.loop-frame.frame-index (omega arith))
