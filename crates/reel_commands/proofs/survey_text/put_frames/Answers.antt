use Rattle.std.proofs.Common.{ℕ, List, ◌++◌, ◌∙◌, ap, arith}
use Rattle.std.specs.Prelude.{flat_map}
use Rattle.code_table.specs.Tables.{mean}
use Rattle.reel_commands.specs.Survey.{frame_text_of}
use Rattle.reel_commands.proofs.Frames.{written_more, all_are}
use Rattle.reel_commands.proofs.survey_text.put_frames.Goals as goal

pub loop-frame-preserved : goal.loop-frame-preserved
loop-frame-preserved c =
    c.in_ok-put_frame_text.ensures
    ∙ written_more (frame_text_of (mean c.args.survey.now.table) c.args.survey.now.widths c.args.survey.now.tapes.items) c.loop-frame.frame
    c.args.text.now.items c.loop-frame.text.items c.loop-frame.invariant

pub returns : goal.returns
returns c =
    c.loop-frame.invariant
    ∙ ap (λ (frames : List ℕ). c.args.text.now.items ++ flat_map (frame_text_of (mean c.args.survey.now.table) c.args.survey.now.widths c.args.survey.now.tapes.items) frames)
    (all_are c.loop-frame.frame (omega (arith, c.loop-frame-test.false, c.loop-frame.auto.frame-end)))
