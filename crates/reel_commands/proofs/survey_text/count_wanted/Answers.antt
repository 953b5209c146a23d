use Rattle.std.proofs.Common.{ℕ, List, ◌∙◌, ap, arith}
use Rattle.std.specs.Prelude.{count_by}
use Rattle.code_table.specs.Tables.{mean}
use Rattle.reel_commands.specs.Survey.{is_wanted}
use Rattle.reel_commands.proofs.Frames.{all_are}
use Rattle.reel_commands.proofs.survey_text.count_wanted.Goals as goal

pub returns : goal.returns
returns c =
    c.loop-frame.invariant.value
    ∙ ap (λ (frames : List ℕ). count_by (is_wanted (mean c.args.survey.now.table) c.args.survey.now.widths c.args.survey.now.tapes.items) frames)
    (all_are c.loop-frame.frame (omega (arith, c.loop-frame-test.false, c.loop-frame.auto.frame-end)))
