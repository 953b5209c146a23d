use Rattle.std.proofs.Common.{sym, ◌∙◌}
use Rattle.line_check.specs.Slugs.{band_width}
use Rattle.editor_commands.proofs.Bands.{first_more}
use Rattle.editor_commands.proofs.verdict_words.first_band.Goals as goal

pub loop-sort-preserved : goal.loop-sort-preserved
loop-sort-preserved c =
    c.or-found.ensures ∙ rw (c.loop-sort.invariant, c.band_width.ensures) (sym (first_more band_width c.args.sorts.now c.loop-sort.sort-index c.sort-item.result c.loop-sort-test.true c.sort-item.is))
