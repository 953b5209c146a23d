use Rattle.std.proofs.Common.{◌+◌, take, ◌∙◌, arith, append_assoc}
use Rattle.editor_commands.specs.Report.{rows_from, row_text}
use Rattle.editor_commands.proofs.Rows.{rows_more, slugs_more}
use Rattle.editor_commands.proofs.report.put_rows.Goals as goal

pub loop-before-preserved : goal.loop-before-preserved
loop-before-preserved c =
    let was = c.loop-before.invariant in
    let lines = c.args.lines.now in
    let i = c.loop-before.before in
    let line = c.index-lines-before.result in
    record {
      text =
          c.in_ok-put_row.ensures ∙ rw (was.text, rows_more lines i c.loop-before.slug line c.loop-before-test.true c.index-lines-before.is was.slug)
          (append_assoc c.args.text.now.items (rows_from 1 1 (take i lines)) (row_text (i + 1) c.loop-before.slug line));
      slug = omega (arith, was.slug, c.slugs_in-slug.ensures.value, slugs_more lines i line c.loop-before-test.true c.index-lines-before.is);
      few = omega (arith, was.few, c.slugs_in-slug.ensures.few);
    }
