use Rattle.std.proofs.Common.{refl, sym, ◌∙◌}
use Rattle.line_check.proofs.FirstFault.{are_more, misfit_rest}
use Rattle.line_check.proofs.tape.add_slugs.Goals as goal

pub loop-line-preserved : goal.loop-line-preserved
loop-line-preserved c =
    let widths = c.args.widths.now in
    let lines = c.args.lines.now in
    let i = c.loop-line.line-index in
    let line = c.line-item.result in
    record {
      slugs = λ earlier are.
          rw c.in_ok-push-in-Ok.ensures.items (are_more widths earlier lines i c.loop-line.slugs.items line c.in-Ok.slug c.loop-line-test.true c.line-item.is (c.loop-line.invariant.slugs earlier are) c.in-Ok.ensures.slug.1);
      rest = sym (misfit_rest widths lines i line c.loop-line-test.true c.line-item.is ∙ rw c.in-Ok.ensures.slug.0 refl) ∙ c.loop-line.invariant.rest;
    }
