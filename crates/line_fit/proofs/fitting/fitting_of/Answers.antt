use Rattle.std.proofs.Common.{◌≡◌, length, refl, ◌∙◌, ap, arith, add-one}
use Rattle.code_table.specs.Tables.{mean}
use Rattle.line_fit.proofs.Reading.{starts}
use Rattle.line_fit.proofs.Telling.{are_more, cuts_more, cuts_same, rest_is, tells_first}
use Rattle.line_fit.proofs.fitting.fitting_of.Goals as goal
use Rattle.line_fit.proofs.fitting.fitting_of.Goals.{in-Some+in_ok-push-in-Some, in-None}

pub loop-at-init : goal.loop-at-init
loop-at-init c =
    let e = c.new-pending.ensures in
    record {
      within = omega arith;
      stands = starts (mean c.args.table.now) c.args.sizes.now c.frames-frames.result.now c.new-pending.result e.case e.rail e.items e.quad e.fault e.line;
      fits = rw c.new-lines.ensures.items tt;
    }

pub loop-at-preserved : goal.loop-at-preserved
loop-at-preserved c =
    let means = mean c.args.table.now in
    let widths = c.args.sizes.now in
    let tape = c.frames-frames.result.now in
    let i = c.loop-at.at in
    let was = c.loop-at.invariant in
    record {
      within = omega (arith, c.loop-at-test.true);
      stands = rw add-one c.in_ok-fit.ensures.stands;
      fits =
          elim c.match-branch-2.branch [
            | in-Some+in_ok-push-in-Some w ↦
                let at = rw w.in-Some.is at c.in_ok-fit.ensures.fit in
                let items = ap (λ v. v.items) w.lines-is ∙ w.in_ok-push-in-Some.ensures.items in
                rw (add-one, items, cuts_more means tape i at.0) (are_more means widths tape _ c.loop-at.lines.items i w.in-Some.fit was.fits at.1)
            | in-None w ↦
                let at = rw w.in-None.is at c.in_ok-fit.ensures.fit in
                let items = ap (λ v. v.items) w.lines-is in
                rw (add-one, items, cuts_same means tape i at) was.fits
          ];
    }

pub returns-clause-fits : goal.returns-clause-fits
returns-clause-fits c =
    let means = mean c.args.table.now in
    let tape = c.frames-frames.result.now in
    let end : c.loop-at.at ≡ length tape = omega (arith, c.loop-at.invariant.within, c.loop-at-test.false) in
    let was = c.loop-at.invariant in
    rw (← c.frames-frames.ensures.frames) (record {
      lines = rw end at was.fits;
      rest = c.rest-rest.ensures ∙ rest_is means c.args.sizes.now tape c.loop-at.pending _ refl (rw end at was.stands);
    })

pub returns-clause-first : goal.returns-clause-first
returns-clause-first c =
    let means = mean c.args.table.now in
    let tape = c.frames-frames.result.now in
    let end : c.loop-at.at ≡ length tape = omega (arith, c.loop-at.invariant.within, c.loop-at-test.false) in
    let was = c.loop-at.invariant in
    rw (← c.frames-frames.ensures.frames) (tells_first means c.args.sizes.now tape (record { lines = c.loop-at.lines; rest = c.rest-rest.result }) (record {
      lines = rw end at was.fits;
      rest = c.rest-rest.ensures ∙ rest_is means c.args.sizes.now tape c.loop-at.pending _ refl (rw end at was.stands);
    }))
