use Rattle.std.proofs.Common.{◌∙◌, sym, subst, ap, arith}
use Rattle.tape_drawing.specs.Layout.{first_spot, next, IsWithin}
use Rattle.tape_drawing.proofs.Placing.{IsAt, first_within, spot_at, within_take, after_more}
use Rattle.tape_drawing.proofs.layout.after.Goals as goal

pub next-spot-requires : goal.next-spot-requires
next-spot-requires c =
    let fits = c.args.fits.now in
    let i = c.loop-fit.fit-index in
    let fit = c.fit-item.result in
    let reached = spot_at c.args.measure c.args.end first_spot fits i fit fit c.requires.1 (first_within c.args.end) c.loop-fit-test.true c.fit-item.is in
    let here : IsAt c.args.measure c.args.end c.loop-fit.spot fit = subst (λ s. IsAt c.args.measure c.args.end s fit) (sym c.loop-fit.invariant) reached in
    let w = here.within in
    let few = c.requires.0 in
    (here.from, omega (arith, w.top, w.from, few), omega (arith, w.number, w.from, few), omega (arith, w.slug, w.from, few), omega (arith, w.faults, w.from, few), omega (arith, here.cut, few))

pub loop-fit-preserved : goal.loop-fit-preserved
loop-fit-preserved c =
    let fit = c.fit-item.result in
    c.next-spot.ensures ∙ ap (λ s. next s fit) c.loop-fit.invariant ∙ sym (after_more first_spot c.args.fits.now c.loop-fit.fit-index fit fit c.loop-fit-test.true c.fit-item.is)

pub returns-clause-within : goal.returns-clause-within
returns-clause-within c =
    subst (λ s. IsWithin c.args.end s) (sym c.loop-fit.invariant) (within_take c.args.measure c.args.end first_spot c.args.fits.now c.loop-fit.fit-index c.requires.1 (first_within c.args.end))
