use Rattle.std.proofs.Common.{◌≡◌, take}
use Rattle.tape_drawing.specs.Layout.{after, first_spot}
use Rattle.tape_drawing.proofs.layout.after.Given as goal

abbrev pub invariant-loop-fit : goal.invariant-loop-fit
invariant-loop-fit l = l.spot ≡ after first_spot (take l.fit-index l.fits)
