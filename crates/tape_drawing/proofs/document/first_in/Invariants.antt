use Rattle.std.proofs.Common.{◌≡◌, None, take}
use Rattle.slug_reader.specs.Positions.{first}
use Rattle.line_fit.specs.Fitting.{fault_in}
use Rattle.tape_drawing.proofs.document.first_in.Given as goal

abbrev pub invariant-loop-line : goal.invariant-loop-line
invariant-loop-line l = first (λ fit. fault_in fit.verdict) (take l.line-index l.lines) ≡ None
