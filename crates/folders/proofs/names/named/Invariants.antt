-- The name is that of no file of the kinds before.
use Rattle.std.proofs.Common.{take}
use Rattle.std.specs.List.{All}
use Rattle.folders.specs.Offers.{NamesNoneOf}
use Rattle.folders.proofs.names.named.Given as goal

abbrev pub invariant-loop-kind : goal.invariant-loop-kind
invariant-loop-kind l = All (λ kind. NamesNoneOf kind l.name) (take l.kind-index l.kind-items)
