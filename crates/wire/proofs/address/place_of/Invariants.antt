-- none of those before
use Rattle.std.proofs.Common.{take}
use Rattle.std.specs.List.{All}
use Rattle.wire.specs.Addresses.{IsAt}
use Rattle.wire.proofs.address.place_of.Given as goal

abbrev pub invariant-loop-place : goal.invariant-loop-place
invariant-loop-place l = All (λ a. ¬ IsAt a l.sender) (take l.place l.stations)
