-- The addresses of the list are those of the slice.
use Rattle.std.proofs.Common.{List, subst}
use Rattle.wire.specs.declared.address.Address.{Address}
use Rattle.init_command.specs.Asked.{ArePlaces}
use Rattle.init_command.proofs.reading_back.has_places.Goals as goal

pub returns : goal.returns
returns c = λ yes. subst (λ (l : List Address). ArePlaces l c.args.station.now.places.now) c.as_slice.ensures.value (c.are_places.ensures yes)
