-- Line by line of the table.
use Rattle.protocol_laws.proofs.Once.{numbers_are_released_once}
use Rattle.protocol_laws.proofs.laws.numbers_are_released_once.Goals as goal

pub returns : goal.returns
returns c = numbers_are_released_once
