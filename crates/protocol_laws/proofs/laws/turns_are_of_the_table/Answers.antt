-- By the readings, one by one.
use Rattle.protocol_laws.proofs.Meeting.{turns_are_of_the_table}
use Rattle.protocol_laws.proofs.laws.turns_are_of_the_table.Goals as goal

pub returns : goal.returns
returns c = turns_are_of_the_table
