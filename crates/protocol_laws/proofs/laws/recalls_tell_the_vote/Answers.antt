-- Line by line of the table.
use Rattle.protocol_laws.proofs.Telling.{recalls_tell_the_vote}
use Rattle.protocol_laws.proofs.laws.recalls_tell_the_vote.Goals as goal

pub returns : goal.returns
returns c = recalls_tell_the_vote
