use Rattle.configuration.proofs.Octets.{split_at_dot}
use Rattle.configuration.proofs.address.split_dot.Goals as goal

pub returns : goal.returns
returns c = split_at_dot c.args.text.now c.split_once.result c.split_once.ensures.cases
