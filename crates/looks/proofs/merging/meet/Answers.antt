use Rattle.looks.specs.Strays.{from}
use Rattle.looks.proofs.Steps.{known_met, left_met}
use Rattle.looks.proofs.merging.meet.Goals as goal

pub returns-clause-known : goal.returns-clause-known
returns-clause-known c = rw (c.met.ensures.known, c.skip_to-stands.ensures.stands, c.skip_to-stands.ensures.rest) (known_met c.args.name.now (from c.args.name.now c.args.rest.now))

pub returns-clause-left : goal.returns-clause-left
returns-clause-left c = rw (c.met.ensures.left, c.skip_to-stands.ensures.stands, c.skip_to-stands.ensures.rest) (left_met c.args.name.now (from c.args.name.now c.args.rest.now))
