use Rattle.catch_up_log.proofs.Once.{once_a_second, once_each}
use Rattle.catch_up_log.proofs.laws.told_once.Goals as goal

pub returns-clause-each : goal.returns-clause-each
returns-clause-each c = once_each

pub returns-clause-second : goal.returns-clause-second
returns-clause-second c = once_a_second
