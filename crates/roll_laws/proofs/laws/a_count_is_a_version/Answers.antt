-- Number by number.
use Rattle.roll_laws.proofs.Counting.{counts_never_fall, equal_counts_are_same_votes}
use Rattle.roll_laws.proofs.laws.a_count_is_a_version.Goals as goal

pub returns-clause-rise : goal.returns-clause-rise
returns-clause-rise g c = counts_never_fall

pub returns-clause-same : goal.returns-clause-same
returns-clause-same g c = equal_counts_are_same_votes
