-- By the cases of a step.
use Rattle.protocol_laws.proofs.Tearing.{store_tears_the_unrefused, torn_as_it_was_armed}
use Rattle.protocol_laws.proofs.laws.what_the_store_tears.Goals as goal

pub returns-clause-unrefused : goal.returns-clause-unrefused
returns-clause-unrefused g c = store_tears_the_unrefused

pub returns-clause-armed : goal.returns-clause-armed
returns-clause-armed g c = torn_as_it_was_armed
