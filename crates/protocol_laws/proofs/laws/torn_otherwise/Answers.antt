-- By taking the steps.
use Rattle.protocol_laws.proofs.Tearing.{setting_wants_memory, reading_leaves_armed, store_refuses_too}
use Rattle.protocol_laws.proofs.laws.torn_otherwise.Goals as goal

pub returns-clause-setting : goal.returns-clause-setting
returns-clause-setting g c = setting_wants_memory

pub returns-clause-reading : goal.returns-clause-reading
returns-clause-reading g c = reading_leaves_armed

pub returns-clause-too : goal.returns-clause-too
returns-clause-too g c = store_refuses_too
