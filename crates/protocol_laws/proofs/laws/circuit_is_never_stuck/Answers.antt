-- By taking the steps.
use Rattle.protocol_laws.proofs.Progress.{circuit_is_never_stuck, chosen_is_found, half_an_upgrade_is_no_dead_end, running_need_not_restart, denied_need_not_restart, busy_need_not_restart}
use Rattle.protocol_laws.proofs.Everywhere.{every_member_releases}
use Rattle.protocol_laws.proofs.laws.circuit_is_never_stuck.Goals as goal

pub returns-clause-offered : goal.returns-clause-offered
returns-clause-offered g c = circuit_is_never_stuck

pub returns-clause-chosen : goal.returns-clause-chosen
returns-clause-chosen g c = chosen_is_found

pub returns-clause-upgrade : goal.returns-clause-upgrade
returns-clause-upgrade g c = half_an_upgrade_is_no_dead_end

pub returns-clause-running : goal.returns-clause-running
returns-clause-running g c = running_need_not_restart

pub returns-clause-denied : goal.returns-clause-denied
returns-clause-denied g c = denied_need_not_restart

pub returns-clause-busy : goal.returns-clause-busy
returns-clause-busy g c = busy_need_not_restart

pub returns-clause-every : goal.returns-clause-every
returns-clause-every g c = every_member_releases
