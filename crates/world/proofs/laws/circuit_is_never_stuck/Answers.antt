-- From the law of any circuit.
use Rattle.world.proofs.Progress.{stations_are_never_stuck, running_stations_need_not_restart, denied_stations_need_not_restart, busy_stations_need_not_restart, chosen_is_found, half_an_upgrade_is_no_dead_end, every_station_releases}
use Rattle.world.proofs.laws.circuit_is_never_stuck.Goals as goal

pub returns-clause-offered : goal.returns-clause-offered
returns-clause-offered c = stations_are_never_stuck c.members_can_speak.ensures c.circuit_is_never_stuck.ensures.offered

pub returns-clause-chosen : goal.returns-clause-chosen
returns-clause-chosen c = chosen_is_found c.members_can_speak.ensures c.circuit_is_never_stuck.ensures.chosen

pub returns-clause-running : goal.returns-clause-running
returns-clause-running c = running_stations_need_not_restart c.members_can_speak.ensures c.circuit_is_never_stuck.ensures.running

pub returns-clause-upgrade : goal.returns-clause-upgrade
returns-clause-upgrade c = half_an_upgrade_is_no_dead_end c.members_can_speak.ensures c.circuit_is_never_stuck.ensures.upgrade

pub returns-clause-denied : goal.returns-clause-denied
returns-clause-denied c = denied_stations_need_not_restart c.members_can_speak.ensures c.circuit_is_never_stuck.ensures.denied

pub returns-clause-busy : goal.returns-clause-busy
returns-clause-busy c = busy_stations_need_not_restart c.members_can_speak.ensures c.circuit_is_never_stuck.ensures.busy

pub returns-clause-every : goal.returns-clause-every
returns-clause-every c = every_station_releases c.members_can_speak.ensures c.circuit_is_never_stuck.ensures.every
