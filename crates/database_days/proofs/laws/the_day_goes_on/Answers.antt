-- From what grouped rows give, from what a day has of them, and from how a day goes on.
use Rattle.std.proofs.Common.{refl}
use Rattle.database_days.specs.Grouping.{watched_rows}
use Rattle.database_days.proofs.Restarting.{groups_go_on, upgrades_go_on}
use Rattle.database_days.proofs.laws.the_day_goes_on.Goals as goal

pub returns-clause-groups : goal.returns-clause-groups
returns-clause-groups g c = groups_go_on watched_rows _ c.groups_are_taken.ensures (λ s. refl) (λ s. refl) c.groups_hand_over.ensures c.next_processes_begin.ensures

pub returns-clause-upgrades : goal.returns-clause-upgrades
returns-clause-upgrades g c = upgrades_go_on watched_rows _ c.groups_are_taken.ensures (λ s. refl) (λ s. refl) c.groups_hand_over.ensures
