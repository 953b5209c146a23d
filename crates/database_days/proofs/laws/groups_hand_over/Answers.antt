use Rattle.std.proofs.Common.{refl}
use Rattle.database_days.specs.Grouping.{watched_rows}
use Rattle.database_days.proofs.FindingGroups.{groups_found}
use Rattle.database_days.proofs.laws.groups_hand_over.Goals as goal

pub returns : goal.returns
returns g c = groups_found watched_rows _ (λ s. refl) (λ s. refl) c.what_is_begun_is_found.ensures.rest c.what_is_begun_is_found.ensures.group c.what_is_begun_is_found.ensures.upgrade
