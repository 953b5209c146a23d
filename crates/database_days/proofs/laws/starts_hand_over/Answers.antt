use Rattle.std.proofs.Common.{refl}
use Rattle.database_days.proofs.Finding.{found}
use Rattle.database_days.proofs.laws.starts_hand_over.Goals as goal

pub returns : goal.returns
returns g c = found _ (λ s. refl) (λ s. refl) c.what_is_begun_is_found.ensures.found c.what_is_begun_is_found.ensures.rest c.what_is_begun_is_found.ensures.upgrade
