-- What news of a file, or of all files of a number, leaves of the files.
use Rattle.std.specs.Prelude.{◌≡◌, ℕ, List}
use Rattle.offers.specs.declared.offer.Offer.{Offer}
use Rattle.offers.specs.declared.stage.Stage.{Stage}
use Rattle.offers.specs.Order.{Rises}
use Rattle.offers.specs.Stages.{changed, all_changed}

-- there is news of the file of a place, if it is there, and the files stay in order
pub record TellsOne (place : ℕ) (step : Stage → Stage) (old new : List Offer) : Type 0 where
  pub news : new ≡ changed place step old
  pub rises : Rises new

-- there is news of each file of a number, and the files stay in order
pub record TellsAll (number : ℕ) (step : Stage → Stage) (old new : List Offer) : Type 0 where
  pub news : new ≡ all_changed number step old
  pub rises : Rises new
