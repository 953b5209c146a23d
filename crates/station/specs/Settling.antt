-- What a station saved, stored.
use Rattle.std.specs.Prelude.{◌≡◌, true, false, Result, Ok, Err}
use Rattle.rows_saved.specs.Saved.{SameRows, Rises}
use Rattle.rows_saved.specs.declared.rows.Rows.{Ghosts}
use Rattle.refusals.specs.declared.refusal.StepRefusal.{StepRefusal}
use Rattle.refusals.specs.declared.refusal.StepRefusal.TheVariants.{Store, Stopped}
use Rattle.station.specs.declared.station.Station.{Station}
use Rattle.station.specs.Stations.{with_rows}

-- the rows of a station are read as before, at the same version, and nothing else of it has changed
pub record IsReadAlike {R : Type 0} (g : Ghosts R) (old new : Station R) : Type 0 where
  pub only_rows : new ≡ with_rows old new.rows
  pub same : g.kept new.rows → SameRows (g.saved old.rows) (g.saved new.rows)
  pub version : g.version new.rows ≡ g.version old.rows
  -- what held of the rows as the call ended held before, and rows that were made for the store stay so
  pub was_kept : g.kept new.rows → g.kept old.rows
  pub made : g.made old.rows → g.made new.rows

-- all that a station saved is stored, as rows of this kind say it, and is read as before
pub record HasSettled {R : Type 0} (g : Ghosts R) (is_settled : R → Type 0) (old new : Station R) : Type 0 where
  pub goes : old.stopped ≡ false
  pub stored : is_settled new.rows
  pub reads : IsReadAlike g old new
  -- what its rows show of that
  pub shows : g.shows old.rows new.rows

-- it can't be: the station has stopped, and what it saved is stored or is not
pub record WasTorn {R : Type 0} (g : Ghosts R) (old new : Station R) : Type 0 where
  pub went : old.stopped ≡ false
  pub only_rows : new ≡ record old { rows = new.rows; stopped = true }
  pub version : g.version new.rows ≡ g.version old.rows
  pub was_kept : g.kept new.rows → g.kept old.rows
  pub made : g.made old.rows → g.made new.rows
  pub cause : Rises (g.refusals old.rows) (g.refusals new.rows)
  -- what its rows tell of that
  pub torn : g.torn old.rows new.rows

-- what a station that is to store what it saved has done with this answer: one that has stopped does nothing
abbrev pub Settling : {R : Type 0} → Ghosts R → (R → Type 0) → Station R → Station R → Result (Unit {0}) StepRefusal → Type 0
Settling g is_settled old new (Ok done) = HasSettled g is_settled old new
Settling g is_settled old new (Err (Store fault)) = WasTorn g old new
Settling g is_settled old new (Err Stopped) = (old.stopped ≡ true) × (new ≡ old)
Settling g is_settled old new (Err _) = ⊥
