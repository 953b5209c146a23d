-- What a station promises of a turn that it saves.
use Rattle.std.specs.Prelude.{◌≡◌, ◌≤◌, ℕ, Option, IfSome, Result, IfOk, IfErr, length, true, false}
use Rattle.protocol.specs.Rows.{Row}
use Rattle.protocol.specs.Versions.{Version}
use Rattle.rows_saved.specs.Saved.{HasPromise, Rises}
use Rattle.rows_saved.specs.declared.rows.Rows.{Ghosts}
use Rattle.node_core.specs.Turns.{sent}
use Rattle.node_core.specs.declared.turn.Turn.{Turn}
use Rattle.refusals.specs.declared.refusal.StepRefusal.{StepRefusal}
use Rattle.station.specs.declared.answer.Answer.{Answer}
use Rattle.station.specs.declared.save.Checked.{Checked}
use Rattle.station.specs.declared.station.Station.{Station}
use Rattle.station.specs.Speaking.{TurnSpeaks}
use Rattle.station.specs.Stations.{StaysMade, sight, with_rows}
use Rattle.station.specs.Readiness.{IsNumbered, Saves, WasChecked}
use Rattle.station.specs.Steps.{OnStore, IfStore, tears, is_early}

-- a turn that was taken at this row can be saved and handed out: the row that it saves has a promise, and what it saves and sends fits the
-- version of the station's rows; a tape that was checked sets by its code table and widths
pub record CanBeSaved {R : Type 0} (version : R → Version) (s : Station R) (before : Row) (turn : Turn) (checked : Option Checked) : Type 0 where
  pub promised : IfSome turn.row HasPromise
  pub fits : TurnSpeaks (version s.rows) before turn
  pub sets : WasChecked s.table s.widths checked

-- what a turn that was taken at this row hands out was made ready, and then its row was saved; or that was refused
pub record SavesTurn {R : Type 0} (g : Ghosts R) (n : ℕ) (before : Row) (turn : Turn) (old new : Station R) (answer : Result Answer StepRefusal) : Type 0 where
  pub saves : g.kept new.rows → Saves (sight g) old.table old.widths n before turn old.rows new.rows answer
  -- nothing but the rows has changed, and they are as much the store's as before
  pub rest : new ≡ with_rows old new.rows
  pub rows : StaysMade g old.rows new.rows
  pub many : IfOk answer (λ a. length a.out.items ≡ length (sent before turn))
  pub numbered : IfOk answer (λ a. IsNumbered a.release)
  -- where the store refused, the count of its refusals rose, and the rows blame this fault
  pub cause : OnStore answer (Rises (g.refusals old.rows) (g.refusals new.rows))
  pub blames : IfStore answer (g.blames old.rows new.rows)
  pub counts : g.refusals old.rows ≤ g.refusals new.rows
  -- each refusal stops the station, and none is of those that come before the row is read
  pub tears : IfErr answer (λ r. tears r ≡ true)
  pub late : IfErr answer (λ r. is_early r ≡ false)
