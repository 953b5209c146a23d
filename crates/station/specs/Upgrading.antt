-- What an upgrade of a station does, whether the station had stopped or not.
use Rattle.std.specs.Prelude.{◌≡◌, ◌≤◌, ◌⊎◌, [], Result, Ok, Err, OnErr, is_err}
use Rattle.protocol.specs.Versions.{Two}
use Rattle.rows_saved.specs.Saved.{SameRows, Rises}
use Rattle.rows_saved.specs.declared.fault.RowsFault.{RowsFault}
use Rattle.rows_saved.specs.declared.rows.Rows.{Ghosts}
use Rattle.node_core.specs.Standing.{StandsFor}
use Rattle.station.specs.declared.station.Station.{Station}
use Rattle.refusals.specs.declared.refusal.StepRefusal.{StepRefusal}
use Rattle.refusals.specs.declared.refusal.StepRefusal.TheVariants.{Store}
use Rattle.station.specs.Stations.{Sight, sight, IsFixed}

-- the rows went over to version 2
pub record RowsUpgraded {R : Type 0} (x : Sight R) (old new : R) : Type 0 where
  pub two : x.version new ≡ Two
  pub upgrades : x.upgrades old new
  pub is_open : x.kept new → x.is_open new

-- the rows refused to go over, with this fault: all are at the version before, or all at version 2
pub record Balked {R : Type 0} (x : Sight R) (old new : R) (fault : RowsFault) : Type 0 where
  pub either : (x.version new ≡ x.version old) ⊎ (x.version new ≡ Two)
  pub balks : x.balks old new
  pub blames : x.blames old new fault

-- an upgrade of rows that is answered so: they went over or refused, and nothing else is a reason to refuse
abbrev pub UpgradeEnds : {R : Type 0} → Sight R → R → R → Result (Unit {0}) StepRefusal → Type 0
UpgradeEnds x old new (Ok done) = RowsUpgraded x old new
UpgradeEnds x old new (Err (Store fault)) = Balked x old new fault
UpgradeEnds x old new (Err _) = ⊥

-- an upgrade of a station: it forgets what it took in, and speaks the version at which its rows are now. Where they went over it goes on,
-- where they refused it stops; each row stands as it was
pub record DoesUpgrade {R : Type 0} (x : Sight R) (old new : Station R) (result : Result (Unit {0}) StepRefusal) : Type 0 where
  pub fixed : IsFixed old new
  pub stands_for : StandsFor new.speaker.core []
  pub wire : new.speaker.wire ≡ x.version new.rows
  pub stops : new.stopped ≡ is_err result
  pub ends : UpgradeEnds x old.rows new.rows result
  pub same : x.kept new.rows → x.is_open new.rows → SameRows (x.saved old.rows) (x.saved new.rows)
  pub was_open : x.kept new.rows → x.is_open new.rows → x.is_open old.rows

-- a call to upgrade a station, answered so: what `Station::upgrade` promises
pub record IsUpgrade {R : Type 0} (g : Ghosts R) (old new : Station R) (answer : Result (Unit {0}) StepRefusal) : Type 0 where
  pub takes : DoesUpgrade (sight g) old new answer
  -- what held of the rows as the call ended held before, and rows that were made for the store stay so
  pub was_kept : g.kept new.rows → g.kept old.rows
  pub made : g.made old.rows → g.made new.rows
  -- it is refused only where the count of the rows' refusals rises, and that never falls
  pub cause : OnErr answer (Rises (g.refusals old.rows) (g.refusals new.rows))
  pub counts : g.refusals old.rows ≤ g.refusals new.rows
