-- Steps of a station whose rows in a database are saved in groups, the save of all that they saved, and an upgrade: what they leave of the rows inside.
use Rattle.std.specs.Prelude.{◌≡◌, List, [], false, Result}
use Rattle.sqlite_disk.specs.declared.Disk as disk
use Rattle.sqlite.specs.declared.FileStore.{FileStore}
use Rattle.sqlite.specs.Files.{over_files}
use Rattle.protocol.specs.Marks.{Mark}
use Rattle.protocol.specs.Refusals.{Call}
use Rattle.rows_saved.specs.declared.rows.Rows.{Ghosts}
use Rattle.rows_saved.specs.Grouped.{GroupedOf}
use Rattle.node_core.specs.Standing.{StandsFor}
use Rattle.refusals.specs.declared.refusal.StepRefusal.{StepRefusal}
use Rattle.station.specs.declared.answer.Answer.{Answer}
use Rattle.station.specs.declared.station.Station.{Station}
use Rattle.station.specs.Settling.{HasSettled, WasTorn}
use Rattle.station.specs.Steps.{IsStep}
use Rattle.station.specs.Upgrading.{IsUpgrade}
use Rattle.acceptor_store.specs.Sqlite.{SqliteOf, LeavesAll, LeavesNoOther}
use Rattle.database_days.specs.Grouping.{IsSettled, TookAGroup, WereSettling}

-- nothing waits to be saved
abbrev pub NoneWaits : {R : Type 0} → GroupedOf R → Type 0
NoneWaits rows = rows.waits ≡ []

-- a station took steps one after the other, and none of them stopped it
pub data TookSteps {R : Type 0} (g : Ghosts R) : Station R → Station R → Type 0 where
  no_step : {old new : Station R} → new ≡ old → TookSteps g old new
  one_more : {old new : Station R} (mid : Station R) (call : Call) (answer : Result Answer StepRefusal) → TookSteps g old mid → IsStep g call mid new answer → new.stopped ≡ false → TookSteps g old new

module _ {D : Type 0} {g : disk.Ghosts D} {R : Type 0} (inside : R → SqliteOf (FileStore D g)) where
  -- A station between two groups: nothing waits, the rows inside are at rest and were not stopped, and the core stands for some marks. That of a
  -- process which begins is such, over rows that were taken up or made (`AreTakenUp` and `AreMadeIn`, `rests` and `unstopped`).
  pub record IsBetweenGroups (s : Station (GroupedOf R)) : Type 0 where
    pub settled : IsSettled inside s
    pub ran : (inside s.rows.rows).stopped ≡ false
    pub marks : (marks : List Mark) × StandsFor s.speaker.core marks

-- What the program's own rows give, where they are kept
pub record GroupsAreTaken (D : Type 0) (g : disk.Ghosts D) {R : Type 0} (inside : R → SqliteOf (FileStore D g)) (x : Ghosts (GroupedOf R)) : Type 0 where
  -- steps behind a group are steps of the next one, and read the rows inside at most
  pub taken :
      (before after : Station (GroupedOf R))
      → IsBetweenGroups inside before → TookSteps x before after → x.kept after.rows
      → TookAGroup inside before after × LeavesNoOther over_files (inside before.rows.rows) (inside after.rows.rows)
  -- so does one more step, however it is answered, also if that stops the station
  pub stepped :
      (before after new : Station (GroupedOf R)) (call : Call) (answer : Result Answer StepRefusal)
      → IsBetweenGroups inside before → TookSteps x before after → IsStep x call after new answer → x.kept new.rows
      → LeavesNoOther over_files (inside before.rows.rows) (inside new.rows.rows)
  -- once what they saved is saved as one, the station is between two groups again, with the rows of the same member
  pub saved :
      (before after new : Station (GroupedOf R))
      → IsBetweenGroups inside before → TookSteps x before after → HasSettled x NoneWaits after new → x.kept new.rows
      → IsBetweenGroups inside new × ((inside new.rows.rows).identity ≡ (inside before.rows.rows).identity)
  -- if that save is refused, the rows inside were in the save of all that waited
  pub torn :
      (before after new : Station (GroupedOf R))
      → IsBetweenGroups inside before → TookSteps x before after → WasTorn x after new → x.kept new.rows → WereSettling inside after (inside new.rows.rows)
  -- an upgrade between two groups, whether it is refused or not: a crash leaves the station and the map of the rows inside, in the one layout or the other
  pub upgraded :
      (before new : Station (GroupedOf R)) (answer : Result (Unit {0}) StepRefusal)
      → IsBetweenGroups inside before → IsUpgrade x before new answer → x.kept new.rows → LeavesAll over_files (inside before.rows.rows) (inside new.rows.rows)
