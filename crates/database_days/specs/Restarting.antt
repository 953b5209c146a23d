-- A process that saves its steps in groups ended, in whatever way, and the next one starts over what was left of its rows: the day goes on.
use Rattle.std.specs.Prelude.{◌≡◌, ◌≢◌, ◌⊎◌, ◌++◌, ℕ, List, [], ◌∷◌, false, Option, Result}
use Rattle.sqlite_disk.specs.declared.Disk as disk
use Rattle.sqlite_disk.specs.declared.Files.{Files}
use Rattle.sqlite.specs.WalReads.{AreClean}
use Rattle.sqlite.specs.WalFiles.{outcomes}
use Rattle.sqlite.specs.Recovery.{Image}
use Rattle.sqlite.specs.State.{HasCleanDisk}
use Rattle.sqlite.specs.declared.FileStore.{FileStore}
use Rattle.sqlite.specs.Files.{file_state, over_files}
use Rattle.protocol.specs.Ballots.{IsMember}
use Rattle.protocol.specs.Refusals.{Call}
use Rattle.rows_saved.specs.declared.identity.Identity.{Identity}
use Rattle.rows_saved.specs.declared.rows.Rows.{Ghosts}
use Rattle.rows_saved.specs.Grouped.{GroupedOf}
use Rattle.refusals.specs.declared.refusal.StepRefusal.{StepRefusal}
use Rattle.station.specs.declared.answer.Answer.{Answer}
use Rattle.station.specs.declared.station.Station.{Station}
use Rattle.station.specs.Settling.{WasTorn}
use Rattle.station.specs.Stations.{sight}
use Rattle.station.specs.Steps.{IsStep}
use Rattle.acceptor_store.specs.Files.{AreTakenUp}
use Rattle.acceptor_store.specs.Grouping.{LeavesTogether}
use Rattle.acceptor_store.specs.Restarts.{GivesUp}
use Rattle.acceptor_store.specs.Sqlite.{SqliteOf, IsKept, LeavesAll}
use Rattle.rows_life.specs.Keeping.{StandFor}
use Rattle.days.specs.Happening.{Happened, At_rest, Upgrading, ended, began}
use Rattle.days.specs.Handing.{Plants, Member, runs, Begins, HandsOver}
use Rattle.days.specs.Days.{Day}
use Rattle.driver.specs.Events.{Event}
use Rattle.process_days.specs.Telling.{Order, log_of, day_after, IsInTurn, HasLog, HaveLogs, IsLeftWith}
use Rattle.process_days.specs.Cutting.{EndsStored, StoresNone}
use Rattle.database_days.specs.GroupSteps.{IsBetweenGroups, NoneWaits}

module _ {D : Type 0} {g : disk.Ghosts D} {R : Type 0} (inside : R → SqliteOf (FileStore D g)) (x : Ghosts (GroupedOf R)) where
  -- where a process with this station stood as it ended, and how it left the rows inside
  pub data Leaves (last : Station (GroupedOf R)) (now : SqliteOf (FileStore D g)) : Type 0 where
    -- between two calls of its station: they are as the last one left them
    between_calls : now ≡ inside last.rows.rows → Leaves last now
    -- in a step, or behind one that stopped the station: they are as the step leaves them, however it is answered
    in_a_step :
        (call : Call) (new : Station (GroupedOf R)) (answer : Result Answer StepRefusal)
        → IsStep x call last new answer → x.kept new.rows → now ≡ inside new.rows.rows → Leaves last now
    -- behind the save of all that waited, which was refused
    at_a_refusal : (new : Station (GroupedOf R)) → WasTorn x last new → x.kept new.rows → now ≡ inside new.rows.rows → Leaves last now
    -- In that save. They are as the clause `leaves` of `put_all` says, which holds however the call ends, also over a disk that does nothing more from
    -- some moment on.
    in_the_save : IsKept over_files now → LeavesTogether over_files (inside last.rows.rows) now last.rows.waits → Leaves last now

  -- A process ran from a station between two groups. Its kept events end at its last save, or there are none and it saved nothing. Behind them it
  -- had the station `mid`. By the lost events it went on to the station `last`. Then it ended, of its own accord, killed, or with its machine.
  pub record RanUntil (first mid last : Station (GroupedOf R)) (kept lost : List Event) (now : SqliteOf (FileStore D g)) : Type 0 where
    pub begins : IsBetweenGroups inside first
    pub to_the_save : HasLog x NoneWaits (runs first) mid kept
    pub saves : EndsStored kept
    pub from_there : HasLog x NoneWaits (runs mid) last lost
    pub none : StoresNone lost
    pub goes : last.stopped ≡ false
    pub leaves : Leaves last now

  -- The next process of this member starts. A crash left some image of the files of these rows, and the files by now stand for it. An open of those
  -- took up rows, over a disk that returned what was written. The process begins with this station over them, and none waits.
  pub record StartsOver (p : Plants) (m : ℕ) (now : SqliteOf (FileStore D g)) (next : Station (GroupedOf R)) : Type 0 where
    pub files : Files D
    pub left : Image
    pub begun : Image
    pub given : Option Identity
    pub gives : GivesUp g now.conn files
    pub clean : AreClean g files.log files.db
    pub may : outcomes g files.log files.db left
    pub stands : StandFor left begun
    pub taken : AreTakenUp begun given (inside next.rows.rows)
    pub honest : HasCleanDisk (file_state (inside next.rows.rows).conn)
    pub none : next.rows.waits ≡ []
    pub begins : Begins x p m next

-- The day goes on. Each member's process took the events of one order. Those of this member are this log, and led to this station. Then its
-- process is over, and its next one begins. The other members' processes are as their logs left them.
abbrev pub GoesOn : {R : Type 0} → Ghosts R → (R → Type 0) → Plants → List Happened → (ℕ → Member R) → ℕ → List Event → Station R → Station R → Type 0
GoesOn {R = R} g is_settled p day at m log last next =
    (order : Order) (stations : ℕ → Station R)
    → HaveLogs g is_settled p.count at stations order → IsInTurn p.count day order → log_of m order ≡ log → stations m ≡ last
    → (now : ℕ → Member R) × Day g p (began m ∷ ended m At_rest ∷ day_after day order) now × (now m ≡ runs next)
    × ((k : ℕ) → IsMember p.count k → k ≢ m → IsLeftWith (at k) (now k) (stations k))

-- the next process has the rows that this station had behind this log, and the day goes on from there
pub record Continues {R : Type 0} (g : Ghosts R) (is_settled : R → Type 0) (p : Plants) (day : List Happened) (at : ℕ → Member R) (m : ℕ) (log : List Event) (last next : Station R) : Type 0 where
  pub rows : HandsOver (sight g) At_rest last next
  pub goes_on : GoesOn g is_settled p day at m log last next

-- A process of a member ran in a day over grouped rows in a database. It ended before the save of its last group, in that save, or because it was
-- refused. The next start finds the same station, with its rows from before the group or from behind all of it. It goes on in the same day, as if
-- the process had ended at its last save, or behind all its steps. Its own station is between two groups, so the same holds of it again.
abbrev pub GroupsGoOn : (D : Type 0) (g : disk.Ghosts D) {R : Type 0} → (R → SqliteOf (FileStore D g)) → Ghosts (GroupedOf R) → Type 0
GroupsGoOn D g {R} inside x =
    (p : Plants) (day : List Happened) (at : ℕ → Member (GroupedOf R)) (m : ℕ)
    (first mid last next : Station (GroupedOf R)) (kept lost : List Event) (now : SqliteOf (FileStore D g))
    → Day x p day at → IsMember p.count m → at m ≡ runs first → RanUntil inside x first mid last kept lost now → StartsOver inside x p m now next
    → ((inside next.rows.rows).identity ≡ (inside first.rows.rows).identity) × IsBetweenGroups inside next
    × (Continues x NoneWaits p day at m kept mid next ⊎ Continues x NoneWaits p day at m (kept ++ lost) last next)

-- A process of a member upgraded its rows between two groups, however that ended: a crash leaves the station and all rows, in the one layout or in the
-- other. The next start finds the same station and its rows, at the version before or at version 2, and goes on in the same day, behind an upgrade.
abbrev pub UpgradesGoOn : (D : Type 0) (g : disk.Ghosts D) {R : Type 0} → (R → SqliteOf (FileStore D g)) → Ghosts (GroupedOf R) → Type 0
UpgradesGoOn D g {R} inside x =
    (p : Plants) (day : List Happened) (at : ℕ → Member (GroupedOf R)) (m : ℕ)
    (last next : Station (GroupedOf R)) (now : SqliteOf (FileStore D g))
    → Day x p day at → IsMember p.count m → at m ≡ runs last → IsBetweenGroups inside last → LeavesAll over_files (inside last.rows.rows) now → StartsOver inside x p m now next
    → ((inside next.rows.rows).identity ≡ (inside last.rows.rows).identity) × IsBetweenGroups inside next × HandsOver (sight x) Upgrading last next
    × ((then : ℕ → Member (GroupedOf R)) × Day x p (began m ∷ ended m Upgrading ∷ day) then × (then m ≡ runs next)
    × ((k : ℕ) → k ≢ m → then k ≡ at k))
