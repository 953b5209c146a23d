-- The log of a process that ended before what its last steps saved was stored: what is kept of it, and how the next process goes on.
use Rattle.std.specs.Prelude.{◌≡◌, ◌≢◌, ◌⊎◌, ◌++◌, ℕ, List, [], ◌∷◌, flat_map, false, Option, Ok, Err}
use Rattle.protocol.specs.Ballots.{IsMember}
use Rattle.protocol.specs.Lists.{IsAmong}
use Rattle.rows_saved.specs.declared.rows.Rows.{Ghosts}
use Rattle.station.specs.declared.station.Station.{Station}
use Rattle.station.specs.Stations.{sight}
use Rattle.wire.specs.Passing.{Passed, Trace, came, sent, told}
use Rattle.folders.specs.Doings.{Doing, Does}
use Rattle.folders.specs.Written.{File}
use Rattle.run_command.specs.ReleaseFiles.{filing}
use Rattle.run_command.specs.Standing.{Texts}
use Rattle.run_command.specs.Story.{events_of, doings_of, files_of_story, stored_of, IsInOrder}
use Rattle.run_command.specs.Story.{Happened as Run}
use Rattle.command_ends.specs.declared.end.End.{End}
use Rattle.driver.specs.Driving.{Post, Fate, Driven, known}
use Rattle.driver.specs.Events.{Event, asked, took, stored, aside, passing_behind}
use Rattle.serve_command.specs.Serving.{printed_behind}
use Rattle.days.specs.Happening.{Happened, At_rest, ended, began}
use Rattle.days.specs.Handing.{Plants, Member, runs, Begins, HandsOver}
use Rattle.days.specs.Days.{Day, IsDayAgreed, OfferedFirst}
use Rattle.process_days.specs.Seeing.{IsFiled, IsWritten}
use Rattle.process_days.specs.Telling.{Order, log_of, day_after, IsInTurn, HasLog, HaveLogs, IsLeftWith}

-- in none of these events the station stored all that it had saved
abbrev pub StoresNone : List Event → Type 0
StoresNone [] = Unit {0}
StoresNone (asked moment ∷ rest) = StoresNone rest
StoresNone (aside what ∷ rest) = StoresNone rest
StoresNone (took call answer ∷ rest) = StoresNone rest
StoresNone (stored (Ok done) ∷ rest) = ⊥
StoresNone (stored (Err refusal) ∷ rest) = StoresNone rest

-- A log is cut behind its last save. The events before the cut are kept. The others are lost, and nothing is stored in them.
pub record IsCut (log kept lost : List Event) : Type 0 where
  pub joined : log ≡ kept ++ lost
  pub none : StoresNone lost

-- the last of these events is a save
abbrev pub EndsAtSave : List Event → Type 0
EndsAtSave log = (before : List Event) × (log ≡ before ++ stored (Ok tt) ∷ [])

-- there are no such events, or the last of them is a save
abbrev pub EndsStored : List Event → Type 0
EndsStored log = (log ≡ []) ⊎ EndsAtSave log

-- each log can be cut right behind its last save; of one without a save nothing is kept
abbrev pub LogsAreCut : Type 0
LogsAreCut = (log : List Event) → (kept : List Event) × (lost : List Event) × IsCut log kept lost × EndsStored kept

-- The first events of a log are the log of the process as it was then. It had taken those steps and no others. From there on it took the
-- other steps of the log.
abbrev pub LogsHavePrefixes : {R : Type 0} → Ghosts R → (R → Type 0) → Type 0
LogsHavePrefixes {R = R} g is_settled =
    (s last : Station R) (kept lost : List Event) → HasLog g is_settled (runs s) last (kept ++ lost)
    → (mid : Station R) × HasLog g is_settled (runs s) mid kept × HasLog g is_settled (runs mid) last lost

-- Each member's process has a log, and this order tells the first events of it. Behind them the process was killed, or it could not store
-- what it had saved.
abbrev pub HaveLongerLogs : {R : Type 0} → Ghosts R → (R → Type 0) → ℕ → (ℕ → Member R) → (ℕ → Station R) → Order → Type 0
HaveLongerLogs g is_settled count at last order = (m : ℕ) → IsMember count m → (rest : List Event) × HasLog g is_settled (at m) (last m) (log_of m order ++ rest)

-- The first events of logs are logs, of the stations that the processes had then. So all laws of logs hold of them.
abbrev pub PrefixesAreLogs : {R : Type 0} → Ghosts R → (R → Type 0) → Type 0
PrefixesAreLogs {R = R} g is_settled =
    (count : ℕ) (at : ℕ → Member R) (last : ℕ → Station R) (order : Order) → HaveLongerLogs g is_settled count at last order
    → (mid : ℕ → Station R) × HaveLogs g is_settled count at mid order

-- behind a save all that the station saved is stored, and the station goes on
abbrev pub SavesAreStored : {R : Type 0} → Ghosts R → (R → Type 0) → Type 0
SavesAreStored {R = R} g is_settled =
    (s mid : Station R) (before : List Event) → HasLog g is_settled (runs s) mid (before ++ stored (Ok tt) ∷ [])
    → is_settled mid.rows × (mid.stopped ≡ false)

-- what was sent of what passed
abbrev pub sent_in : Passed → List Passed
sent_in (came bytes) = []
sent_in (sent to bytes) = sent to bytes ∷ []
sent_in (told moment) = []

abbrev pub sent_of : List Passed → List Passed
sent_of passed = flat_map sent_in passed

-- all that was sent while a log happened was sent while its kept events did
abbrev pub CutsKeepTheSent : Type 0
CutsKeepTheSent =
    (waits : List Passed) (log kept lost : List Event) → IsCut log kept lost → sent_of (passing_behind waits log) ≡ sent_of (passing_behind waits kept)

-- all text of releases that was printed while a log happened was printed while its kept events did
abbrev pub CutsKeepThePrinted : Type 0
CutsKeepThePrinted = (waits : List ℕ) (log kept lost : List Event) → IsCut log kept lost → printed_behind waits log ≡ printed_behind waits kept

-- each file that a run wrote among the releases is of a release of its kept events
abbrev pub CutsKeepTheFiled : Type 0
CutsKeepTheFiled =
    (texts : Texts) (story : List Run) (kept lost : List Event) (f : File) → IsInOrder texts [] story → IsCut (events_of story) kept lost
    → IsAmong (files_of_story story) f → IsAmong (flat_map filing kept) f

-- In a stretch of a run in which nothing is stored, a file is written among the releases only if the save of its release was stored before the
-- stretch. So a plant that works without an event writes nothing that was released since the last save.
abbrev pub StretchesFileTheStored : Type 0
StretchesFileTheStored =
    (texts : Texts) (past story : List Run) (f : File) → IsInOrder texts past story → StoresNone (events_of story)
    → IsAmong (files_of_story story) f → IsAmong (flat_map filing (stored_of (events_of past))) f

-- the first part of a story that is in order is in order, as that of a process that was killed behind it
abbrev pub StoriesHavePrefixes : Type 0
StoriesHavePrefixes = (texts : Texts) (first rest : List Run) → IsInOrder texts [] (first ++ rest) → IsInOrder texts [] first

-- A process wrote a file among the releases of its plant, as `run_station` promises of its story (its fields `does` and `ordered`). Then its
-- member released it in a day in which only the kept events of the process's log are told.
abbrev pub WrittenIsStored : Type 0
WrittenIsStored =
    (day : List Happened) (order : Order) (m : ℕ) (texts : Texts) (story : List Run) (lost : List Event) (before after : Option (List Doing)) (f : File)
    → IsInOrder texts [] story → IsCut (events_of story) (log_of m order) lost → Does before after (doings_of story) → IsWritten before after f
    → IsFiled (day_after day order) m f

-- A member's process that ran in a day goes on by a log that is told up to some event, and has not stopped then. The next process finds the
-- rows of that moment, and begins. That is a day again, in which the other members' processes are as their logs left them. If a group was not
-- saved, or its save was refused, the next start may find the rows from before it: then the log is told up to the save before. If the next start
-- finds all rows of the group, the log is told up to the save that was refused or cut off.
abbrev pub NextProcessesBegin : {R : Type 0} → Ghosts R → (R → Type 0) → Type 0
NextProcessesBegin {R = R} g is_settled =
    (p : Plants) (day : List Happened) (at : ℕ → Member R) (order : Order) (last : ℕ → Station R) (m : ℕ) (s next : Station R)
    → Day g p day at → HaveLogs g is_settled p.count at last order → IsInTurn p.count day order
    → IsMember p.count m → at m ≡ runs s → (last m).stopped ≡ false → HandsOver (sight g) At_rest (last m) next → Begins g p m next
    → (now : ℕ → Member R) × Day g p (began m ∷ ended m At_rest ∷ day_after day order) now × (now m ≡ runs next)
    × ((k : ℕ) → IsMember p.count k → k ≢ m → IsLeftWith (at k) (now k) (last k))

-- A station took the kept events of a log, and from there on the lost ones. Right behind a save its rows have all that it saved.
pub record IsCutAt {R : Type 0} (g : Ghosts R) (is_settled : R → Type 0) (old last : Station R) (kept lost : List Event) : Type 0 where
  pub mid : Station R
  pub first : HasLog g is_settled (runs old) mid kept
  pub rest : HasLog g is_settled (runs mid) last lost
  pub rests : EndsAtSave kept → is_settled mid.rows

-- Whatever drove a station by a log, and however it ended, over rows that are kept: its kept events are those of a station as well, wherever
-- the log is cut behind its last save. All that was sent was sent by then.
abbrev pub LogsCanBeCut : {R N S : Type 0} → Ghosts R → (R → Type 0) → (N → Trace) → Fate S → Type 0
LogsCanBeCut {R = R} {N = N} {S = S} g is_settled passed fate =
    (old new : Post R N S) (end : End) (log kept lost : List Event) → IsCut log kept lost
    → Driven (known g is_settled passed fate) old new end log → g.kept new.station.rows
    → IsCutAt g is_settled old.station new.station kept lost × (sent_of (passing_behind old.waits log) ≡ sent_of (passing_behind old.waits kept))

-- Processes may end in any way: killed at some event, or by a save that is refused or torn. Of each log the first events are told, up to
-- where the next start finds its rows. What is released in them agrees, with all that was released before in the day.
abbrev pub PrefixesAgree : {R : Type 0} → Ghosts R → (R → Type 0) → Type 0
PrefixesAgree {R = R} g is_settled =
    (p : Plants) (day : List Happened) (at : ℕ → Member R) (order : Order) (last : ℕ → Station R)
    → Day g p day at → HaveLongerLogs g is_settled p.count at last order → IsInTurn p.count day order
    → IsDayAgreed p (day_after day order) × OfferedFirst (day_after day order)
