-- What a plant lives through while its station takes steps.
use Rattle.std.specs.Prelude.{◌≡◌, ◌++◌, List, flat_map, Option}
use Rattle.protocol.specs.Refusals.{Call}
use Rattle.folders.specs.Doings.{Doing, Does}
use Rattle.folders.specs.Written.{File}
use Rattle.offers.specs.Rules.{Standing}
use Rattle.driver.specs.Events.{Event}
use Rattle.run_command.specs.ReleaseFiles.{filing}
use Rattle.run_command.specs.Minding.{Holds, onto}
use Rattle.run_command.specs.Story.{Happened, events_of, doings_of, MayBeCalled, IsInOrder}
use Rattle.run_command.specs.Standing.{Texts}
use Rattle.run_command.specs.Waiting.{Waiting, IsFiled, WritesStored, all_stored}
use Rattle.run_command.specs.Working.{Writes, Settles}
use Rattle.run_command.specs.declared.desk.PlantDesk.{PlantDesk}
use Rattle.run_command.specs.declared.plant.Plant.{Plant}

-- the folders of a plant, the files that wait to be written among the releases, and what is kept in mind
pub record Kept (F : Type 0) : Type 0 where
  pub folders : F
  pub waits : Waiting
  pub book : Standing

-- of these
abbrev pub kept : {F : Type 0} → F → Waiting → Standing → Kept F
kept folders waits book = record { folders = folders; waits = waits; book = book }

-- of a plant, as it is now
abbrev pub kept_of : {F S : Type 0} → PlantDesk F S → Kept F
kept_of desk = kept desk.folders.now desk.plant.now.waits desk.plant.now.papers.book

-- what a plant did while exactly these events happened: there is a story of them in which this was done with the folders, and nothing else;
-- of what waited and of the files of what was released the first were written, and the rest waits; and behind whatever happened before of
-- which what is kept in mind holds each thing may happen, texts being read by this table, and what is kept in mind holds of all of it then
pub record Lived {F : Type 0} (texts : Texts) (doings : F → Option (List Doing)) (old new : Kept F) (log : List Event) : Type 0 where
  pub story : List Happened
  pub events : events_of story ≡ log
  pub does : Does (doings old.folders) (doings new.folders) (doings_of story)
  pub whole : Writes (old.waits.files ++ flat_map filing log) story new.waits.files
  pub ordered : (past : List Happened) → Holds texts past old.waits old.book → IsInOrder texts past story
  pub stands : (past : List Happened) → Holds texts past old.waits old.book → Holds texts (onto story past) new.waits new.book

-- the same, up to where there was no memory
pub record LivedFront {F : Type 0} (texts : Texts) (doings : F → Option (List Doing)) (old new : Kept F) (log : List Event) : Type 0 where
  pub story : List Happened
  pub events : events_of story ≡ log
  pub does : Does (doings old.folders) (doings new.folders) (doings_of story)
  pub front : (rest : List File) × Writes (old.waits.files ++ flat_map filing log) story rest
  pub ordered : (past : List Happened) → Holds texts past old.waits old.book → IsInOrder texts past story

-- behind whatever happened before the station may be called so
abbrev pub MayAsk : {F : Type 0} → Texts → Kept F → Call → Type 0
MayAsk texts old call = (past : List Happened) → Holds texts past old.waits old.book → MayBeCalled texts past call

-- the table by which texts are read at a desk
abbrev pub texts_of : {F S : Type 0} → PlantDesk F S → Texts
texts_of desk = desk.plant.now.texts

-- it is the desk of a plant that has the folders that it had, and texts are read by the same table
abbrev pub IsSameDesk : {F S : Type 0} → PlantDesk F S → PlantDesk F S → Type 0
IsSameDesk old new = (new.folders.ghost_name ≡ old.folders.ghost_name) × (texts_of new ≡ texts_of old)

-- the same, and its plant lived through these events; it came some way with them
abbrev pub LivedOn : {F S : Type 0} → (F → Option (List Doing)) → PlantDesk F S → PlantDesk F S → List Event → Type 0
LivedOn doings old new log = IsSameDesk old new × Lived (texts_of old) doings (kept_of old) (kept_of new) log

abbrev pub CameOn : {F S : Type 0} → (F → Option (List Doing)) → PlantDesk F S → PlantDesk F S → List Event → Type 0
CameOn doings old new log = IsSameDesk old new × LivedFront (texts_of old) doings (kept_of old) (kept_of new) log

-- What steps released was handed out. What they saved is stored. What waited was written and noted, up to what was refused. Then files left
-- the offers if nothing waits.
pub record HandsOut {F : Type 0} (doings : F → Option (List Doing)) (refuses : F → F → Type 0) (old new : Kept F) : Type 0 where
  pub mid : F
  pub writes : WritesStored doings refuses old.folders mid (all_stored old.waits) new.waits
  pub settles : Settles (doings mid) (doings new.folders) old.book new.book
  pub none : (IsFiled new.waits → ⊥) → doings new.folders ≡ doings mid

-- what steps released was settled at a plant: files left the offers for it where nothing waits to be written, and none did where a file waits
pub record SettlesWritten (old new : Option (List Doing)) (was is : Plant) : Type 0 where
  pub settles : Settles old new was.papers.book is.papers.book
  pub none : (IsFiled was.waits → ⊥) → new ≡ old
  pub waits : is.waits ≡ was.waits
  pub texts : is.texts ≡ was.texts
