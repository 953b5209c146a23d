-- What `run` did with its folders, by a story of its events: what a driver promises of `run` is told in its words.
use Rattle.std.specs.Prelude.{◌≡◌, ◌⊎◌, ◌++◌, List, [], Option, Result, flat_map}
use Rattle.rows_saved.specs.declared.rows.Rows.{Ghosts}
use Rattle.wire.specs.Passing.{Trace}
use Rattle.command_ends.specs.declared.fault.Fault.{Fault}
use Rattle.folders.specs.Doings.{Doing, Does}
use Rattle.folders.specs.Written.{File}
use Rattle.run_command.specs.Standing.{Texts}
use Rattle.driver.specs.Events.{Event, ended}
use Rattle.driver.specs.Driving.{Fate, known, post_in, Drove, Anyhow}
use Rattle.driver.specs.declared.machine.Machine.{Machine}
use Rattle.run_command.specs.ReleaseFiles.{filing}
use Rattle.run_command.specs.Story.{Happened, events_of, doings_of, files_of_story, IsInOrder}

-- of these files the first were written in a story, in order, and no others
abbrev pub WritesFront : List File → List Happened → Type 0
WritesFront files story = (rest : List File) × (files ≡ files_of_story story ++ rest)

-- what was done with folders while exactly these events happened: there is a story of them in which this was done with the folders, and
-- nothing else; among the releases were written the files of what was released, a front of them; and each thing may happen behind those
-- before it, texts being read by this table
pub record Tells {F : Type 0} (texts : Texts) (doings : F → Option (List Doing)) (old new : F) (log : List Event) : Type 0 where
  pub story : List Happened
  pub events : events_of story ≡ log
  pub does : Does (doings old) (doings new) (doings_of story)
  pub front : WritesFront (flat_map filing log) story
  pub ordered : IsInOrder texts [] story

-- something that was to be written among the releases, or noted, was refused
abbrev pub WasRefused : {F : Type 0} → (F → F → Type 0) → Type 0
WasRefused {F = F} refuses = (before : F) × (after : F) × refuses before after

-- The same at a good end: all files of what was released were written, unless something was refused.
pub record TellsAll {F : Type 0} (texts : Texts) (doings : F → Option (List Doing)) (refuses : F → F → Type 0) (old new : F) (log : List Event) : Type 0 where
  pub told : Tells texts doings old new log
  pub all : (files_of_story told.story ≡ flat_map filing log) ⊎ WasRefused refuses

-- what becomes of folders is told so, at a good end and at any other
abbrev pub tells : {F : Type 0} → Texts → (F → Option (List Doing)) → (F → F → Type 0) → Fate F
tells texts doings refuses = record { lived = TellsAll texts doings refuses; front = Tells texts doings }

-- what `run` did up to this result, on a machine with the folders of a plant, as it was and as it is: the station took the steps of its events
-- and no others; what passed over the wire is what came for them and, once what they saved was stored, what they handed out; and its folders
-- are told of so, texts being read by this table. At a good end nothing waits to be sent, and all files were written, unless something was
-- refused.
abbrev pub RunsUpTo :
    {R N F : Type 0} → Texts → Result (Unit {0}) Fault → Ghosts R → (R → Type 0) → (N → Trace) → (F → Option (List Doing)) → (F → F → Type 0)
    → Machine R N F → Machine R N F → Type 0
RunsUpTo texts result rows is_settled passed doings refuses old new =
    Drove (known rows is_settled passed (tells texts doings refuses)) (post_in old) (post_in new) (ended result) Anyhow
