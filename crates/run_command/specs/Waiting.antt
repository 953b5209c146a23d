-- The files that wait to be written among the releases, and whether what their steps saved is stored.
use Rattle.std.specs.Prelude.{◌≡◌, ◌⊎◌, ◌++◌, ◌||◌, ℕ, List, [], ◌∷◌, Bool, true, false, map, Option, Some, None}
use Rattle.station.specs.declared.answer.Release.{Release}
use Rattle.folders.specs.Doings.{Doing, wrote_file, Does}
use Rattle.folders.specs.Written.{File}
use Rattle.plant_care.specs.Caring.{AreNotedGone}
use Rattle.run_command.specs.ReleaseFiles.{release_files}

-- The files that wait, in order. The numbers that were released and are not noted as gone out. Whether all is stored that the steps saved
-- that released them.
pub record Waiting : Type 0 where
  pub files : List File
  pub numbers : List ℕ
  pub stored : Bool

-- nothing waits
abbrev pub none_waits : Waiting
none_waits = record { files = []; numbers = []; stored = true }

-- the files of a release, if there is one, and its number wait behind the others; what its step saved is not stored yet
abbrev pub with_release : Option Release → Waiting → Waiting
with_release None w = w
with_release (Some r) w = record { files = w.files ++ release_files r; numbers = w.numbers ++ r.number ∷ []; stored = false }

-- the station stored all that it had saved, or it did not
abbrev pub settled_by : Bool → Waiting → Waiting
settled_by settled w = record { files = w.files; numbers = w.numbers; stored = settled || w.stored }

-- the station stored all that it had saved
abbrev pub all_stored : Waiting → Waiting
all_stored w = settled_by true w

-- no file waits, and all that was saved is stored
pub record IsFiled (w : Waiting) : Type 0 where
  pub none : w.files ≡ []
  pub stored : w.stored ≡ true

-- these files wait on, or these numbers, and nothing else has changed
abbrev pub with_files : List File → Waiting → Waiting
with_files files w = record { files = files; numbers = w.numbers; stored = w.stored }

abbrev pub with_numbers : List ℕ → Waiting → Waiting
with_numbers numbers w = record { files = w.files; numbers = numbers; stored = w.stored }

-- all files that waited were written, in order, and then it was noted that their numbers went out, unless that was refused
pub record WritesAll {F : Type 0} (doings : F → Option (List Doing)) (refuses : F → F → Type 0) (old new : F) (was is : Waiting) : Type 0 where
  pub mid : F
  pub writes : Does (doings old) (doings mid) (map wrote_file was.files)
  pub left : List ℕ
  pub notes : AreNotedGone doings refuses mid new was.numbers left
  pub rest : is ≡ with_numbers left (with_files [] was)

-- a file was refused: of those that waited the first were written, in order, and the others wait on
pub record WritesFirst {F : Type 0} (doings : F → Option (List Doing)) (refuses : F → F → Type 0) (old new : F) (was is : Waiting) : Type 0 where
  pub files : List File
  pub writes : Does (doings old) (doings new) (map wrote_file files)
  pub left : List File
  pub split : was.files ≡ files ++ left
  pub refused : refuses old new
  pub rest : is ≡ with_files left was

-- Nothing is written while what was saved is not stored. Once it is, all files that wait are written and their numbers noted, up to what is
-- refused.
abbrev pub WritesStored : {F : Type 0} → (F → Option (List Doing)) → (F → F → Type 0) → F → F → Waiting → Waiting → Type 0
WritesStored doings refuses old new was is =
    ((was.stored ≡ false) × (is ≡ was) × (doings new ≡ doings old))
    ⊎ ((was.stored ≡ true) × (WritesAll doings refuses old new was is ⊎ WritesFirst doings refuses old new was is))
