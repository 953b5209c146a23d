-- What is done with the folders of a plant, in order, where that is known.
use Rattle.std.specs.Prelude.{◌≡◌, ◌++◌, ◌⊎◌, ℕ, List, [], ◌∷◌, map, Option, None, Some}
use Rattle.folders.specs.Written.{File}
use Rattle.folders.specs.declared.leaving.Place.{Place}

-- one thing that was done: a file of this name was found among the offers; this file of the offers was read; this file was written among
-- the releases; it was noted that these numbers went out, or that they did before that was kept; the file of this name left the offers for a
-- place; it was taken away
pub data Doing : Type 0 where
  saw_file : (name : List ℕ) → Doing
  read_file : (file : File) → Doing
  wrote_file : (file : File) → Doing
  noted_gone : (numbers : List ℕ) → Doing
  noted_before : (numbers : List ℕ) → Doing
  moved_file : (name : List ℕ) (to : Place) → Doing
  removed_file : (name : List ℕ) → Doing

-- a file of this name among the offers was found, and read to its end: it holds these bytes
abbrev pub read_whole : List ℕ → List ℕ → List Doing
read_whole name bytes = saw_file name ∷ read_file (record { name = name; bytes = bytes }) ∷ []

-- these were done since, in this order, and no others; of folders that don't tell, nothing is said
abbrev pub Does : Option (List Doing) → Option (List Doing) → List Doing → Type 0
Does None new doings = Unit {0}
Does (Some old) None doings = ⊥
Does (Some old) (Some new) doings = new ≡ old ++ doings

-- this was done since, or nothing was
abbrev pub MayDo : Option (List Doing) → Option (List Doing) → Doing → Type 0
MayDo None new doing = Unit {0}
MayDo (Some old) None doing = ⊥
MayDo (Some old) (Some new) doing = (new ≡ old) ⊎ (new ≡ old ++ doing ∷ [])

-- the file that was written, if one was
abbrev pub writing : Doing → List File
writing (saw_file name) = []
writing (read_file file) = []
writing (wrote_file file) = file ∷ []
writing (noted_gone numbers) = []
writing (noted_before numbers) = []
writing (moved_file name to) = []
writing (removed_file name) = []

-- of the files that waited the first were written, in order, and the others wait
pub record WritesSome (old new : Option (List Doing)) (had waits : List File) : Type 0 where
  pub files : List File
  pub does : Does old new (map wrote_file files)
  pub rest : had ≡ files ++ waits
