-- What was done with folders in memory.
use Rattle.std.specs.Prelude.{◌≡◌, ◌++◌, List, [], ◌∷◌, flat_map, string_bytes, Result, OnOk, OnErr}
use Rattle.folders.specs.Doings.{Doing, saw_file, read_file, wrote_file, noted_gone, noted_before, moved_file, removed_file}
use Rattle.folders.specs.declared.acts.Act.{Act}
use Rattle.folders.specs.declared.fault.FolderFault.{FolderFault}
use Rattle.folders.specs.declared.acts.Act.TheVariants.{Saw, Read, Wrote, NotedGone, NotedBefore, Noted, SetAside, TakenAway}

-- what was done with the files of a plant; a text beside one is none of them
abbrev pub act_of : Act → List Doing
act_of (Saw name) = saw_file (string_bytes name) ∷ []
act_of (Read file) = read_file file ∷ []
act_of (Wrote file) = wrote_file file ∷ []
act_of (NotedGone numbers) = noted_gone numbers.items ∷ []
act_of (NotedBefore numbers) = noted_before numbers.items ∷ []
act_of (Noted text) = []
act_of (SetAside name to) = moved_file (string_bytes name) to ∷ []
act_of (TakenAway name) = removed_file (string_bytes name) ∷ []

-- each of these, in order
abbrev pub acts_of : List Act → List Doing
acts_of acts = flat_map act_of acts

-- this was done since, or it failed and nothing was
pub record IsDone (old new : List Act) (doings : List Doing) (result : Result (Unit {0}) FolderFault) : Type 0 where
  pub ok : OnOk result (acts_of new ≡ acts_of old ++ doings)
  pub err : OnErr result (new ≡ old)
