-- Faults of files that go on, and when they are told.
use Rattle.std.specs.Prelude.{◌≡◌, ◌⊎◌, ℕ, List, Bool, true, false, Option, Some, None}
use Rattle.std.specs.Ordering.{nat_cmp}
use Rattle.std.specs.BTreeMap.{BTreeMap, get, Updates}
use Rattle.folders.specs.LogNames.{shown_name}
use Rattle.folders.specs.Offers.{IsNameOf}
use Rattle.folders.specs.declared.fault.FolderFault.{FolderFault}
use Rattle.folders.specs.declared.fault.FolderFault.TheVariants as faults
use Rattle.offers.specs.Order.{rank}
use Rattle.plant_log.specs.declared.files.Trouble.{Trouble}
use Rattle.plant_log.specs.declared.standing.Standing.{Standing}
use Rattle.plant_log.specs.Words.{file_text}
use Rattle.plant_log.specs.Telling.{WasTold}
use Rattle.plant_log.specs.Keeping.{HasRoom}
use Rattle.plant_log.specs.Standing.{IsToldAnew}
use Rattle.plant_log.specs.declared.told.Told.{Told}

-- the file is gone, or another by now: it is found anew
abbrev pub is_gone : FolderFault → Bool
is_gone faults.Missing = true
is_gone faults.Changed = true
is_gone fault = false

-- a fault of the file at this place is told: it is no such fault, and is told anew
abbrev pub IsNoticed : ℕ → FolderFault → ℕ → BTreeMap ℕ Standing → Type 0
IsNoticed key fault now last = (is_gone fault ≡ false) × IsToldAnew (get nat_cmp last key) fault now

-- it is kept in mind; or there is no room for a file more
abbrev pub IsKept : ℕ → Standing → BTreeMap ℕ Standing → BTreeMap ℕ Standing → Type 0
IsKept key standing old new = Updates nat_cmp old new key (Some standing) ⊎ ((get nat_cmp old key ≡ None) × (new.entries ≡ old.entries))

-- it was told and is kept in mind, or it was not, and all stays as it was
pub record Notices (key : ℕ) (fault : FolderFault) (now : ℕ) (told : Bool) (old new : BTreeMap ℕ Standing) : Type 0 where
  pub noticed : told ≡ true → IsNoticed key fault now old × IsKept key (record { fault = fault; at = now }) old new
  pub unnoticed : told ≡ false → (¬ IsNoticed key fault now old) × (new.entries ≡ old.entries)
  pub bound : HasRoom old new

-- the line of what can't be done with a file, under its name
abbrev pub TellsTrouble : List ℕ → Trouble → Option (List ℕ) → Option (List ℕ) → Type 0
TellsTrouble what trouble old new =
    (name : List ℕ) × IsNameOf name trouble.request.number trouble.request.kind × WasTold (file_text what (shown_name name) trouble.fault) old new

-- that line where it is told, and else nothing
abbrev pub TellsTroubleIf : Bool → List ℕ → Trouble → Option (List ℕ) → Option (List ℕ) → Type 0
TellsTroubleIf true what trouble old new = TellsTrouble what trouble old new
TellsTroubleIf false what trouble old new = new ≡ old

-- what can't be done with this file is told or not, by what was told last of the files, of which as much is kept in mind
pub record NoticesOf (what : List ℕ) (trouble : Trouble) (now : ℕ) (before after : Told) (old new : Option (List ℕ)) : Type 0 where
  pub tells :
      (told : Bool) × Notices (rank trouble.request) trouble.fault now told before.files.kept after.files.kept × TellsTroubleIf told what trouble old new
  pub rest : after ≡ record before { files = after.files }
