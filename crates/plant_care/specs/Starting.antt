-- How a station starts to catch up.
use Rattle.std.specs.Prelude.{◌≡◌, Bool, true, false, List, [], Option, Some, None, Result, IfOk}
use Rattle.std.specs.Global.{Box}
use Rattle.node_core.specs.declared.turn.Note.{Note}
use Rattle.node_core.specs.declared.turn.Note.TheVariants as notes
use Rattle.folders.specs.Doings.{Doing}
use Rattle.folders.specs.declared.fault.FolderFault.{FolderFault}
use Rattle.plant_care.specs.declared.beginning.Opening.{Opening}
use Rattle.plant_care.specs.declared.beginning.CareStart.{CareStart}
use Rattle.plant_care.specs.declared.care.Care.{Care}

-- what waits until it can be read what went out asks for nothing then either
abbrev pub WaitsOff : Option (CareStart × FolderFault) → Type 0
WaitsOff None = Unit {0}
WaitsOff (Some w) = w.0.catches_up ≡ false

-- the station asks for nothing on its own, and does not begin to
abbrev pub IsOff : Care → Type 0
IsOff c = (c.catch_up.asks ≡ false) × WaitsOff c.waiting

-- how a station starts: as its own, and where it is not to catch up, it asks for nothing on its own
pub record IsOpeningOf (start : CareStart) (o : Opening) : Type 0 where
  pub own : o.catch_up.own ≡ start.own
  pub off : start.catches_up ≡ false → (o.catch_up.asks ≡ false) × WaitsOff o.waiting

-- what is kept in mind at the start: nothing was released, told or asked for by hand yet
pub record StartsFrom (start : CareStart) (c : Care) : Type 0 where
  pub own : c.catch_up.own ≡ start.own
  pub off : start.catches_up ≡ false → IsOff c
  pub quiet : c.is_quiet ≡ start.is_quiet
  pub before : c.before.items ≡ []
  pub ask : c.ask ≡ None

-- a station begins to catch up, unless there is no memory for that; with the offers nothing is done
pub record Begins {F : Type 0} (doings : F → Option (List Doing)) (start : CareStart) (folders folders' : F) {E : Type 0} (result : Result (Box Care) E) : Type 0 where
  pub starts : IfOk result (λ care. StartsFrom start care.value)
  pub does : doings folders' ≡ doings folders

-- where it waits to be known what went out, that was read again, or it waits on; a station that asks for nothing on its own does not begin to
pub record BeginsAgain {F : Type 0} (doings : F → Option (List Doing)) (folders folders' : F) (old new : Care) : Type 0 where
  pub does : doings folders' ≡ doings folders
  pub off : IsOff old → IsOff new
  pub rest : new ≡ record old { catch_up = new.catch_up; waiting = new.waiting }

-- whether a step with this note saved a row, and whether that has a vote
abbrev pub saved_by : Note → Option Bool
saved_by (notes.Began b) = Some false
saved_by (notes.Promised b) = Some false
saved_by (notes.Proposed b) = Some true
saved_by (notes.Voted b) = Some true
saved_by note = None

-- nothing else changes but what waits until it is known what went out
abbrev pub WaitsOn : Care → Care → Type 0
WaitsOn old new = new ≡ record old { waiting = new.waiting }
