-- Rows that are saved, and closed, only behind a look that found their file at its path.
use Rattle.std.specs.Prelude.{◌≡◌, ◌⊎◌, ℕ, Bool, true, false}
use Rattle.rows_saved.specs.Saved.{Rises}
use Rattle.rows_saved.specs.declared.fault.RowsFault.{RowsFault}
use Rattle.rows_saved.specs.declared.fault.RowsFault.TheVariants.{Store}
use Rattle.rows_host_files.specs.declared.watched.Watched.{Watched}

-- a look found the file meanwhile, as each before did
pub record HasFound {W : Type 0} (looks : W → ℕ) (old new : W) (was_gone is_gone : Bool) : Type 0 where
  pub looked : Rises (looks old) (looks new)
  pub before : was_gone ≡ false
  pub now : is_gone ≡ false

-- a look found the file of these rows, as each before did
abbrev pub HasLooked : {R W : Type 0} → (W → ℕ) → Watched R W → Watched R W → Type 0
HasLooked looks old new = HasFound looks old.watch new.watch old.is_gone new.is_gone

-- the file was not found, and the rows inside were not asked
abbrev pub WasUnseen : {R W : Type 0} → Watched R W → Watched R W → Type 0
WasUnseen old new = (new.rows ≡ old.rows) × (new.is_gone ≡ true)

-- so it was; or a look found the file, and the rows inside tell this of what they were asked
abbrev pub TellsBehindLook : {R W : Type 0} → (W → ℕ) → Watched R W → Watched R W → Type 0 → Type 0
TellsBehindLook looks old new Told = WasUnseen old new ⊎ (HasLooked looks old new × Told)

-- the file was not found, and that was the fault
abbrev pub IsRefusedUnseen : {R W : Type 0} → Watched R W → Watched R W → RowsFault → Type 0
IsRefusedUnseen old new fault = WasUnseen old new × (fault ≡ Store)

-- a look found the file of these rows, as each before did, and the rows inside were closed so
pub record IsClosedBehindLook {R W : Type 0} (looks : W → ℕ) (Closed : R → Type 0) (s : Watched R W) : Type 0 where
  pub watch : W
  pub looked : Rises (looks s.watch) (looks watch)
  pub before : s.is_gone ≡ false
  pub closed : Closed s.rows
