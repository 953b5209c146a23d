-- Rows whose saves wait to be saved as one.
use Rattle.std.specs.Prelude.{◌≡◌, ◌⊎◌, ℕ, Bool, List, [], true, false, refl}
use Rattle.std.specs.Coded.{Coded, code_by, coded×, coded_ℕ, coded_bool, coded_list}
use Rattle.ballots.specs.contracts.number.Number as number
use Rattle.ballots.specs.contracts.row.Row as row
use Rattle.protocol.specs.Rows.{Row}
use Rattle.protocol.specs.Versions.{Version}
use Rattle.rows_saved.specs.declared.fault.RowsFault.{RowsFault}
use Rattle.rows_saved.specs.declared.fault.RowsFault.TheVariants.{Store, OutOfMemory}
use Rattle.rows_saved.specs.Saved.{AreFitting}
use Rattle.rows_saved.specs.declared.saves_all.SavesAll.{Ghosts}
use Rattle.rows_saved.specs.Groups.{ArePromised}

-- such rows, as clauses see them: the rows inside, which alone are stored, and those that wait, each with its number, in the order in which they were saved
pub record GroupedOf (R : Type 0) : Type 0 where
  pub rows : R
  pub waits : List (ℕ × Row)
  -- the last call on the rows inside was not refused
  pub answers : Bool
  -- how many calls were refused beside those that the rows inside refused
  pub refusals : ℕ

-- what a call that saves many rows shows, and what it tells however it ends
abbrev pub saving : {R : Type 0} → (R → R → List (ℕ × Row) → Type 0) → (R → R → List (ℕ × Row) → Type 0) → Ghosts R
saving stores leaves = record { stores = stores; leaves = leaves }

-- with other rows inside, which did not answer yet; nothing waits
abbrev pub with_inside : {R : Type 0} → GroupedOf R → R → GroupedOf R
with_inside s rows = record s { rows = rows; waits = []; answers = false }

-- its fields, one after another
abbrev pub grouped_code : {R : Type 0} → Coded R → Coded (GroupedOf R)
grouped_code {R} rows =
    code_by (R × (List (ℕ × Row) × (Bool × ℕ)))
    (coded× rows (coded× (coded_list (coded× number.the_row.coded row.the_row.coded)) (coded× coded_bool coded_ℕ)))
    (λ s. (s.rows, (s.waits, (s.answers, s.refusals))))
    (λ p. record { rows = p.0; waits = p.1.0; answers = p.1.1.0; refusals = p.1.1.1 })
    (λ _. refl)

-- the rows inside that answered are open, and what waits can be saved in them
pub record MayBeSaved (is_open : Type 0) (version : Version) (waits : List (ℕ × Row)) (answers : Bool) : Type 0 where
  pub opened : answers ≡ true → is_open
  pub fits : AreFitting version waits
  pub promised : ArePromised waits

-- a fault that is none of the rows inside
abbrev pub IsOwnFault : RowsFault → Type 0
IsOwnFault fault = (fault ≡ OutOfMemory) ⊎ (fault ≡ Store)

-- all that waited was saved in the rows inside, by one call; where nothing waited nothing was done
abbrev pub HasSavedGroup : {R : Type 0} → (R → R → List (ℕ × Row) → Type 0) → (R → R → List (ℕ × Row) → Type 0) → GroupedOf R → GroupedOf R → Type 0
HasSavedGroup stores leaves old new =
    ((old.waits ≡ []) × (new ≡ old)) ⊎ ((new.waits ≡ []) × stores old.rows new.rows old.waits × leaves old.rows new.rows old.waits)

-- the save of all that waited was refused, and nothing waits any more
abbrev pub HasTornGroup : {R : Type 0} → (R → R → List (ℕ × Row) → Type 0) → GroupedOf R → GroupedOf R → Type 0
HasTornGroup leaves old new = (new.waits ≡ []) × leaves old.rows new.rows old.waits
