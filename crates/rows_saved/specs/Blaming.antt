-- What rows that can be armed say of a refusal: they were armed for it, or the rows inside refused.
use Rattle.std.specs.Prelude.{◌≡◌, ◌⊎◌, ℕ, None, Some, true, false}
use Rattle.protocol.specs.Rows.{Row}
use Rattle.protocol.specs.Versions.{Two}
use Rattle.rows_saved.specs.Saved.{WithRow, Rises}
use Rattle.rows_saved.specs.declared.balky.Balky.{Balky}
use Rattle.rows_saved.specs.declared.rows.Rows.{Ghosts}

-- the row is saved in the rows inside, or they refused it too
abbrev pub IsSavedOrRefused : {R : Type 0} → Ghosts R → R → R → ℕ → Row → Type 0
IsSavedOrRefused g old new number row =
    (g.kept new → WithRow (g.saved old) number row (g.saved new)) ⊎ (Rises (g.refusals old) (g.refusals new) × g.tells old new number row)

-- a refused save leaves them unarmed: armed as unsaved they passed nothing on, unarmed they tell what the rows inside do, and armed as saved the save was passed on
abbrev pub TellsArming : {R : Type 0} → Ghosts R → Balky R → Balky R → ℕ → Row → Type 0
TellsArming g old new number row =
    (new.armed ≡ None)
    × (old.armed ≡ Some false → new.rows ≡ old.rows)
    × (old.armed ≡ None → g.tells old.rows new.rows number row)
    × (old.armed ≡ Some true → IsSavedOrRefused g old.rows new.rows number row)

-- the rows inside are at version 2, or they refused the upgrade too
abbrev pub IsUpgradedOrRefused : {R : Type 0} → Ghosts R → R → R → Type 0
IsUpgradedOrRefused g old new = (g.version new ≡ Two) ⊎ (Rises (g.refusals old) (g.refusals new) × g.balks old new)

-- a refused upgrade leaves them unarmed: armed as unsaved they passed nothing on, unarmed they tell what the rows inside do, and armed as saved the upgrade was passed on
abbrev pub BalksArming : {R : Type 0} → Ghosts R → Balky R → Balky R → Type 0
BalksArming g old new =
    (new.armed ≡ None)
    × (old.armed ≡ Some false → new.rows ≡ old.rows)
    × (old.armed ≡ None → g.balks old.rows new.rows)
    × (old.armed ≡ Some true → IsUpgradedOrRefused g old.rows new.rows)
