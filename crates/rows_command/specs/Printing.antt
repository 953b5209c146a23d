-- What is written of rows as they come.
use Rattle.std.specs.Prelude.{◌≡◌, ℕ, List, [], Bool, true, false, Option, Some, None, Result, OnOk}
use Rattle.std.specs.Io.KnownBytes.{Appends}
use Rattle.protocol.specs.Rows.{Row}
use Rattle.streams.specs.Fronts.{AppendsFront}
use Rattle.rows_saved.specs.Saved.{Saved, IsListOf}
use Rattle.rows_saved.specs.declared.identity.Identity.{Identity}
use Rattle.streams.specs.declared.output.PutFault.{PutFault}
use Rattle.rows_command.specs.declared.printing.RowPrinter.{RowPrinter}
use Rattle.rows_command.specs.RowsText.{station_line, rows_text}

-- the line of the station, unless it stands there
abbrev pub head_text : Identity → Bool → List ℕ
head_text i true = []
head_text i false = station_line i

-- These rows came. With no fault they were written behind their station, or there was none and nothing was written; with one a front of that.
abbrev pub Prints : Identity → Option (List ℕ) → Option (List ℕ) → Bool → Option PutFault → List (ℕ × Row) → Type 0
Prints i old new begun (Some fault) rows = AppendsFront old new (rows_text i rows)
Prints i old new true None rows = Appends old new (rows_text i rows)
Prints i old new false None rows = (new ≡ old) × (rows ≡ [])

-- no row came, and nothing was written
abbrev pub PrintsNone : Identity → Option (List ℕ) → Bool → Option PutFault → Type 0
PrintsNone i contents begun fault = Prints i contents contents begun fault []

-- the printer writes where it wrote, of the same station, and where none had come before, these rows came
abbrev pub PrintsOn : {W : Type 0} → (W → Option (List ℕ)) → RowPrinter W → RowPrinter W → List (ℕ × Row) → Type 0
PrintsOn contents old new rows =
    (old.out.ghost_name ≡ new.out.ghost_name) × (new.station ≡ old.station)
    × ((old.begun ≡ false) × (old.fault ≡ None) → Prints old.station (contents old.out.now) (contents new.out.now) new.begun new.fault rows)

-- the rows that came are all of the map
abbrev pub PrintsAll : Saved → Identity → Option (List ℕ) → Option (List ℕ) → Bool → Type 0
PrintsAll saved i old new begun = (rows : List (ℕ × Row)) × IsListOf saved rows × Prints i old new begun None rows

-- so they are where the reading came to its end
abbrev pub PrintsAllWhereOk : {A E : Type 0} → Bool × Result A E → Saved → Identity → Option (List ℕ) → Option (List ℕ) → Type 0
PrintsAllWhereOk result saved i old new = OnOk result.1 (PrintsAll saved i old new result.0)
