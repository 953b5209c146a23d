-- How what is left is spread over the bands: each has this width, and the first ones a unit more.
use Rattle.std.specs.Prelude.{◌≡◌, ℕ, ◌+◌, ◌-◌, min, nat_lt, true, false, List, [], ◌∷◌, Option, Some, None, option_map}
use Rattle.slug_reader.specs.declared.item.Item.{Item}
use Rattle.slug_reader.specs.declared.item.Item.TheVariants as items
use Rattle.slug_reader.specs.declared.line.Line.{Line}
use Rattle.slug_reader.specs.Positions.{or_else}
use Rattle.widths.specs.Widths.{WidthFile}
use Rattle.line_check.specs.declared.sort.Sort.{Sort}
use Rattle.line_check.specs.declared.sort.Sort.TheVariants as sorts
use Rattle.line_check.specs.declared.fault.Cause.{Cause}
use Rattle.line_check.specs.declared.fault.Cause.TheVariants as causes
use Rattle.line_check.specs.declared.fault.LineFault.{LineFault}
use Rattle.line_check.specs.declared.fault.LineFault.TheVariants as faults
use Rattle.line_check.specs.Slugs.{misfit}

-- the sorts of a line whose bands have this width, the first so many of them a unit more
abbrev pub sorts_of : ℕ → ℕ → List Item → List Sort
sorts_of width wider [] = []
sorts_of width wider (items.Matrix name rail w ∷ rest) = sorts.Matrix name rail w ∷ sorts_of width wider rest
sorts_of width wider (items.Band ∷ rest) = sorts.Band (width + min wider 1) ∷ sorts_of width (wider - min wider 1) rest
sorts_of width wider (items.Space w ∷ rest) = sorts.Space w ∷ sorts_of width wider rest

-- a line fault says why the line does not fit; memory is wanted only where it does
abbrev pub IsMisfit : Option Cause → LineFault → Type 0
IsMisfit cause (faults.Overset over) = cause ≡ Some (causes.Overset over)
IsMisfit cause (faults.Loose under) = cause ≡ Some (causes.Loose under)
IsMisfit cause faults.OutOfMemory = cause ≡ None

-- this much of the measure is left beside a line of this least width
pub record IsRoomBeside (measure least room : ℕ) : Type 0 where
  pub fits : nat_lt measure least ≡ false
  pub whole : room + least ≡ measure

-- a line of this least width is overset, and this fault says by how much
pub record IsOversetBy (measure least : ℕ) (fault : LineFault) : Type 0 where
  pub over : nat_lt measure least ≡ true
  pub by : fault ≡ faults.Overset (least - measure)

-- the first line that does not fit: where it is cut, and why
abbrev pub misfit_among : WidthFile → List Line → Option (ℕ × Cause)
misfit_among widths [] = None
misfit_among widths (line ∷ lines) = or_else (option_map (λ cause. (line.elevate_at, cause)) (misfit widths line)) (misfit_among widths lines)
