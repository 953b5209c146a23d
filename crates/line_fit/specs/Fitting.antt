-- How each line of a tape fits, whatever is wrong with the others.
use Rattle.std.specs.Prelude.{◌≡◌, ℕ, List, [], ◌∷◌, ◌++◌, Option, Some, None, true, false, length}
use Rattle.widths.specs.Widths.{WidthFile}
use Rattle.slug_reader.specs.Positions.{first, or_else}
use Rattle.slug_reader.specs.Meanings.{Meanings}
use Rattle.slug_reader.specs.Lines.{is_cut, cuts, line_before, items_before, quad_before, line_of}
use Rattle.slug_reader.specs.Assembling.{line_cut}
use Rattle.line_check.specs.declared.fault.SetFault.{SetFault}
use Rattle.line_check.specs.Slugs.{least_width, greatest_width, IsSlug}
use Rattle.line_check.specs.Sets.{set_fault_at, end_fault, first_fault}
use Rattle.line_fit.specs.declared.verdict.Verdict.{Verdict}
use Rattle.line_fit.specs.declared.verdict.Verdict.TheVariants.{Nothing, Faulty, Sets}
use Rattle.line_fit.specs.declared.verdict.LineFit.{LineFit}
use Rattle.line_fit.specs.declared.fitting.Fitting.{Fitting}

-- the first fault of the line that is cut at a position: that of its first frame that cannot be read, else of the cut itself,
-- where the line does not fit
abbrev pub line_fault : Meanings → WidthFile → List ℕ → ℕ → Option SetFault
line_fault means widths tape cut = first (set_fault_at means widths tape) (line_before means tape cut ++ cut ∷ [])

-- the first fault of what stands behind the last cut of a tape: that of its first frame that cannot be read, else that it is
-- unfinished, where it has an item
abbrev pub rest_fault : Meanings → WidthFile → List ℕ → Option SetFault
rest_fault means widths tape = or_else (first (set_fault_at means widths tape) (line_before means tape (length tape))) (end_fault means widths tape)

-- what is said of the line that is cut at a position: its first fault; or that there is nothing to cast; or its slug
abbrev pub IsVerdict : Meanings → WidthFile → List ℕ → ℕ → Verdict → Type 0
IsVerdict means widths tape cut (Faulty fault) = line_fault means widths tape cut ≡ Some fault
IsVerdict means widths tape cut Nothing = (line_fault means widths tape cut ≡ None) × (items_before means widths tape cut ≡ [])
IsVerdict means widths tape cut (Sets slug) = (line_fault means widths tape cut ≡ None) × IsSlug widths (line_of means widths tape cut) slug

-- how the line fits that is cut at a position
pub record IsFit (means : Meanings) (widths : WidthFile) (tape : List ℕ) (cut : ℕ) (fit : LineFit) : Type 0 where
  pub place : fit.cut_at ≡ cut
  pub line : fit.line ≡ line_cut (items_before means widths tape cut) (quad_before means tape cut) cut
  pub least : fit.least ≡ least_width widths (items_before means widths tape cut)
  pub greatest : fit.greatest ≡ greatest_width widths (items_before means widths tape cut)
  pub verdict : IsVerdict means widths tape cut fit.verdict

-- how the line fits that a frame cuts, if it cuts one
abbrev pub IsFitAt : Meanings → WidthFile → List ℕ → ℕ → Option LineFit → Type 0
IsFitAt means widths tape i None = is_cut means tape i ≡ false
IsFitAt means widths tape i (Some fit) = (is_cut means tape i ≡ true) × IsFit means widths tape i fit

-- how each of the lines fits that are cut at these positions
abbrev pub AreFits : Meanings → WidthFile → List ℕ → List ℕ → List LineFit → Type 0
AreFits means widths tape [] [] = Unit {0}
AreFits means widths tape (cut ∷ cuts) (fit ∷ fits) = IsFit means widths tape cut fit × AreFits means widths tape cuts fits
AreFits means widths tape [] (fit ∷ fits) = ⊥
AreFits means widths tape (cut ∷ cuts) [] = ⊥

-- how a tape fits: each line that is cut, in order, and what stands behind the last
pub record Fits (means : Meanings) (widths : WidthFile) (tape : List ℕ) (fitting : Fitting) : Type 0 where
  pub lines : AreFits means widths tape (cuts means tape) fitting.lines.items
  pub rest : fitting.rest ≡ rest_fault means widths tape

-- the fault that a verdict tells
abbrev pub fault_in : Verdict → Option SetFault
fault_in (Faulty fault) = Some fault
fault_in Nothing = None
fault_in (Sets slug) = None

-- the first fault that a fitting tells
abbrev pub first_told : Fitting → Option SetFault
first_told fitting = or_else (first (λ fit. fault_in fit.verdict) fitting.lines.items) fitting.rest

-- the first fault that a fitting tells is the one that keeps the tape from being set
abbrev pub TellsFirst : Type 0
TellsFirst = (means : Meanings) (widths : WidthFile) (tape : List ℕ) (fitting : Fitting) → Fits means widths tape fitting → first_told fitting ≡ first_fault means widths tape
