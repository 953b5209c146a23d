-- The line since the last cut, and one frame more.
use Rattle.std.specs.Prelude.{◌≡◌, ◌≤◌, ◌<◌, ℕ, suc, List, [], ◌∷◌, ◌++◌, Option, Some, None, length, option_map, option_to_list, unwrap_or}
use Rattle.code_table.specs.Tables.{case_of}
use Rattle.code_table.specs.declared.case.Case.TheVariants as cases
use Rattle.code_table.specs.declared.meaning.Meaning.{Meaning}
use Rattle.code_table.specs.declared.meaning.Meaning.TheVariants as meanings
use Rattle.widths.specs.Widths.{WidthFile}
use Rattle.tape_frames.specs.Frames.{most_frames}
use Rattle.slug_reader.specs.declared.item.Item.{Item}
use Rattle.slug_reader.specs.declared.item.Rail.TheVariants as rails
use Rattle.slug_reader.specs.declared.line.Line.{Line}
use Rattle.slug_reader.specs.Positions.{first, or_else}
use Rattle.slug_reader.specs.Meanings.{Meanings, case_at, rail_at, meaning_at, rail_of, quad_of, item_of}
use Rattle.slug_reader.specs.Lines.{line_before, item_at, items_before, quad_before, line_number}
use Rattle.slug_reader.specs.Faults.{frame_flaw}
use Rattle.slug_reader.specs.Assembling.{line_cut}
use Rattle.line_check.specs.declared.fault.Cause.{Cause}
use Rattle.line_check.specs.declared.fault.Cause.TheVariants as causes
use Rattle.line_check.specs.declared.fault.SetFault.{SetFault}
use Rattle.line_check.specs.Slugs.{least_width, greatest_width, misfit, IsSlug}
use Rattle.line_check.specs.Sets.{cause_of, fault_at, set_fault_at}
use Rattle.line_fit.specs.declared.pending.Pending.{Pending}
use Rattle.line_fit.specs.declared.verdict.Verdict.{Verdict}
use Rattle.line_fit.specs.declared.verdict.Verdict.TheVariants.{Nothing, Faulty, Sets}
use Rattle.line_fit.specs.declared.verdict.LineFit.{LineFit}

-- what is kept at a position is what looking back from there gives
pub record Stands (means : Meanings) (widths : WidthFile) (tape : List ℕ) (i : ℕ) (p : Pending) : Type 0 where
  pub case : p.case ≡ case_at means tape i
  pub rail : p.rail ≡ rail_at means tape i
  pub items : p.items.items ≡ items_before means widths tape i
  pub quad : p.quad ≡ quad_before means tape i
  pub fault : p.fault ≡ first (set_fault_at means widths tape) (line_before means tape i)
  pub line : p.line ≡ line_number means tape i
  pub few : length p.items.items ≤ i
  pub short : p.line ≤ suc i

-- the same before the frame at a position of a tape is read
pub record StandsBefore (means : Meanings) (widths : WidthFile) (tape : List ℕ) (i : ℕ) (p : Pending) : Type 0 where
  -- there is such a frame
  pub within : i < length tape
  -- the tape is none that is too long
  pub short : length tape ≤ most_frames
  -- what is kept is what looking back gives
  pub stands : Stands means widths tape i p

-- what is kept at the start of a tape
pub record IsBegun (p : Pending) : Type 0 where
  -- unshift holds
  pub case : p.case ≡ cases.Unshift
  -- and the lower rail
  pub rail : p.rail ≡ rails.Lower
  -- the line is empty
  pub items : p.items.items ≡ []
  -- it has no quad
  pub quad : p.quad ≡ None
  -- nothing is wrong with it
  pub fault : p.fault ≡ None
  -- it is the first
  pub line : p.line ≡ 1

-- the cause for which a frame with this meaning cannot be read
abbrev pub cause_in : WidthFile → Option Meaning → Option Cause
cause_in widths m = option_map cause_of (frame_flaw widths m)

-- the same cause, by what goes into the line of the frame: a matrix of which nothing does has no width
abbrev pub cause_by : Option Meaning → Option Item → Option Cause
cause_by None item = Some causes.UnknownCode
cause_by (Some (meanings.Matrix name)) None = Some causes.NoWidth
cause_by (Some m) item = None

-- a cause at a position of the line of this number
abbrev pub fault_by : ℕ → ℕ → Cause → SetFault
fault_by at number cause = record { at = at; line = number; cause = cause }

-- what is kept after a frame that means m
pub record IsRead (widths : WidthFile) (at : ℕ) (m : Option Meaning) (old new : Pending) : Type 0 where
  pub case : new.case ≡ unwrap_or (case_of m) old.case
  pub rail : new.rail ≡ unwrap_or (rail_of m) old.rail
  pub items : new.items.items ≡ old.items.items ++ option_to_list (item_of widths old.rail m)
  pub quad : new.quad ≡ or_else (quad_of m) old.quad
  pub fault : new.fault ≡ or_else old.fault (option_map (fault_by at old.line) (cause_in widths m))
  pub line : new.line ≡ old.line

-- what is wrong with the frame at a position as it is read
abbrev pub read_fault : Meanings → WidthFile → List ℕ → ℕ → Option SetFault
read_fault means widths tape i = option_map (fault_at means tape i) (cause_in widths (meaning_at means tape i))

-- what is kept when the frame at a position was taken in, before its line is cut
pub record IsTaken (means : Meanings) (widths : WidthFile) (tape : List ℕ) (i : ℕ) (p : Pending) : Type 0 where
  pub case : p.case ≡ case_at means tape (suc i)
  pub rail : p.rail ≡ rail_at means tape (suc i)
  pub items : p.items.items ≡ items_before means widths tape i ++ option_to_list (item_at means widths tape i)
  pub quad : p.quad ≡ or_else (quad_of (meaning_at means tape i)) (quad_before means tape i)
  pub fault : p.fault ≡ or_else (first (set_fault_at means widths tape) (line_before means tape i)) (read_fault means widths tape i)
  pub line : p.line ≡ line_number means tape i
  pub few : length p.items.items ≤ suc i
  pub short : p.line ≤ suc i

-- why a line does not fit, if there is one
abbrev pub misfit_in : WidthFile → Option Line → Option Cause
misfit_in widths None = None
misfit_in widths (Some line) = misfit widths line

-- the fault, where there is an item
abbrev pub if_filled : List Item → SetFault → Option SetFault
if_filled [] fault = None
if_filled (item ∷ items) fault = Some fault

-- the fault of a line that is cut: that which it had before, else why it does not fit
abbrev pub cut_fault : WidthFile → Option SetFault → Option Line → ℕ → ℕ → Option SetFault
cut_fault widths fault line at number = or_else fault (option_map (fault_by at number) (misfit_in widths line))

-- what is said of a line that is cut
abbrev pub IsVerdictOf : WidthFile → Option Line → Option SetFault → Verdict → Type 0
IsVerdictOf widths line fault (Faulty told) = fault ≡ Some told
IsVerdictOf widths line fault Nothing = (fault ≡ None) × (line ≡ None)
IsVerdictOf widths line fault (Sets slug) = (fault ≡ None) × ((l : Line) × (line ≡ Some l) × IsSlug widths l slug)

-- how a line fits that is cut
pub record IsFitOf (widths : WidthFile) (p : Pending) (at : ℕ) (fit : LineFit) : Type 0 where
  pub place : fit.cut_at ≡ at
  pub line : fit.line ≡ line_cut p.items.items p.quad at
  pub least : fit.least ≡ least_width widths p.items.items
  pub greatest : fit.greatest ≡ greatest_width widths p.items.items
  pub verdict : IsVerdictOf widths (line_cut p.items.items p.quad at) (cut_fault widths p.fault (line_cut p.items.items p.quad at) at p.line) fit.verdict
