-- The lines of a tape, one below the other: of each its frames, and right below them what is cast of it.
use Rattle.std.specs.Prelude.{◌≡◌, ◌<◌, ◌≤◌, ◌^◌, ℕ, ◌+◌, ◌-◌, List, [], ◌∷◌, ◌++◌, Option, Some, None, codes, decimal, length, nat_lt, ◌==◌, if◌then◌else◌}
use Rattle.tape_frames.specs.Frames.{IsTape}
use Rattle.code_table.specs.Tables.{mean}
use Rattle.widths.specs.Widths.{WidthFile}
use Rattle.slug_reader.specs.declared.item.Item.{Item}
use Rattle.slug_reader.specs.declared.line.Line.{Line}
use Rattle.slug_reader.specs.Meanings.{Meanings, case_at}
use Rattle.line_check.specs.declared.fault.Cause.{Cause}
use Rattle.line_check.specs.declared.fault.Cause.TheVariants as causes
use Rattle.line_check.specs.declared.fault.SetFault.{SetFault}
use Rattle.line_check.specs.declared.slug.Slug.{Slug}
use Rattle.line_check.specs.Galley.{kind_text}
use Rattle.line_fit.specs.declared.verdict.Verdict.{Verdict}
use Rattle.line_fit.specs.declared.verdict.Verdict.TheVariants.{Nothing, Faulty, Sets}
use Rattle.line_fit.specs.declared.verdict.LineFit.{LineFit}
use Rattle.line_fit.specs.declared.fitting.Fitting.{Fitting}
use Rattle.line_fit.specs.Fitting.{fault_in}
use Rattle.tape_drawing.specs.declared.elements.Style.{Style}
use Rattle.tape_drawing.specs.declared.elements.Style.TheVariants as styles
use Rattle.tape_drawing.specs.declared.page.DrawingForm.{DrawingForm}
use Rattle.tape_drawing.specs.declared.layout.Spot.{Spot}
use Rattle.tape_drawing.specs.declared.lines.DrawingPlan.{DrawingPlan}
use Rattle.tape_drawing.specs.declared.lines.Reached.{Reached}
use Rattle.tape_drawing.specs.declared.lines.Taped.{Taped}
use Rattle.tape_drawing.specs.Lengths.{margin, number_right, number_foot, outline_rise, kind_foot, behind_right, behind_foot, note_height, note_foot}
use Rattle.tape_drawing.specs.Shapes.{Shape, Bar, Mark, Words, Open, Close}
use Rattle.tape_drawing.specs.Layout.{corner, rows_height, frames_in, line_height, next, after, first_spot, IsFilled, IsWithin, AreLines}
use Rattle.tape_drawing.specs.Frames.{strip_shapes}
use Rattle.tape_drawing.specs.Slugs.{pieces_shapes, filled_shapes}

-- the words of a cause
abbrev pub cause_words : Cause → List ℕ
cause_words causes.UnknownCode = codes "unknown-code"
cause_words causes.NoWidth = codes "no-width"
cause_words causes.Unfinished = codes "unfinished"
cause_words (causes.Overset over) = codes "overset " ++ decimal over
cause_words (causes.Loose under) = codes "loose " ++ decimal under

-- the words of a fault: its cause and its position
abbrev pub fault_words : SetFault → List ℕ
fault_words fault = cause_words fault.cause ++ (codes " at " ++ decimal fault.at)

-- how wide the bands of a line are drawn that does not set: in one that is loose at their greatest, else at their least
abbrev pub band_in : WidthFile → Cause → ℕ
band_in widths causes.UnknownCode = widths.band_min
band_in widths causes.NoWidth = widths.band_min
band_in widths causes.Unfinished = widths.band_min
band_in widths (causes.Overset over) = widths.band_min
band_in widths (causes.Loose under) = widths.band_max

-- the number of a slug and the letter of its kind
abbrev pub kind_words : ℕ → Slug → List ℕ
kind_words number slug = decimal number ++ (codes " " ++ kind_text slug.kind ∷ [])

-- a slug: its number, its kind and its pieces
abbrev pub slug_shapes : ℕ → ℕ → ℕ → Slug → List Shape
slug_shapes measure top number slug = Words styles.Kind number_right (top + kind_foot) (kind_words number slug) ∷ pieces_shapes measure top slug

-- the items of a line with this fault, with the bands of its cause, the gap behind them, and the fault
abbrev pub unset_pieces : WidthFile → ℕ → SetFault → List Item → List Shape
unset_pieces widths top fault line =
    filled_shapes widths.measure top (band_in widths fault.cause) line ++ Words styles.Behind behind_right (top + behind_foot) (fault_words fault) ∷ []

-- what is drawn of a line with these items and this fault: the bar of a slug, and them
abbrev pub unset_shapes : WidthFile → ℕ → SetFault → List Item → List Shape
unset_shapes widths top fault line = Bar margin top ∷ unset_pieces widths top fault line

-- what stands below the frames of a line: its slug; what there is of one that does not set; or that there is nothing to cast
abbrev pub foot_shapes : WidthFile → ℕ → ℕ → Verdict → Option Line → List Shape
foot_shapes widths number top (Sets slug) line = slug_shapes widths.measure top number slug
foot_shapes widths number top Nothing line = Words styles.Note margin (top + note_foot) (codes "nothing to cast") ∷ []
foot_shapes widths number top (Faulty fault) None = Words styles.Fault margin (top + note_foot) (fault_words fault) ∷ []
foot_shapes widths number top (Faulty fault) (Some line) = unset_shapes widths top fault line.items

-- the mark of a fault, in a line that begins at this position and below this edge
abbrev pub mark_shapes : ℕ → ℕ → Option SetFault → List Shape
mark_shapes from top None = []
mark_shapes from top (Some fault) = Mark (corner top (fault.at - from)).x ((corner top (fault.at - from)).y - outline_rise) ∷ []

-- how the number of a line looks: red where it does not set
abbrev pub number_style : Option SetFault → ℕ → Style
number_style None faults = styles.Line
number_style (Some fault) faults = if faults == 0 then styles.FirstFaulty else styles.Faulty

-- the number of a line that begins here
abbrev pub number_shape : Spot → Option SetFault → Shape
number_shape spot fault = Words (number_style fault spot.faults) number_right (spot.top + number_foot) (decimal spot.number)

-- the number of a line, its frames, and the mark of its fault
abbrev pub taped_shapes : Meanings → List ℕ → Spot → ℕ → Option SetFault → List Shape
taped_shapes means tape spot frames fault =
    number_shape spot fault
    ∷ (strip_shapes means tape spot.from frames spot.top ++ mark_shapes spot.from spot.top fault)

-- a line: its number, its frames, the mark of its fault, and what stands below them
abbrev pub line_shapes : DrawingForm → Meanings → WidthFile → List ℕ → Spot → LineFit → List Shape
line_shapes page means widths tape spot fit =
    Open page spot.number spot.top (line_height spot.from fit)
    ∷ (taped_shapes means tape spot (frames_in spot.from fit) (fault_in fit.verdict)
    ++ (foot_shapes widths spot.slug (spot.top + rows_height (frames_in spot.from fit)) fit.verdict fit.line ++ Close page ∷ []))

-- lines, each below the one before it
abbrev pub lines_shapes : DrawingForm → Meanings → WidthFile → List ℕ → Spot → List LineFit → List Shape
lines_shapes page means widths tape spot [] = []
lines_shapes page means widths tape spot (fit ∷ fits) =
    line_shapes page means widths tape spot fit ++ lines_shapes page means widths tape (next spot fit) fits

-- how high the frames behind the last cut are, with room for a mark behind them, and what is said of them
abbrev pub rest_height : ℕ → ℕ
rest_height frames = rows_height (frames + 1) + note_height

-- what is said of the frames behind the last cut
abbrev pub rest_words : ℕ → Option SetFault → Shape
rest_words top None = Words styles.Note margin (top + note_foot) (codes "nothing to cast")
rest_words top (Some fault) = Words styles.Fault margin (top + note_foot) (fault_words fault)

-- the frames behind the last cut, where there are any
abbrev pub rest_shapes : DrawingForm → Meanings → List ℕ → Spot → Option SetFault → List Shape
rest_shapes page means tape spot fault =
    if nat_lt spot.from (length tape)
    then Open page spot.number spot.top (rest_height (length tape - spot.from))
    ∷ (taped_shapes means tape spot (length tape - spot.from) fault
    ++ (rest_words (spot.top + rows_height (length tape - spot.from + 1)) fault ∷ Close page ∷ []))
    else []

-- all that is drawn of a tape: its lines, and what stands behind the last
abbrev pub tape_shapes : DrawingForm → Meanings → WidthFile → List ℕ → Fitting → List Shape
tape_shapes page means widths tape fitting =
    lines_shapes page means widths tape first_spot fitting.lines.items ++ rest_shapes page means tape (after first_spot fitting.lines.items) fitting.rest

-- the case that is reached is the one that holds where the next frame stands
abbrev pub HoldsHere : DrawingPlan → Reached → Type 0
HoldsHere plan reached = reached.case ≡ case_at (mean plan.table.now) plan.tape.now reached.spot.from

-- the frames of a line stand on the tape that is drawn, its upper edge is not far down, and this case holds at the first
pub record IsTaped (plan : DrawingPlan) (taped : Taped) : Type 0 where
  pub tape : IsTape plan.tape.now
  pub within : taped.spot.from + taped.frames ≤ length plan.tape.now
  pub top : taped.spot.top ≤ 2 ^ 40
  pub holds : taped.case ≡ case_at (mean plan.table.now) plan.tape.now taped.spot.from

-- a line is cut on the tape that is drawn, behind what is reached, and its slug fills the measure
pub record IsLineOf (plan : DrawingPlan) (reached : Reached) (fit : LineFit) : Type 0 where
  pub tape : IsTape plan.tape.now
  pub filled : IsFilled plan.widths.now.measure fit.verdict
  pub from : reached.spot.from ≤ fit.cut_at
  pub cut : fit.cut_at < length plan.tape.now
  pub top : reached.spot.top ≤ 2 ^ 40
  pub holds : HoldsHere plan reached

-- what is reached behind the lines is on the tape that is drawn
pub record IsBehindLines (plan : DrawingPlan) (reached : Reached) : Type 0 where
  pub tape : IsTape plan.tape.now
  pub within : IsWithin (length plan.tape.now) reached.spot
  pub holds : HoldsHere plan reached

-- these are lines of the tape that is drawn
pub record AreLinesOf (plan : DrawingPlan) (lines : List LineFit) : Type 0 where
  pub tape : IsTape plan.tape.now
  pub lines_fit : AreLines plan.widths.now.measure (length plan.tape.now) 0 lines

-- what is drawn of a line by a plan
abbrev pub line_by : DrawingPlan → Spot → LineFit → List Shape
line_by plan spot fit = line_shapes plan.page (mean plan.table.now) plan.widths.now plan.tape.now spot fit

-- what is drawn of lines
abbrev pub lines_by : DrawingPlan → List LineFit → List Shape
lines_by plan lines = lines_shapes plan.page (mean plan.table.now) plan.widths.now plan.tape.now first_spot lines

-- what is drawn of a tape
abbrev pub tape_by : DrawingPlan → Fitting → List Shape
tape_by plan fitting = tape_shapes plan.page (mean plan.table.now) plan.widths.now plan.tape.now fitting
