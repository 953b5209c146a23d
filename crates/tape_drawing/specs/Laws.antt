-- The laws of drawings.
use Rattle.std.specs.Prelude.{◌≡◌, ◌≤◌, ℕ, ◌+◌, List, [], ◌∷◌, Option, Some, None, length, map, filter_map}
use Rattle.widths.specs.Widths.{WidthFile}
use Rattle.slug_reader.specs.Positions.{before}
use Rattle.slug_reader.specs.Meanings.{Meanings, frame_at, meaning_at}
use Rattle.slug_reader.specs.declared.item.Item.{Item}
use Rattle.code_table.specs.declared.meaning.Meaning.{Meaning}
use Rattle.line_check.specs.declared.fault.Cause.{Cause}
use Rattle.line_check.specs.declared.fault.Cause.TheVariants as causes
use Rattle.line_check.specs.declared.fault.SetFault.{SetFault}
use Rattle.line_check.specs.declared.slug.Slug.{Slug}
use Rattle.line_check.specs.Slugs.{least_width, greatest_width}
use Rattle.line_fit.specs.declared.fitting.Fitting.{Fitting}
use Rattle.line_fit.specs.Fitting.{Fits}
use Rattle.tape_drawing.specs.declared.page.DrawingForm.{DrawingForm}
use Rattle.tape_drawing.specs.Lengths.{margin, right_edge}
use Rattle.tape_drawing.specs.Shapes.{Shape, Paper, Frame, Box, Bar, Gap, Mark, Words, Fitted, Open, Close}
use Rattle.tape_drawing.specs.Layout.{edge, IsFull}
use Rattle.tape_drawing.specs.Slugs.{pieces_shapes}
use Rattle.tape_drawing.specs.Lines.{unset_shapes, tape_shapes}

-- a frame as it is drawn: its position, its levels and what it means
pub record Drawn : Type 0 where
  pub at : ℕ
  pub frame : ℕ
  pub meaning : Option Meaning

-- what is drawn of a frame; the other elements are none
abbrev pub frame_drawn : Shape → Option Drawn
frame_drawn (Frame x y at frame meaning) = Some (record { at = at; frame = frame; meaning = meaning })
frame_drawn (Paper x y frames) = None
frame_drawn (Box look x y width) = None
frame_drawn (Bar x y) = None
frame_drawn (Gap x y width) = None
frame_drawn (Mark x y) = None
frame_drawn (Words style x y words) = None
frame_drawn (Fitted style x y length words) = None
frame_drawn (Open page number y height) = None
frame_drawn (Close page) = None

-- the frame at a position of a tape, with its levels and what it means there
abbrev pub drawn_at : Meanings → List ℕ → ℕ → Drawn
drawn_at means tape i = record { at = i; frame = frame_at tape i; meaning = meaning_at means tape i }

-- each frame of a tape is drawn once, in its order
abbrev pub FramesInOrder : Type 0
FramesInOrder =
    (page : DrawingForm) (means : Meanings) (widths : WidthFile) (tape : List ℕ) (fitting : Fitting) → Fits means widths tape fitting
    → filter_map frame_drawn (tape_shapes page means widths tape fitting) ≡ map (drawn_at means tape) (before (length tape))

-- the left edge and the width of a box; the other elements are none
abbrev pub box_span : Shape → Option (ℕ × ℕ)
box_span (Box look x y width) = Some (x, width)
box_span (Paper x y frames) = None
box_span (Frame x y at frame meaning) = None
box_span (Bar x y) = None
box_span (Gap x y width) = None
box_span (Mark x y) = None
box_span (Words style x y words) = None
box_span (Fitted style x y length words) = None
box_span (Open page number y height) = None
box_span (Close page) = None

-- the spans lie side by side from one place to another
abbrev pub Tiles : ℕ → ℕ → List (ℕ × ℕ) → Type 0
Tiles from to [] = from ≡ to
Tiles from to (span ∷ spans) = (span.0 ≡ from) × Tiles (from + span.1) to spans

-- the boxes of a slug add up to the measure: they lie side by side, from its left edge as far as its right edge
abbrev pub BoxesAddUp : Type 0
BoxesAddUp =
    (measure : ℕ) (top : ℕ) (slug : Slug) → 1 ≤ measure → IsFull measure slug → Tiles margin right_edge (filter_map box_span (pieces_shapes measure top slug))

-- the width of a line that does not set, as it is drawn: one that is loose at its greatest, else at its least
abbrev pub drawn_width : WidthFile → Cause → List Item → ℕ
drawn_width widths causes.UnknownCode line = least_width widths line
drawn_width widths causes.NoWidth line = least_width widths line
drawn_width widths causes.Unfinished line = least_width widths line
drawn_width widths (causes.Overset over) line = least_width widths line
drawn_width widths (causes.Loose under) line = greatest_width widths line

-- the boxes of a line that does not set add up to that: they lie side by side, from the left edge of a slug as far as it reaches
abbrev pub FaultyAddUp : Type 0
FaultyAddUp =
    (widths : WidthFile) (top : ℕ) (fault : SetFault) (line : List Item) → 1 ≤ widths.measure
    → Tiles margin (edge widths.measure (drawn_width widths fault.cause line)) (filter_map box_span (unset_shapes widths top fault line))
