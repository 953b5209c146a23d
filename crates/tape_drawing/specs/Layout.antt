-- The layout: where what stands. A slug is as wide as a whole row of frames.
use Rattle.std.specs.Prelude.{◌≡◌, ◌≤◌, ◌<◌, ℕ, ◌+◌, ◌-◌, ◌*◌, ◌/◌, ◌%◌, min, max, List, [], ◌∷◌, Option, Some, None, sum_by}
use Rattle.widths.specs.Widths.{WidthFile}
use Rattle.slug_reader.specs.declared.line.Line.{Line}
use Rattle.line_check.specs.declared.slug.Slug.{Slug}
use Rattle.line_check.specs.Slugs.{sort_width}
use Rattle.line_fit.specs.declared.verdict.Verdict.{Verdict}
use Rattle.line_fit.specs.declared.verdict.Verdict.TheVariants.{Nothing, Faulty, Sets}
use Rattle.line_fit.specs.declared.verdict.LineFit.{LineFit}
use Rattle.tape_drawing.specs.declared.elements.Point.{Point}
use Rattle.tape_drawing.specs.declared.layout.Spot.{Spot}
use Rattle.tape_drawing.specs.declared.layout.Stretch.{Stretch}
use Rattle.tape_drawing.specs.Lengths.{margin, measure_width, frame_width, row_frames, row_height, paper_top, cast_height, note_height, head_height, least_type, greatest_type}

-- the upper left corner of the paper of the k-th frame of a line, whose upper edge is at `top`
abbrev pub corner : ℕ → ℕ → Point
corner top k = record { x = margin + frame_width * (k % row_frames); y = top + row_height * (k / row_frames) + paper_top }

-- how high the rows of so many frames are
abbrev pub rows_height : ℕ → ℕ
rows_height frames = row_height * ((frames + (row_frames - 1)) / row_frames)

-- the edge that lies so many units of the measure from the left of a slug, rounded down to a whole user unit
abbrev pub edge : ℕ → ℕ → ℕ
edge measure units = margin + units * measure_width / measure

-- how far the right edge of a stretch lies from its left edge
abbrev pub across : Stretch → ℕ
across s = edge s.measure (s.from + s.width) - edge s.measure s.from

-- the size of the type in user units, so that its em is that of the widths; no more than the height of a slug
abbrev pub type_size : WidthFile → ℕ
type_size widths = max least_type (min greatest_type (widths.em * measure_width / widths.measure))

-- how high what stands below the frames of a line is: what is cast of it, or where nothing can be drawn a note
abbrev pub height_below : Verdict → Option Line → ℕ
height_below (Sets slug) line = cast_height
height_below Nothing line = note_height
height_below (Faulty fault) None = note_height
height_below (Faulty fault) (Some line) = cast_height

-- how many slugs a verdict has
abbrev pub slugs_in : Verdict → ℕ
slugs_in (Sets slug) = 1
slugs_in Nothing = 0
slugs_in (Faulty fault) = 0

-- how many faults
abbrev pub faults_in : Verdict → ℕ
faults_in (Faulty fault) = 1
faults_in Nothing = 0
faults_in (Sets slug) = 0

-- how many frames a line has that begins at a position, with the code that cuts it
abbrev pub frames_in : ℕ → LineFit → ℕ
frames_in from fit = fit.cut_at + 1 - from

-- how high a line is
abbrev pub line_height : ℕ → LineFit → ℕ
line_height from fit = rows_height (frames_in from fit) + height_below fit.verdict fit.line

-- where the line begins that follows another
abbrev pub next : Spot → LineFit → Spot
next spot fit = record {
  number = spot.number + 1;
  slug = spot.slug + slugs_in fit.verdict;
  faults = spot.faults + faults_in fit.verdict;
  from = fit.cut_at + 1;
  top = spot.top + line_height spot.from fit;
}

-- where the line begins that follows these
abbrev pub after : Spot → List LineFit → Spot
after spot [] = spot
after spot (fit ∷ fits) = after (next spot fit) fits

-- where the first line begins, below the head
abbrev pub first_spot : Spot
first_spot = record { number = 1; slug = 1; faults = 0; from = 0; top = head_height }

-- a spot lies no lower than the frames before it need
pub record IsWithin (end : ℕ) (spot : Spot) : Type 0 where
  pub from : spot.from ≤ end
  pub some_lines : 1 ≤ spot.number
  pub some_slugs : 1 ≤ spot.slug
  pub number : spot.number ≤ spot.from + 1
  pub slug : spot.slug ≤ spot.from + 1
  pub faults : spot.faults ≤ spot.from
  pub top : spot.top ≤ head_height + (row_height + cast_height) * spot.from

-- left, items and right of a slug add up to the measure
abbrev pub IsFull : ℕ → Slug → Type 0
IsFull measure slug = slug.left + sum_by sort_width slug.items + slug.right ≡ measure

-- the slug of a verdict fills the measure, where it has one
abbrev pub IsFilled : ℕ → Verdict → Type 0
IsFilled measure (Sets slug) = IsFull measure slug
IsFilled measure Nothing = Unit {0}
IsFilled measure (Faulty fault) = Unit {0}

-- lines one after the other: each is cut behind where it begins and before the end, and its slug fills the measure
abbrev pub AreLines : ℕ → ℕ → ℕ → List LineFit → Type 0
AreLines measure end from [] = Unit {0}
AreLines measure end from (fit ∷ fits) =
    ((from ≤ fit.cut_at) × (fit.cut_at < end) × IsFilled measure fit.verdict) × AreLines measure end (fit.cut_at + 1) fits
