-- The frames of a line: where each is drawn, with its holes and what it means.
use Rattle.std.specs.Prelude.{◌≡◌, ◌<◌, ◌≤◌, ◌^◌, length, ℕ, ◌+◌, ◌-◌, ◌%◌, min, List, [], ◌∷◌, ◌++◌, decimal, flat_map, ◌==◌, if◌then◌else◌}
use Rattle.tape_frames.specs.Frames.{most_frames, AreFrames}
use Rattle.code_table.specs.Tables.{mean}
use Rattle.code_table.specs.declared.case.Case.{Case}
use Rattle.slug_reader.specs.Positions.{before}
use Rattle.slug_reader.specs.Meanings.{Meanings, frame_at, case_at, meaning_at}
use Rattle.tape_drawing.specs.declared.elements.Point.{Point}
use Rattle.tape_drawing.specs.declared.elements.Style.TheVariants as styles
use Rattle.tape_drawing.specs.declared.frames.Strip.{Strip}
use Rattle.tape_drawing.specs.Lengths.{frame_middle, row_frames, position_rise}
use Rattle.tape_drawing.specs.Shapes.{Shape, Paper, Frame, Words}
use Rattle.tape_drawing.specs.Layout.{corner}

-- the paper of a row, at its first frame, as wide as the frames of the row: the k-th of a line of so many
abbrev pub paper_shapes : ℕ → ℕ → Point → List Shape
paper_shapes k frames at = if k % row_frames == 0 then Paper at.x at.y (min (frames - k) row_frames) ∷ [] else []

-- the position of every tenth frame of the tape, from 0, above it
abbrev pub position_shapes : ℕ → Point → List Shape
position_shapes i at = if i % 10 == 0 then Words styles.Position (at.x + frame_middle) (at.y - position_rise) (decimal i) ∷ [] else []

-- what stands above the k-th frame of a line: the paper of its row, and its position
abbrev pub above_shapes : ℕ → ℕ → ℕ → ℕ → List Shape
above_shapes from frames top k = paper_shapes k frames (corner top k) ++ position_shapes (from + k) (corner top k)

-- that frame alone
abbrev pub kth_frame : Meanings → List ℕ → ℕ → ℕ → ℕ → Shape
kth_frame means tape from top k = Frame ((corner top k).x + frame_middle) (corner top k).y (from + k) (frame_at tape (from + k)) (meaning_at means tape (from + k))

-- the k-th frame of a line of so many that begins at a position, below an upper edge
abbrev pub frame_shapes : Meanings → List ℕ → ℕ → ℕ → ℕ → ℕ → List Shape
frame_shapes means tape from frames top k =
    above_shapes from frames top k ++ kth_frame means tape from top k ∷ []

-- the frames of a line of so many that begins at a position, in order
abbrev pub strip_shapes : Meanings → List ℕ → ℕ → ℕ → ℕ → List Shape
strip_shapes means tape from frames top = flat_map (frame_shapes means tape from frames top) (before frames)

-- the frames of a strip stand on its tape, which is no longer than a tape may be, and its upper edge is not far down
pub record IsStrip (s : Strip) : Type 0 where
  pub within : s.from + s.frames ≤ length s.tape.now
  pub few : length s.tape.now ≤ most_frames
  pub small : AreFrames s.tape.now
  pub top : s.top ≤ 2 ^ 40

-- this case holds at the k-th frame of a strip
pub record HoldsAtKth (s : Strip) (k : ℕ) (case : Case) : Type 0 where
  pub strip : IsStrip s
  pub inside : k < s.frames
  pub holds : case ≡ case_at (mean s.table.now) s.tape.now (s.from + k)

-- the k-th frame of a strip, alone
abbrev pub alone_in : Strip → ℕ → Shape
alone_in s k = kth_frame (mean s.table.now) s.tape.now s.from s.top k

-- the same with what stands above it
abbrev pub kth_in : Strip → ℕ → List Shape
kth_in s k = frame_shapes (mean s.table.now) s.tape.now s.from s.frames s.top k

-- all frames of a strip
abbrev pub strip_in : Strip → List Shape
strip_in s = strip_shapes (mean s.table.now) s.tape.now s.from s.frames s.top
