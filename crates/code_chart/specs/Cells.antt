-- What a chart says of the combinations of a code table.
use Rattle.std.specs.Prelude.{ℕ, List, Bool, false, true, ◌||◌, Option, Some, None, map, option_map, ◌==◌, if◌then◌else◌}
use Rattle.std.specs.Str.{bytes_eq}
use Rattle.code_table.specs.declared.case.Case.TheVariants as cases
use Rattle.code_table.specs.declared.meaning.Meaning.{Meaning}
use Rattle.code_table.specs.declared.meaning.Meaning.TheVariants as meanings
use Rattle.widths.specs.Widths.{WidthFile, width_of}
use Rattle.slug_reader.specs.Meanings.{Meanings}
use Rattle.slug_reader.specs.Positions.{before, first}
use Rattle.tape_drawing.specs.Meanings.{meaning_word}
use Rattle.code_chart.specs.declared.said.MeaningSpan.{MeaningSpan}
use Rattle.code_chart.specs.declared.said.MeaningSpan.TheVariants as spans
use Rattle.code_chart.specs.declared.said.MeaningNote.{MeaningNote}

-- a matrix is as wide as the file says, or lacks a width
abbrev pub matrix_span : Option ℕ → MeaningSpan
matrix_span None = spans.Lacking
matrix_span (Some width) = spans.Units width

-- how wide what a meaning puts into a line is
abbrev pub span_of : WidthFile → Meaning → MeaningSpan
span_of widths (meanings.Matrix name) = matrix_span (width_of widths name)
span_of widths meanings.Spaceband = spans.Between widths.band_min widths.band_max
span_of widths meanings.Thin = spans.Units widths.thin
span_of widths meanings.En = spans.Units widths.en
span_of widths meanings.Em = spans.Units widths.em
span_of widths _ = spans.Nothing

-- a meaning has this word in the table
abbrev pub has_word : Option Meaning → List ℕ → Bool
has_word None word = false
has_word (Some meaning) word = bytes_eq (meaning_word (Some meaning)) word

-- a frame has a meaning with this word, in either case
abbrev pub means_word : Meanings → List ℕ → ℕ → Bool
means_word means word frame = has_word (means cases.Unshift frame) word || has_word (means cases.Shift frame) word

-- another frame, where it has a meaning with this word
abbrev pub twin_at : Meanings → ℕ → List ℕ → ℕ → Option ℕ
twin_at means frame word other = if other == frame then None else if means_word means word other then Some other else None

-- all combinations, in order
unfoldable pub all_frames : List ℕ
all_frames = before 64

-- the first other frame with this word
abbrev pub twin_of : Meanings → ℕ → List ℕ → Option ℕ
twin_of means frame word = first (twin_at means frame word) all_frames

-- what is told of a meaning that a frame has
abbrev pub tell : WidthFile → Meanings → ℕ → Meaning → MeaningNote
tell widths means frame meaning = record { span = span_of widths meaning; twin = twin_of means frame (meaning_word (Some meaning)) }

-- what a chart says of a meaning, where there is one
pub record Said : Type 0 where
  pub meaning : Meaning
  pub told : MeaningNote

-- that of a meaning that a frame has
abbrev pub said : WidthFile → Meanings → ℕ → Meaning → Said
said widths means frame meaning = record { meaning = meaning; told = tell widths means frame meaning }

-- a cell: a combination, and what is said of both its meanings
pub record Cell : Type 0 where
  pub frame : ℕ
  pub unshift : Option Said
  pub shift : Option Said

-- the cell of a combination, by a table and widths
abbrev pub cell : WidthFile → Meanings → ℕ → Cell
cell widths means frame = record {
  frame = frame;
  unshift = option_map (said widths means frame) (means cases.Unshift frame);
  shift = option_map (said widths means frame) (means cases.Shift frame);
}

-- a chart: the cell of each combination
abbrev pub chart : WidthFile → Meanings → List Cell
chart widths means = map (cell widths means) all_frames
