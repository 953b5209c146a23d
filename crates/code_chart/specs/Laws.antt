-- The laws of charts.
use Rattle.std.specs.Prelude.{◌≡◌, ◌<◌, ℕ, List, map, Option, Some, None, is_none, ◌⊎◌, true}
use Rattle.code_table.specs.declared.case.Case.{Case}
use Rattle.code_table.specs.declared.case.Case.TheVariants as cases
use Rattle.code_table.specs.declared.meaning.Meaning.{Meaning}
use Rattle.code_table.specs.declared.meaning.Meaning.TheVariants as meanings
use Rattle.widths.specs.Widths.{WidthFile, width_of}
use Rattle.slug_reader.specs.Meanings.{Meanings}
use Rattle.slug_reader.specs.Positions.{before}
use Rattle.tape_drawing.specs.Meanings.{meaning_word}
use Rattle.code_chart.specs.declared.said.MeaningSpan.TheVariants as spans
use Rattle.code_chart.specs.Cells.{Said, Cell, cell, chart, tell}

-- a chart has each of the 64 combinations once, and in order
abbrev pub FramesInOrder : Type 0
FramesInOrder = (widths : WidthFile) (means : Meanings) → map (λ c. c.frame) (chart widths means) ≡ before 64

-- what a cell says in a case
abbrev pub in_case : Case → Cell → Option Said
in_case cases.Unshift c = c.unshift
in_case cases.Shift c = c.shift

-- a cell is without a meaning just where the table has none
abbrev pub NoneJustThere : Type 0
NoneJustThere =
    (widths : WidthFile) (means : Meanings) (case : Case) (frame : ℕ)
    → (in_case case (cell widths means frame) ≡ None → means case frame ≡ None) × (means case frame ≡ None → in_case case (cell widths means frame) ≡ None)

-- this is a matrix that the width file does not have
pub record IsWidthless (widths : WidthFile) (meaning : Meaning) : Type 0 where
  pub name : List ℕ
  pub is_matrix : meaning ≡ meanings.Matrix name
  pub is_absent : width_of widths name ≡ None

-- a meaning is told to lack a width just where it is such a matrix
abbrev pub LackingJustThere : Type 0
LackingJustThere =
    (widths : WidthFile) (means : Meanings) (frame : ℕ) (meaning : Meaning)
    → ((tell widths means frame meaning).span ≡ spans.Lacking → IsWidthless widths meaning)
    × (IsWidthless widths meaning → (tell widths means frame meaning).span ≡ spans.Lacking)

-- another frame has a meaning of the same word, in one of its cases
pub record IsShared (means : Meanings) (frame : ℕ) (meaning : Meaning) (other : ℕ) : Type 0 where
  pub within : other < 64
  pub is_other : ¬ (other ≡ frame)
  pub case : Case
  pub its : Meaning
  pub means_it : means case other ≡ Some its
  pub same : meaning_word (Some its) ≡ meaning_word (Some meaning)

-- a meaning is told to be shared with a frame only where that frame has it, and with none only where no frame has it
abbrev pub SharedJustThere : Type 0
SharedJustThere =
    (widths : WidthFile) (means : Meanings) (frame : ℕ) (meaning : Meaning)
    → ((other : ℕ) → (tell widths means frame meaning).twin ≡ Some other → IsShared means frame meaning other)
    × ((tell widths means frame meaning).twin ≡ None → (other : ℕ) → ¬ (IsShared means frame meaning other))
