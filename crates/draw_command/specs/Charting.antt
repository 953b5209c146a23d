-- What `chart` writes: the chart of its two inputs, or what there is of it where it breaks off.
use Rattle.std.specs.Prelude.{◌≡◌, ℕ, List, Option, Result, Ok, IfSome}
use Rattle.std.specs.Io.KnownBytes.{Appends}
use Rattle.toml.specs.Parse.{parse_document}
use Rattle.code_table.specs.Tables.{Places, mean}
use Rattle.code_table.specs.Reading.{read_table}
use Rattle.widths.specs.Widths.{WidthFile}
use Rattle.widths.specs.Reading.{read_widths}
use Rattle.streams.specs.Fronts.{AppendsFront}
use Rattle.tape_drawing.specs.declared.page.DrawingForm.{DrawingForm}
use Rattle.code_chart.specs.Document.{chart_text}
use Rattle.command_ends.specs.declared.end.End.{End}
use Rattle.command_ends.specs.declared.end.End.TheVariants.{Done, Input}
use Rattle.command_ends.specs.declared.fault.Fault.{Fault}
use Rattle.command_ends.specs.Ends.{end_of, EndsAfter, IsOfInput}

-- a chart that is asked for: what the files are called, their texts as far as they are known, and as what it is written
pub record ToChart : Type 0 where
  pub table_name : List ℕ
  pub widths_name : List ℕ
  pub table : Option (List ℕ)
  pub widths : Option (List ℕ)
  pub page : DrawingForm

-- the texts are a code table and a width file, and this is their chart, under the names of the two
pub record IsChart (order : ToChart) (table widths : List ℕ) (text : List ℕ) : Type 0 where
  pub places : Places
  pub file : WidthFile
  pub is_table : read_table (parse_document table) ≡ Ok places
  pub is_widths : read_widths (parse_document widths) ≡ Ok file
  pub is_text : text ≡ chart_text order.page file (mean places) order.table_name order.widths_name

-- what holds of the texts of both inputs, where these are known
abbrev pub IfBoth : ToChart → (List ℕ → List ℕ → Type 0) → Type 0
IfBoth order P = IfSome order.table (λ ts. IfSome order.widths (λ ws. P ts ws))

-- a text is the chart that is asked for
abbrev pub IsCharted : ToChart → List ℕ → Type 0
IsCharted order text = IfBoth order (λ ts ws. IsChart order ts ws text)

-- what `chart` has written at its end, by its cause
pub data Charted (order : ToChart) (table widths : List ℕ) (end : End) (old new : Option (List ℕ)) : Type 0 where
  -- the chart was written, all of it
  Whole : (text : List ℕ) → end ≡ Done → IsChart order table widths text → Appends old new text → Charted order table widths end old new
  -- an input is not taken, or memory was refused: nothing was written
  Unwritten : IsOfInput end → ¬ (end ≡ Done) → new ≡ old → Charted order table widths end old new
  -- the output can't be written: a prefix of the chart was
  Cut : (text : List ℕ) → end ≡ Input → IsChart order table widths text → AppendsFront old new text → Charted order table widths end old new

-- what `chart` does: how it ends, and what it has written then
pub record Charts (order : ToChart) (end : End) (old new : Option (List ℕ)) : Type 0 where
  -- it ends well, by a fault of an input, or as memory was refused
  pub ends : IsOfInput end
  -- what was written at each end
  pub cause : IfBoth order (λ ts ws. Charted order ts ws end old new)

-- however a command ends after this outcome, that is what `chart` does
abbrev pub ChartsBy : ToChart → Result (Unit {0}) Fault → Option (List ℕ) → Option (List ℕ) → Type 0
ChartsBy order outcome old new = (end : End) → EndsAfter end_of outcome end → Charts order end old new
