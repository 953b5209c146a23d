-- What `draw` writes: the drawing of its three inputs, or what there is of it where it breaks off.
use Rattle.std.specs.Prelude.{◌≡◌, ◌⊎◌, ℕ, List, Option, Some, None, Result, Ok, IfSome}
use Rattle.std.specs.Io.KnownBytes.{Appends}
use Rattle.toml.specs.Parse.{parse_document}
use Rattle.code_table.specs.Tables.{Places, mean}
use Rattle.code_table.specs.Reading.{read_table}
use Rattle.widths.specs.Widths.{WidthFile}
use Rattle.widths.specs.Reading.{read_widths}
use Rattle.line_check.specs.declared.fault.SetFault.{SetFault}
use Rattle.streams.specs.Fronts.{AppendsFront}
use Rattle.tape_drawing.specs.declared.document.DrawingOrder.{DrawingOrder}
use Rattle.tape_drawing.specs.declared.page.DrawingForm.{DrawingForm}
use Rattle.tape_drawing.specs.Document.{Called, IsDrawing, IsDrawingBy}
use Rattle.command_ends.specs.declared.end.End.{End}
use Rattle.command_ends.specs.declared.end.End.TheVariants.{Done, Input}
use Rattle.command_ends.specs.declared.fault.Fault.{Fault}
use Rattle.command_ends.specs.Ends.{end_of, EndsAfter, IsOfInput}

-- a drawing that is asked for: what the files are called, their texts as far as they are known, and as what it is written
pub record ToDraw : Type 0 where
  pub called : Called
  pub table : Option (List ℕ)
  pub widths : Option (List ℕ)
  pub tape : Option (List ℕ)
  pub page : DrawingForm

-- the texts are a code table and a width file, and of the tape's drawing by them, which has this first fault or none, this was written
pub record IsDrawingOf (order : ToDraw) (table widths tape : List ℕ) (fault : Option SetFault) (IsWritten : List ℕ → Type 0) : Type 0 where
  pub places : Places
  pub file : WidthFile
  pub text : List ℕ
  pub is_table : read_table (parse_document table) ≡ Ok places
  pub is_widths : read_widths (parse_document widths) ≡ Ok file
  pub is_drawing : IsDrawing order.page (mean places) file tape order.called text fault
  pub wrote : IsWritten text

-- what holds of the texts of the three inputs, where these are known
abbrev pub IfKnown : ToDraw → (List ℕ → List ℕ → List ℕ → Type 0) → Type 0
IfKnown order P = IfSome order.table (λ ts. IfSome order.widths (λ ws. IfSome order.tape (λ xs. P ts ws xs)))

-- the drawing was written, all of it, of a tape with this first fault, or none
abbrev pub WasDrawn : ToDraw → Option SetFault → Option (List ℕ) → Option (List ℕ) → Type 0
WasDrawn order fault old new = IfKnown order (λ ts ws xs. IsDrawingOf order ts ws xs fault (Appends old new))

-- a command that breaks off: an input is not taken or memory is refused before anything is written, or the output took no
-- more than a front
abbrev pub BreaksOff : Type 0 → End → Option (List ℕ) → Option (List ℕ) → Type 0
BreaksOff WroteFront end old new = (IsOfInput end × (new ≡ old)) ⊎ ((end ≡ Input) × WroteFront)

-- the same, where this text was to be written
abbrev pub BreaksOffText : List ℕ → End → Option (List ℕ) → Option (List ℕ) → Type 0
BreaksOffText text end old new = BreaksOff (AppendsFront old new text) end old new

-- the drawing by an order was written, all of it, of a tape with this first fault, or none
pub record WasOrdered (order : DrawingOrder) (fault : Option SetFault) (old new : Option (List ℕ)) : Type 0 where
  pub text : List ℕ
  pub is_drawing : IsDrawingBy order text fault
  pub wrote : Appends old new text

-- where the drawing by an order was to be written
abbrev pub BreaksOffOrder : DrawingOrder → End → Option (List ℕ) → Option (List ℕ) → Type 0
BreaksOffOrder order end old new =
    BreaksOff ((fault : Option SetFault) × (text : List ℕ) × IsDrawingBy order text fault × AppendsFront old new text) end old new

-- how `draw` breaks off, and what it has written then
pub record BreaksOffDrawing (order : ToDraw) (end : End) (old new : Option (List ℕ)) : Type 0 where
  -- it is a fault of an input, or memory was refused
  pub ends : IsOfInput end
  -- nothing was written, or a front of the drawing
  pub wrote : IfKnown order (λ ts ws xs. BreaksOff ((fault : Option SetFault) × IsDrawingOf order ts ws xs fault (AppendsFront old new)) end old new)

-- the end once a drawing is written: a tape with a fault is one of an input
abbrev pub end_by : Option SetFault → End
end_by None = Done
end_by (Some fault) = Input

-- what `draw` has written at its end, by its cause
pub data Drew (order : ToDraw) (table widths tape : List ℕ) (end : End) (old new : Option (List ℕ)) : Type 0 where
  -- the tape sets, and its drawing was written
  Whole : end ≡ Done → IsDrawingOf order table widths tape None (Appends old new) → Drew order table widths tape end old new
  -- the tape has a fault, and was drawn whole
  Unset : (fault : SetFault) → end ≡ Input → IsDrawingOf order table widths tape (Some fault) (Appends old new) → Drew order table widths tape end old new
  -- an input is not taken, or memory was refused: nothing was written
  Unwritten : IsOfInput end → ¬ (end ≡ Done) → new ≡ old → Drew order table widths tape end old new
  -- the output can't be written: a front of the drawing was
  Cut : (fault : Option SetFault) → end ≡ Input → IsDrawingOf order table widths tape fault (AppendsFront old new) → Drew order table widths tape end old new

-- what `draw` does: how it ends, and what it has written then
pub record Draws (order : ToDraw) (end : End) (old new : Option (List ℕ)) : Type 0 where
  -- it ends well, by a fault of an input, or as memory was refused
  pub ends : IsOfInput end
  -- where it ends well, the drawing of a tape that sets was written
  pub done : end ≡ Done → WasDrawn order None old new
  -- what was written at each end
  pub cause : IfKnown order (λ ts ws xs. Drew order ts ws xs end old new)

-- however a command ends after this outcome, that is what `draw` does
abbrev pub DrawsBy : ToDraw → Result (Unit {0}) Fault → Option (List ℕ) → Option (List ℕ) → Type 0
DrawsBy order outcome old new = (end : End) → EndsAfter end_of outcome end → Draws order end old new
