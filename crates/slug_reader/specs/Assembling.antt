-- One step of the assembler: what a frame does to the line, as a function of what is kept.
use Rattle.std.specs.Prelude.{◌≡◌, ℕ, List, [], ◌∷◌, ◌++◌, Option, Some, None, unwrap_or, option_to_list, true, false}
use Rattle.code_table.specs.declared.meaning.Meaning.{Meaning}
use Rattle.widths.specs.Widths.{WidthFile}
use Rattle.slug_reader.specs.declared.item.Item.{Item}
use Rattle.slug_reader.specs.declared.line.Quad.{Quad}
use Rattle.slug_reader.specs.declared.line.Line.{Line}
use Rattle.slug_reader.specs.declared.assembler.Assembler.{Assembler}
use Rattle.slug_reader.specs.declared.assembler.Taken.{Taken}
use Rattle.slug_reader.specs.declared.assembler.Taken.TheVariants.{Kept, Cut, Flawed}
use Rattle.slug_reader.specs.Positions.{or_else}
use Rattle.slug_reader.specs.Meanings.{Meanings, selected_by, rail_of, quad_of, is_elevate, item_of, case_at, rail_at}
use Rattle.slug_reader.specs.Lines.{items_before, quad_before}
use Rattle.slug_reader.specs.Faults.{frame_flaw}

-- what is kept after a frame that means m
pub record Keeps (means : Meanings) (widths : WidthFile) (frame : ℕ) (m : Option Meaning) (old new : Assembler) : Type 0 where
  pub fine : frame_flaw widths m ≡ None
  pub case : new.case ≡ unwrap_or (selected_by means frame) old.case
  pub rail : new.rail ≡ unwrap_or (rail_of m) old.rail
  pub items : new.items.items ≡ old.items.items ++ option_to_list (item_of widths old.rail m)
  pub quad : new.quad ≡ or_else (quad_of m) old.quad

-- what a frame does: it is faulty, it is kept, or it cuts the line
abbrev pub Takes : Meanings → WidthFile → ℕ → Assembler → Assembler → Taken → Type 0
Takes means widths frame old new (Flawed flaw) = frame_flaw widths (means old.case frame) ≡ Some flaw
Takes means widths frame old new Kept = Keeps means widths frame (means old.case frame) old new × (is_elevate (means old.case frame) ≡ false)
Takes means widths frame old new Cut = Keeps means widths frame (means old.case frame) old new × (is_elevate (means old.case frame) ≡ true)

-- the line that is cut, if it has an item
abbrev pub line_cut : List Item → Option Quad → ℕ → Option Line
line_cut [] quad at = None
line_cut (item ∷ rest) quad at = Some (record { items = item ∷ rest; quad = quad; elevate_at = at })

-- what is kept is what looking back from the position gives
pub record Stands (means : Meanings) (widths : WidthFile) (tape : List ℕ) (i : ℕ) (a : Assembler) : Type 0 where
  pub case : a.case ≡ case_at means tape i
  pub rail : a.rail ≡ rail_at means tape i
  pub items : a.items.items ≡ items_before means widths tape i
  pub quad : a.quad ≡ quad_before means tape i

-- a faulty frame adds no item
abbrev pub AddsNothingFlawed : Assembler → Assembler → Taken → Type 0
AddsNothingFlawed old new (Flawed flaw) = new.items.items ≡ old.items.items
AddsNothingFlawed old new Kept = Unit {0}
AddsNothingFlawed old new Cut = Unit {0}
