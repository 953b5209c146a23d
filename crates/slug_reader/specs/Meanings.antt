-- What the frames of a tape mean: the case and the rail of a position are read by looking back from it.
use Rattle.std.specs.Prelude.{ℕ, List, Bool, true, false, Option, Some, None, unwrap_or, option_map, slice_index}
use Rattle.code_table.specs.Tables.{case_of}
use Rattle.code_table.specs.declared.case.Case.{Case}
use Rattle.code_table.specs.declared.case.Case.TheVariants as cases
use Rattle.code_table.specs.declared.meaning.Meaning.{Meaning}
use Rattle.code_table.specs.declared.meaning.Meaning.TheVariants as meanings
use Rattle.widths.specs.Widths.{WidthFile, width_of}
use Rattle.slug_reader.specs.declared.item.Item.{Item}
use Rattle.slug_reader.specs.declared.item.Item.TheVariants as items
use Rattle.slug_reader.specs.declared.item.Rail.{Rail}
use Rattle.slug_reader.specs.declared.item.Rail.TheVariants as rails
use Rattle.slug_reader.specs.declared.line.Quad.{Quad}
use Rattle.slug_reader.specs.declared.line.Quad.TheVariants as quads
use Rattle.slug_reader.specs.Positions.{before, last}

-- what a code table says of each frame in each case
abbrev pub Meanings : Type 0
Meanings = Case → ℕ → Option Meaning

-- the rail that a rail code selects for the matrices after it
abbrev pub rail_of : Option Meaning → Option Rail
rail_of (Some meanings.Upper) = Some rails.Upper
rail_of (Some meanings.Lower) = Some rails.Lower
rail_of _ = None

-- the quad that a quad code asks for its line
abbrev pub quad_of : Option Meaning → Option Quad
quad_of (Some meanings.QuadLeft) = Some quads.Left
quad_of (Some meanings.QuadCenter) = Some quads.Center
quad_of (Some meanings.QuadRight) = Some quads.Right
quad_of _ = None

-- the code that sends the line to be cast
abbrev pub is_elevate : Option Meaning → Bool
is_elevate (Some meanings.Elevate) = true
is_elevate _ = false

-- what goes into the line: a matrix that has a width, with the rail that holds there, a spaceband or a fixed space
abbrev pub item_of : WidthFile → Rail → Option Meaning → Option Item
item_of widths rail (Some (meanings.Matrix name)) = option_map (λ width. items.Matrix name rail width) (width_of widths name)
item_of widths rail (Some meanings.Spaceband) = Some items.Band
item_of widths rail (Some meanings.Thin) = Some (items.Space widths.thin)
item_of widths rail (Some meanings.En) = Some (items.Space widths.en)
item_of widths rail (Some meanings.Em) = Some (items.Space widths.em)
item_of widths rail _ = None

-- the frame at a position
abbrev pub frame_at : List ℕ → ℕ → ℕ
frame_at tape i = slice_index tape i

-- the case that a frame selects for those after it: a table has a case code in both columns alike, so one says it
abbrev pub selected_by : Meanings → ℕ → Option Case
selected_by means frame = case_of (means cases.Unshift frame)

-- the case that holds at a position: that of the last case code before it, unshift where there is none
unfoldable pub case_at : Meanings → List ℕ → ℕ → Case
case_at means tape i = unwrap_or (last (λ j. selected_by means (frame_at tape j)) (before i)) cases.Unshift

-- what the frame at a position means in the case that holds there
unfoldable pub meaning_at : Meanings → List ℕ → ℕ → Option Meaning
meaning_at means tape i = means (case_at means tape i) (frame_at tape i)

-- the rail that holds at a position: that of the last rail code before it, lower where there is none
unfoldable pub rail_at : Meanings → List ℕ → ℕ → Rail
rail_at means tape i = unwrap_or (last (λ j. rail_of (meaning_at means tape j)) (before i)) rails.Lower
