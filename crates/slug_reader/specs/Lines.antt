-- The lines of a tape.
use Rattle.std.specs.Prelude.{ℕ, suc, List, [], ◌∷◌, Bool, true, false, Option, length, map, filter, filter_map, nat_lt, count_by, ◌&&◌}
use Rattle.slug_reader.specs.declared.item.Item.{Item}
use Rattle.slug_reader.specs.declared.line.Quad.{Quad}
use Rattle.slug_reader.specs.declared.line.Line.{Line}
use Rattle.widths.specs.Widths.{WidthFile}
use Rattle.slug_reader.specs.Positions.{before, last, after_last}
use Rattle.slug_reader.specs.Meanings.{Meanings, meaning_at, rail_at, item_of, quad_of, is_elevate}

-- a cut: a position that means elevate, at which the line so far is sent to be cast
unfoldable pub is_cut : Meanings → List ℕ → ℕ → Bool
is_cut means tape i = is_elevate (meaning_at means tape i)

-- the cuts of a tape, in order
abbrev pub cuts : Meanings → List ℕ → List ℕ
cuts means tape = filter (is_cut means tape) (before (length tape))

-- the number of the line that a position stands in: one more than the cuts before it
abbrev pub line_number : Meanings → List ℕ → ℕ → ℕ
line_number means tape at = suc (count_by (λ cut. nat_lt cut at) (cuts means tape))

-- the positions of the line before i: those after the last cut before it
unfoldable pub line_before : Meanings → List ℕ → ℕ → List ℕ
line_before means tape i = after_last (is_cut means tape) (before i)

-- the item at a position, if any
abbrev pub item_at : Meanings → WidthFile → List ℕ → ℕ → Option Item
item_at means widths tape i = item_of widths (rail_at means tape i) (meaning_at means tape i)

-- the items of the line before i, in order
unfoldable pub items_before : Meanings → WidthFile → List ℕ → ℕ → List Item
items_before means widths tape i = filter_map (item_at means widths tape) (line_before means tape i)

-- the quad of the line before i: what its last quad code asks
unfoldable pub quad_before : Meanings → List ℕ → ℕ → Option Quad
quad_before means tape i = last (λ j. quad_of (meaning_at means tape j)) (line_before means tape i)

-- the line that is cut at a position
abbrev pub line_of : Meanings → WidthFile → List ℕ → ℕ → Line
line_of means widths tape cut = record { items = items_before means widths tape cut; quad = quad_before means tape cut; elevate_at = cut }

-- there is an item
abbrev pub is_filled : List Item → Bool
is_filled [] = false
is_filled (item ∷ rest) = true

-- a position at which a line with items is cut
abbrev pub is_cast : Meanings → WidthFile → List ℕ → ℕ → Bool
is_cast means widths tape i = is_cut means tape i && is_filled (items_before means widths tape i)

-- the lines with items that are cut before i, in order
unfoldable pub lines_before : Meanings → WidthFile → List ℕ → ℕ → List Line
lines_before means widths tape i = map (line_of means widths tape) (filter (is_cast means widths tape) (before i))
