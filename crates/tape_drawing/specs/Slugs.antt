-- What is cast of a line: where each piece is drawn, and how wide.
use Rattle.std.specs.Prelude.{◌≡◌, ℕ, ◌+◌, ◌*◌, ◌-◌, ◌/◌, min, List, [], ◌∷◌, ◌++◌, Bool, decimal, length, sum_by, nat_lt, nat_le, ◌==◌, if◌then◌else◌}
use Rattle.slug_reader.specs.declared.item.Rail.{Rail}
use Rattle.slug_reader.specs.declared.item.Rail.TheVariants as rails
use Rattle.slug_reader.specs.declared.item.Item.{Item}
use Rattle.slug_reader.specs.declared.item.Item.TheVariants as items
use Rattle.line_check.specs.declared.sort.Sort.{Sort}
use Rattle.line_check.specs.declared.sort.Sort.TheVariants as sorts
use Rattle.line_check.specs.declared.slug.Slug.{Slug}
use Rattle.line_check.specs.Slugs.{sort_width}
use Rattle.tape_drawing.specs.declared.elements.Look.{Look}
use Rattle.tape_drawing.specs.declared.elements.Look.TheVariants as looks
use Rattle.tape_drawing.specs.declared.elements.Style.{Style}
use Rattle.tape_drawing.specs.declared.elements.Style.TheVariants as styles
use Rattle.tape_drawing.specs.declared.layout.Stretch.{Stretch}
use Rattle.tape_drawing.specs.Lengths.{margin, right_edge, name_foot, letter_width, width_foot, width_room}
use Rattle.tape_drawing.specs.Shapes.{Shape, Box, Bar, Gap, Words, Fitted, text_of}
use Rattle.tape_drawing.specs.Layout.{edge, across}

-- a stretch runs over the measure
abbrev pub is_over : Stretch → Bool
is_over s = nat_lt s.measure (s.from + s.width)

-- a piece looks as it is, and red where it runs over the measure
abbrev pub look_in : Stretch → Look → Look
look_in s look = if is_over s then looks.Over else look

-- type looks so, where it lies
abbrev pub type_style : Stretch → Rail → Style
type_style s rails.Lower = if is_over s then styles.Over else styles.Type
type_style s rails.Upper = if is_over s then styles.UpperOver else styles.Upper

-- the box of a stretch
abbrev pub box_shapes : Look → Stretch → List Shape
box_shapes look s = Box look (edge s.measure s.from) s.top (across s) ∷ []

-- the blank beside the pieces, where there is any
abbrev pub blank_shapes : Stretch → List Shape
blank_shapes s = if s.width == 0 then [] else box_shapes looks.Blank s

-- the name of a matrix in the middle of its box; one of more letters is fitted to it
abbrev pub name_shapes : Stretch → Rail → List ℕ → List Shape
name_shapes s rail name =
    if nat_le 2 (length name)
    then Fitted (type_style s rail) (edge s.measure s.from + across s / 2) (s.top + name_foot) (min (across s) (letter_width * length name)) name ∷ []
    else Words (type_style s rail) (edge s.measure s.from + across s / 2) (s.top + name_foot) name ∷ []

-- the width of a band or a space at the foot of its box, where there is room
abbrev pub width_shapes : Stretch → List Shape
width_shapes s =
    if nat_lt (across s) width_room then [] else Words styles.Width (edge s.measure s.from + across s / 2) (s.top + width_foot) (decimal s.width) ∷ []

-- a matrix with its name
abbrev pub matrix_shapes : Stretch → Rail → List ℕ → List Shape
matrix_shapes s rail name = box_shapes (look_in s looks.Matrix) s ++ name_shapes s rail name

-- a band or a space of this look with its width
abbrev pub room_shapes : Stretch → Look → List Shape
room_shapes s look = box_shapes (look_in s look) s ++ width_shapes s

-- a piece of a slug: a matrix with its name, a spaceband or a fixed space with its width in units
abbrev pub sort_shapes : Sort → Stretch → List Shape
sort_shapes (sorts.Matrix name rail width) s = matrix_shapes s rail name
sort_shapes (sorts.Band width) s = room_shapes s looks.Band
sort_shapes (sorts.Space width) s = room_shapes s looks.Space

-- a piece of a line that does not set, the same way
abbrev pub item_shapes : Item → Stretch → List Shape
item_shapes (items.Matrix name rail width) s = matrix_shapes s rail name
item_shapes items.Band s = room_shapes s looks.Band
item_shapes (items.Space width) s = room_shapes s looks.Space

-- the width of a piece of a line whose bands have this width
abbrev pub item_width : ℕ → Item → ℕ
item_width band (items.Matrix name rail width) = width
item_width band items.Band = band
item_width band (items.Space width) = width

-- a stretch of what is cast below an upper edge
abbrev pub stretch : ℕ → ℕ → ℕ → ℕ → Stretch
stretch measure top from width = record { measure = measure; top = top; from = from; width = width }

-- pieces, each from where the last ends
abbrev pub laid : {A : Type 0} → (A → Stretch → List Shape) → (A → ℕ) → ℕ → ℕ → ℕ → List A → List Shape
laid shapes width measure top from [] = []
laid shapes width measure top from (piece ∷ rest) =
    shapes piece (stretch measure top from (width piece)) ++ laid shapes width measure top (from + width piece) rest

-- the pieces of a slug
abbrev pub sorts_shapes : ℕ → ℕ → ℕ → List Sort → List Shape
sorts_shapes measure top from slug = laid sort_shapes sort_width measure top from slug

-- the pieces of a line that does not set, its bands of this width
abbrev pub items_shapes : ℕ → ℕ → ℕ → List Item → List Shape
items_shapes measure top band line = laid item_shapes (item_width band) measure top 0 line

-- these pieces were added behind a text, each from where the last ends, and the last ends so many units on
abbrev pub AddsSorts : ℕ → ℕ → ℕ → List Sort → List ℕ → List ℕ → ℕ → Type 0
AddsSorts measure top from sorts old new to =
    (to ≡ from + sum_by sort_width sorts) × (new ≡ old ++ text_of (sorts_shapes measure top from sorts))

-- the same of a line that does not set
abbrev pub AddsItems : ℕ → ℕ → ℕ → List Item → List ℕ → List ℕ → ℕ → Type 0
AddsItems measure top band line old new to =
    (to ≡ sum_by (item_width band) line) × (new ≡ old ++ text_of (items_shapes measure top band line))

-- a slug: its bar, the blank on its left, its pieces, and the blank on its right
abbrev pub pieces_shapes : ℕ → ℕ → Slug → List Shape
pieces_shapes measure top slug =
    Bar margin top ∷ (blank_shapes (stretch measure top 0 slug.left)
    ++ (sorts_shapes measure top slug.left slug.items ++ blank_shapes (stretch measure top (slug.left + sum_by sort_width slug.items) slug.right)))

-- the gap between the end of a line and the measure, where there is one
abbrev pub gap_shapes : ℕ → ℕ → ℕ → List Shape
gap_shapes measure top end = if nat_le measure end then [] else Gap (edge measure end) top (right_edge - edge measure end) ∷ []

-- the pieces of a line that does not set, and the gap behind them
abbrev pub filled_shapes : ℕ → ℕ → ℕ → List Item → List Shape
filled_shapes measure top band line = items_shapes measure top band line ++ gap_shapes measure top (sum_by (item_width band) line)
