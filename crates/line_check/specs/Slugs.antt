-- What the slug of a line is: the row of widths that meets these equations. Nothing is divided here.
use Rattle.std.specs.Prelude.{◌≡◌, ℕ, ◌+◌, ◌-◌, ◌*◌, ◌≤◌, List, [], ◌∷◌, Bool, true, false, Option, Some, None, nat_lt, map, filter_map, sum, sum_by, count_by, if◌then◌else◌}
use Rattle.std.specs.List.{AllByRecursion}
use Rattle.widths.specs.Widths.{WidthFile}
use Rattle.slug_reader.specs.declared.item.Item.{Item}
use Rattle.slug_reader.specs.declared.item.Item.TheVariants as items
use Rattle.slug_reader.specs.declared.line.Line.{Line}
use Rattle.slug_reader.specs.declared.line.Quad.{Quad}
use Rattle.slug_reader.specs.declared.line.Quad.TheVariants as quads
use Rattle.line_check.specs.declared.sort.Sort.{Sort}
use Rattle.line_check.specs.declared.sort.Sort.TheVariants as sorts
use Rattle.line_check.specs.declared.slug.Kind.{Kind}
use Rattle.line_check.specs.declared.slug.Kind.TheVariants as kinds
use Rattle.line_check.specs.declared.slug.Slug.{Slug}
use Rattle.line_check.specs.declared.fault.Cause.{Cause}
use Rattle.line_check.specs.declared.fault.Cause.TheVariants as causes

-- the width that an item has before its line is cast: a spaceband has none
abbrev pub fixed_width : Item → ℕ
fixed_width (items.Matrix name rail width) = width
fixed_width items.Band = 0
fixed_width (items.Space width) = width

-- the item is a spaceband
abbrev pub is_band : Item → Bool
is_band (items.Matrix name rail width) = false
is_band items.Band = true
is_band (items.Space width) = false

-- the width of the matrices and fixed spaces of a line
abbrev pub fixed_of : List Item → ℕ
fixed_of line = sum_by fixed_width line

-- how many spacebands a line has
abbrev pub bands_of : List Item → ℕ
bands_of line = count_by is_band line

-- the item that a sort of a slug was cast from
abbrev pub item_of_sort : Sort → Item
item_of_sort (sorts.Matrix name rail width) = items.Matrix name rail width
item_of_sort (sorts.Band width) = items.Band
item_of_sort (sorts.Space width) = items.Space width

-- the width of a sort
abbrev pub sort_width : Sort → ℕ
sort_width (sorts.Matrix name rail width) = width
sort_width (sorts.Band width) = width
sort_width (sorts.Space width) = width

-- the width of a band; the other sorts are none
abbrev pub band_width : Sort → Option ℕ
band_width (sorts.Matrix name rail width) = None
band_width (sorts.Band width) = Some width
band_width (sorts.Space width) = None

-- the widths of the bands of a slug, in order
abbrev pub band_widths : List Sort → List ℕ
band_widths slug = filter_map band_width slug

-- no width is below a later one, or more than one unit above it
abbrev pub IsEven : List ℕ → Type 0
IsEven [] = Unit {0}
IsEven (w ∷ ws) = AllByRecursion (λ v. (v ≤ w) × (w ≤ v + 1)) ws × IsEven ws

-- a line without a quad fills the measure: its bands take what is left, the first ones a unit more where it must be
pub record Justifies (widths : WidthFile) (fixed : ℕ) (slug : Slug) : Type 0 where
  pub kind : slug.kind ≡ kinds.J
  pub left : slug.left ≡ 0
  pub right : slug.right ≡ 0
  pub full : fixed + sum (band_widths slug.items) ≡ widths.measure
  pub range : AllByRecursion (λ w. (widths.band_min ≤ w) × (w ≤ widths.band_max)) (band_widths slug.items)
  pub even : IsEven (band_widths slug.items)

-- the kind of a slug with this quad
abbrev pub kind_of : Quad → Kind
kind_of quads.Left = kinds.L
kind_of quads.Center = kinds.C
kind_of quads.Right = kinds.R

-- the blank of a quadded line stands on the right, on both sides or on the left
abbrev pub StandsAt : Quad → ℕ → ℕ → Type 0
StandsAt quads.Left left right = left ≡ 0
StandsAt quads.Center left right = (left ≤ right) × (right ≤ left + 1)
StandsAt quads.Right left right = right ≡ 0

-- a line with a quad has its bands at their least width, and blank beside it
pub record Quads (widths : WidthFile) (fixed : ℕ) (quad : Quad) (slug : Slug) : Type 0 where
  pub kind : slug.kind ≡ kind_of quad
  pub bands : AllByRecursion (λ w. w ≡ widths.band_min) (band_widths slug.items)
  pub full : slug.left + fixed + sum (band_widths slug.items) + slug.right ≡ widths.measure
  pub sides : StandsAt quad slug.left slug.right

-- the slug fills the measure, as its quad asks
abbrev pub Fills : WidthFile → ℕ → Option Quad → Slug → Type 0
Fills widths fixed None slug = Justifies widths fixed slug
Fills widths fixed (Some quad) slug = Quads widths fixed quad slug

-- the slug has the items of the line in order, and fills the measure
pub record IsSlug (widths : WidthFile) (line : Line) (slug : Slug) : Type 0 where
  pub items : map item_of_sort slug.items ≡ line.items
  pub fills : Fills widths (fixed_of line.items) line.quad slug

-- a line with its bands at their least width
abbrev pub least_width : WidthFile → List Item → ℕ
least_width widths line = fixed_of line + bands_of line * widths.band_min

-- a line with its bands at their greatest width
abbrev pub greatest_width : WidthFile → List Item → ℕ
greatest_width widths line = fixed_of line + bands_of line * widths.band_max

-- a line without a quad is loose where its greatest width does not reach the measure
abbrev pub looseness : WidthFile → List Item → Option Quad → Option Cause
looseness widths line None =
    if nat_lt (greatest_width widths line) widths.measure
    then Some (causes.Loose (widths.measure - greatest_width widths line))
    else None
looseness widths line (Some quad) = None

-- a line of these items without a quad is not loose, and the slug has them in order and fills the measure
abbrev pub IsJustified : WidthFile → List Item → Slug → Type 0
IsJustified widths line slug =
    (looseness widths line None ≡ None) × (map item_of_sort slug.items ≡ line) × Justifies widths (fixed_of line) slug

-- why a line has no slug: it is overset where its least width is above the measure, else it may be loose
abbrev pub misfit : WidthFile → Line → Option Cause
misfit widths line =
    if nat_lt widths.measure (least_width widths line.items)
    then Some (causes.Overset (least_width widths line.items - widths.measure))
    else looseness widths line.items line.quad

-- each slug is that of its line
abbrev pub AreSlugs : WidthFile → List Line → List Slug → Type 0
AreSlugs widths [] [] = Unit {0}
AreSlugs widths (line ∷ lines) (slug ∷ slugs) = IsSlug widths line slug × AreSlugs widths lines slugs
AreSlugs widths [] (slug ∷ slugs) = ⊥
AreSlugs widths (line ∷ lines) [] = ⊥
