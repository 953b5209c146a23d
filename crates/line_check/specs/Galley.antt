-- The text of a galley.
use Rattle.std.specs.Prelude.{ℕ, ◌+◌, ◌-◌, List, [], ◌∷◌, ◌++◌, length, replicate, decimal, flat_map}
use Rattle.slug_reader.specs.declared.item.Rail.TheVariants as rails
use Rattle.line_check.specs.declared.sort.Sort.{Sort}
use Rattle.line_check.specs.declared.sort.Sort.TheVariants as sorts
use Rattle.line_check.specs.declared.slug.Kind.{Kind}
use Rattle.line_check.specs.declared.slug.Kind.TheVariants as kinds
use Rattle.line_check.specs.declared.slug.Slug.{Slug}

-- a number in at least four digits
abbrev pub number_text : ℕ → List ℕ
number_text n = replicate (4 - length (decimal n)) 48 ++ decimal n

-- the letter of a kind
abbrev pub kind_text : Kind → ℕ
kind_text kinds.J = 74
kind_text kinds.L = 76
kind_text kinds.C = 67
kind_text kinds.R = 82

-- a blank, and the sort: a matrix is its name, behind `^` on the upper rail; a band is `_` and a fixed space `~` with its width
abbrev pub sort_text : Sort → List ℕ
sort_text (sorts.Matrix name rails.Lower width) = 32 ∷ name
sort_text (sorts.Matrix name rails.Upper width) = 32 ∷ 94 ∷ name
sort_text (sorts.Band width) = 32 ∷ 95 ∷ decimal width
sort_text (sorts.Space width) = 32 ∷ 126 ∷ decimal width

-- the number of a slug, its kind, left and right, with single blanks between
abbrev pub head_text : ℕ → Slug → List ℕ
head_text n slug = number_text n ++ 32 ∷ kind_text slug.kind ∷ 32 ∷ decimal slug.left ++ 32 ∷ decimal slug.right

-- the line of a slug
abbrev pub slug_text : ℕ → Slug → List ℕ
slug_text n slug = head_text n slug ++ flat_map sort_text slug.items ++ 10 ∷ []

-- the lines of slugs, numbered from n on
abbrev pub galley_from : ℕ → List Slug → List ℕ
galley_from n [] = []
galley_from n (slug ∷ slugs) = slug_text n slug ++ galley_from (n + 1) slugs

-- the galley of slugs: a line for each, numbered from 1
abbrev pub galley_of : List Slug → List ℕ
galley_of slugs = galley_from 1 slugs
