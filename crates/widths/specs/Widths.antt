-- The measure of a slug, the widths of bands and spaces, and the widths of matrices.
use Rattle.std.specs.Prelude.{ℕ, ◌≤◌, List, [], ◌∷◌, map, Bool, Option, Some, None, if◌then◌else◌}
use Rattle.std.specs.Ordering.{nat_cmp, is_eq}
use Rattle.std.specs.Cmp.Lexicographic.{slice_cmp}
use Rattle.std.specs.List.{AllByRecursion}
use Rattle.std.specs.List.Sorted.{IsStrictlySortedBy}
use Rattle.widths.specs.declared.entry.MatrixWidth.{MatrixWidth}

-- the measures of a width file in whole units, and its matrices in byte order of their names
pub record WidthFile : Type 0 where
  pub measure : ℕ
  pub band_min : ℕ
  pub band_max : ℕ
  pub thin : ℕ
  pub en : ℕ
  pub em : ℕ
  pub matrix : List MatrixWidth

-- these measures, and these matrices
abbrev pub width_file : ℕ → ℕ → ℕ → ℕ → ℕ → ℕ → List MatrixWidth → WidthFile
width_file measure band_min band_max thin en em matrix =
    record { measure = measure; band_min = band_min; band_max = band_max; thin = thin; en = en; em = em; matrix = matrix }

-- the two names have the same bytes
abbrev pub is_same : List ℕ → List ℕ → Bool
is_same a b = is_eq (slice_cmp nat_cmp a b)

-- the width at a name among some matrices
abbrev pub width_among : List MatrixWidth → List ℕ → Option ℕ
width_among [] name = None
width_among (entry ∷ rest) name = if is_same entry.name name then Some entry.width else width_among rest name

-- the width of the matrix with this name, where the file has it
unfoldable pub width_of : WidthFile → List ℕ → Option ℕ
width_of widths name = width_among widths.matrix name

-- a width of a band, a space or a matrix: 1 to 999 units
pub record IsWidth (width : ℕ) : Type 0 where
  pub low : 1 ≤ width
  pub high : width ≤ 999

-- the names of the matrices, in byte order, each once
abbrev pub IsInNameOrder : List MatrixWidth → Type 0
IsInNameOrder matrix = IsStrictlySortedBy (slice_cmp nat_cmp) (map (λ entry. entry.name) matrix)

-- the ranges of a width file, and the order of its matrices
pub record IsWidthFile (widths : WidthFile) : Type 0 where
  pub measure_low : 1 ≤ widths.measure
  pub measure_high : widths.measure ≤ 65535
  pub band_min : IsWidth widths.band_min
  pub band_max : IsWidth widths.band_max
  pub bands : widths.band_min ≤ widths.band_max
  pub thin : IsWidth widths.thin
  pub en : IsWidth widths.en
  pub em : IsWidth widths.em
  pub matrix : AllByRecursion (λ entry. IsWidth entry.width) widths.matrix
  pub names : IsInNameOrder widths.matrix
