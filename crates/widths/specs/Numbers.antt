-- The numbers of a width file, as a TOML document has them.
use Rattle.std.specs.Prelude.{ℕ, ◌≤◌, ℤ, pos, negsuc, List, Bool, codes, Option, Some, None, Result, Ok, Err, nat_le, ◌&&◌, if◌then◌else◌}
use Rattle.toml.specs.Data.{Data, Members, get_member, as_integer, as_table}
use Rattle.widths.specs.Widths.{IsWidth}
use Rattle.widths.specs.declared.measures.Measures.{Measures}
use Rattle.widths.specs.declared.fault.WidthKey.{WidthKey}
use Rattle.widths.specs.declared.fault.WidthKey.TheVariants.{Measure, BandMin, BandMax, Thin, En, Em, Matrix}
use Rattle.widths.specs.declared.fault.WidthFault.{WidthFault}
use Rattle.widths.specs.declared.fault.WidthFault.TheVariants.{Missing, WrongType, OutOfRange}

-- one step after another, up to the first fault
infixl 10 ◌>>=◌
abbrev pub ◌>>=◌ : {A B : Type 0} → Result A WidthFault → (A → Result B WidthFault) → Result B WidthFault
(Ok x) >>= f = f x
(Err e) >>= f = Err e

-- a value, or this fault where there is none
abbrev pub wanted : {A : Type 0} → WidthFault → Option A → Result A WidthFault
wanted fault None = Err fault
wanted fault (Some x) = Ok x

-- a test that has to hold, or this fault
abbrev pub holds : WidthFault → Bool → Result (Unit {0}) WidthFault
holds fault test = if test then Ok tt else Err fault

-- a whole number from 1 to the most
unfoldable pub in_range : ℕ → ℤ → Option ℕ
in_range most (pos n) = if nat_le 1 n && nat_le n most then Some n else None
in_range most (negsuc n) = None

-- the number of a value: whole, and from 1 to the most
unfoldable pub number_of : WidthKey → ℕ → Data → Result ℕ WidthFault
number_of key most value = do
  number ← wanted (WrongType key) (as_integer value)
  wanted (OutOfRange key) (in_range most number)

-- the number at a key of this name
unfoldable pub number_at : WidthKey → List ℕ → ℕ → Members → Result ℕ WidthFault
number_at key name most file = do
  value ← wanted (Missing key) (get_member name file)
  number_of key most value

-- the six measures, in their order
unfoldable pub measures_in : Members → Result Measures WidthFault
measures_in file = do
  measure ← number_at Measure (codes "measure") 65535 file
  band_min ← number_at BandMin (codes "band_min") 999 file
  band_max ← number_at BandMax (codes "band_max") 999 file
  thin ← number_at Thin (codes "thin") 999 file
  en ← number_at En (codes "en") 999 file
  em ← number_at Em (codes "em") 999 file
  Ok (record { measure = measure; band_min = band_min; band_max = band_max; thin = thin; en = en; em = em })

-- the table of the matrices
unfoldable pub matrix_in : Members → Result Members WidthFault
matrix_in file = do
  value ← wanted (Missing Matrix) (get_member (codes "matrix") file)
  wanted (WrongType Matrix) (as_table value)

-- the ranges of the measures
pub record AreMeasures (m : Measures) : Type 0 where
  pub measure_low : 1 ≤ m.measure
  pub measure_high : m.measure ≤ 65535
  pub band_min : IsWidth m.band_min
  pub band_max : IsWidth m.band_max
  pub thin : IsWidth m.thin
  pub en : IsWidth m.en
  pub em : IsWidth m.em
