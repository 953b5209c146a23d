-- Rows whose numbers rise.
use Rattle.std.specs.Prelude.{◌≡◌, ◌==◌, option_map, find, ℕ, ℤ, pos, negsuc, Bool, true, false, ◌&&◌, nat_lt, List, [], ◌∷◌, Option, Some, None}
use Rattle.std.specs.List.{AllByRecursion}
use Rattle.sqlite_value.specs.declared.value.Value.{Value}
use Rattle.sqlite_value.specs.declared.value.Value.TheVariants.{Null, Int, Real, Text, Blob}
use Rattle.sqlite_value.specs.Order.{Row, column}
use Rattle.rows_table.specs.Tables.{Layout}
use Rattle.rows_table.specs.declared.layout.Layout.TheVariants.{One, Two}
use Rattle.rows_table.specs.Rows.{whole, AreRows, columns_at}

-- the number that an integer is, where it is not negative
abbrev pub number_in : ℤ → Option ℕ
number_in (pos n) = Some n
number_in (negsuc n) = None

-- the number that a value stands for, where it is an integer that is not negative
abbrev pub key_of : Value → Option ℕ
key_of Null = None
key_of (Int z) = number_in z
key_of (Real x) = None
key_of (Text t) = None
key_of (Blob b) = None

-- above the number before, where there is one
abbrev pub is_above : Option ℕ → ℕ → Bool
is_above None n = true
is_above (Some last) n = nat_lt last n

-- this number is there and above the one before, and the rest goes on from it
abbrev pub goes_on : Option ℕ → Option ℕ → (Option ℕ → Bool) → Bool
goes_on last None rest = false
goes_on last (Some n) rest = is_above last n && rest (Some n)

-- each number is above the one before
abbrev pub rise_from : Option ℕ → List Row → Bool
rise_from last [] = true
rise_from last (r ∷ rs) = goes_on last (key_of (column r 0)) (λ next. rise_from next rs)

-- the number is there, and is this one
abbrev pub is_at : ℕ → Option ℕ → Bool
is_at n None = false
is_at n (Some k) = n == k

-- the columns beside the number, of a row of a listing
abbrev pub listed_columns : Layout → Row → Row
listed_columns One r = column r 1 ∷ column r 2 ∷ column r 3 ∷ column r 4 ∷ column r 5 ∷ []
listed_columns (Two origin) r = column r 1 ∷ column r 2 ∷ column r 3 ∷ column r 4 ∷ column r 5 ∷ column r 6 ∷ []

-- those of the row that has the number, if there is one
abbrev pub listed_at : Layout → List Row → ℕ → Option Row
listed_at layout rows n = option_map (listed_columns layout) (find (λ r. is_at n (key_of (column r 0))) rows)

-- a row of a listing stands in the table, under its number
abbrev pub IsInTable : Layout → List Row → Row → Type 0
IsInTable layout table r = (n : ℕ) × (column r 0 ≡ whole n) × (columns_at layout table n ≡ Some (listed_columns layout r))

-- the table has whole numbers as keys, each once, and at each of them what its listing has
pub record AreListed (layout : Layout) (table listing : List Row) : Type 0 where
  pub rows : AreRows table
  pub found : (n : ℕ) → columns_at layout table n ≡ listed_at layout listing n
  pub each : AllByRecursion (IsInTable layout table) listing
