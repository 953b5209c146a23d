-- What a table of rows has at a number.
use Rattle.std.specs.Prelude.{IsPermutation, IsSorted, map, find, filter, option_to_list, option_map, ◌≡◌, ◌≢◌, ℕ, pos, List, [], ◌∷◌, Option, Some, cond, ◌==◌, false, IsTrue}
use Rattle.std.specs.List.{AllByRecursion}
use Rattle.sqlite_value.specs.declared.value.Value.{Value}
use Rattle.sqlite_value.specs.declared.value.Value.TheVariants.{Null, Int, Blob}
use Rattle.sqlite_value.specs.Order.{Row, column, value_cmp}
use Rattle.sqlite_trees.specs.Tree.{Trees, rowid, has_rowid}
use Rattle.sqlite.specs.Effect.{Database}
use Rattle.sqlite.specs.State.{State, HasCleanDisk}
use Rattle.rows_table.specs.Tables.{Layout, layout_tree, layout_schema}
use Rattle.rows_table.specs.declared.layout.Layout.TheVariants.{One, Two}
use Rattle.sqlite.specs.Values.{or_null}

-- a number as the database stores it
abbrev pub whole : ℕ → Value
whole n = Int (pos n)

-- the columns beside the number of a row in layout 1; what is missing is null
abbrev pub columns_of : ℕ → ℕ → Option ℕ → Option ℕ → Option (List ℕ) → Row
columns_of promised_round promised_owner vote_round vote_owner tape =
    whole promised_round ∷ whole promised_owner ∷ or_null whole vote_round ∷ or_null whole vote_owner ∷ or_null Blob tape ∷ []

-- a row as the table stores it
abbrev pub stored : ℕ → Row → Row
stored n columns = whole n ∷ Null ∷ columns

-- a key is a whole number
abbrev pub IsKeyed : Row → Type 0
IsKeyed r = (n : ℕ) × (rowid r ≡ whole n)

-- each row's key is a whole number
abbrev pub AreKeyed : List Row → Type 0
AreKeyed = AllByRecursion IsKeyed

-- no number comes twice
abbrev pub AreOnce : List Row → Type 0
AreOnce rows = (n : ℕ) → filter (has_rowid (pos n)) rows ≡ option_to_list (find (has_rowid (pos n)) rows)

-- rows as a table holds them: each has a number, and none comes twice
pub record AreRows (rows : List Row) : Type 0 where
  pub keyed : AreKeyed rows
  pub once : AreOnce rows

-- what a row shows beside its number
abbrev pub shown_of : Layout → Row → Row
shown_of One r = column r 2 ∷ column r 3 ∷ column r 4 ∷ column r 5 ∷ column r 6 ∷ []
shown_of (Two origin) r = column r 2 ∷ column r 3 ∷ column r 4 ∷ column r 5 ∷ column r 6 ∷ column r 7 ∷ []

-- the row with the number, if there is one, and its columns
abbrev pub found_at : List Row → ℕ → Option Row
found_at rows n = find (has_rowid (pos n)) rows

-- what the row with the number shows beside it, if there is such a row
abbrev pub columns_at : Layout → List Row → ℕ → Option Row
columns_at layout rows n = option_map (shown_of layout) (found_at rows n)

-- this row is put in the place of the one that had its number, and no other changes
pub record Saves (n : ℕ) (columns : Row) (old new : List Row) : Type 0 where
  pub rows : AreRows new
  pub saved : (k : ℕ) → found_at new k ≡ cond (n == k) (Some (stored n columns)) (found_at old k)

-- and in no other tree
pub record SavesIn (layout : Layout) (n : ℕ) (columns : Row) (old new : Trees) : Type 0 where
  pub rows : Saves n columns (old (layout_tree layout)) (new (layout_tree layout))
  pub others : (t : ℕ) → t ≢ layout_tree layout → new t ≡ old t

-- this row is put in the place of the one that had its number; no other row, no other tree and no table changes
pub record IsSaved (layout : Layout) (n : ℕ) (columns : Row) (old new : Database) : Type 0 where
  pub schema : new.schema ≡ old.schema
  pub trees : SavesIn layout n columns old.trees new.trees

-- ---- a connection on the tables of a layout

-- the tables are those of the layout, its rows are rows, and nothing waits to be committed
pub record IsAtRest (layout : Layout) (s : State) : Type 0 where
  pub schema : s.now.schema ≡ layout_schema layout
  pub rows : AreRows (s.now.trees (layout_tree layout))
  pub settled : s.committed ≡ s.now

-- in no transaction, and at rest while it is open
abbrev pub Serves : Layout → State → Type 0
Serves layout s = HasCleanDisk s → (s.in_transaction ≡ false) × (IsTrue s.is_open → IsAtRest layout s)

-- the row is saved, and a crash leaves it
pub record WasSaved (layout : Layout) (n : ℕ) (columns : Row) (old new : State) : Type 0 where
  pub was_open : IsTrue old.is_open
  pub is_open : IsTrue new.is_open
  pub saved : IsSaved layout n columns old.now new.now
  pub crash : (db : Trees) → new.may_leave db → db ≡ new.now.trees

-- nothing is changed
pub record WasKept (old new : State) : Type 0 where
  pub was_open : IsTrue old.is_open
  pub same : new.now ≡ old.now

-- a row as the list of all rows shows it
abbrev pub listed_row : Layout → Row → Row
listed_row layout r = column r 0 ∷ shown_of layout r

-- a row's number, by which a listing is ordered, and the row as a listing shows it
abbrev pub with_key : Layout → Row → Row × Row
with_key layout r = (column r 0 ∷ [], listed_row layout r)

-- the rows of the table in the order of their keys
pub record IsListing (layout : Layout) (table rows : List Row) : Type 0 where
  pub ordered : List (Row × Row)
  pub same : IsPermutation (map (with_key layout) table) ordered
  pub sorted : IsSorted (λ a b. value_cmp (column a.0 0) (column b.0 0)) ordered
  pub shown : rows ≡ map (λ p. p.1) ordered
