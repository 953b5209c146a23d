-- What a query leaves whose rows are read one by one.
use Rattle.std.specs.Prelude.{◌≡◌, ◌⊎◌, ◌++◌, ℕ, Bool, List, [], Result, IfOk, OnOk, OnErr, IsTrue}
use Rattle.sqlite_value.specs.Order.{Row}
use Rattle.sqlite.specs.Listing.{understood}
use Rattle.sqlite.specs.Given.{IsPlain}
use Rattle.sqlite.specs.State.{State, HasCleanDisk, Begins, Shown, IsUnchanged, IsRolledBack}
use Rattle.rows_table.specs.Tables.{Layout, layout_tree, layout_schema}
use Rattle.rows_table.specs.Rows.{IsListing}

-- where the connection is open, the text is a statement that returns nothing of a write, and does not read the time
abbrev pub OnlyReads : State → List ℕ → Type 0
OnlyReads s sql = IsTrue s.is_open → IsPlain (understood s.now.schema sql)

-- nothing is changed, or what was not committed is undone
abbrev pub WritesNothing : State → State → Type 0
WritesNothing old new = IsUnchanged old new ⊎ IsRolledBack old new

-- the connection was open, and the answer of the query begins with these rows
abbrev pub HasGivenFirst : List ℕ → State → List Row → Type 0
HasGivenFirst sql s rows = IsTrue s.is_open × Begins sql [] s rows

-- the connection was open, and the listing of its table begins with these rows
abbrev pub ListsFirst : Layout → State → List Row → Type 0
ListsFirst layout s rows = IsTrue s.is_open × (rest : List Row) × IsListing layout (s.now.trees (layout_tree layout)) (rows ++ rest)

-- ---- what a call says of it: `old` is the state before the call, `new` after it

-- of a text that only reads, an Ok changes nothing
abbrev pub ReadsWithoutChange : {A E : Type 0} → List ℕ → Result A E → State → State → Type 0
ReadsWithoutChange sql result old new = HasCleanDisk new → OnlyReads old sql → OnOk result (IsUnchanged old new)

-- and a refusal writes nothing
abbrev pub WritesNothingWhereRefused : {A E : Type 0} → List ℕ → Result A E → State → State → Type 0
WritesNothingWhereRefused sql result old new = HasCleanDisk new → OnlyReads old sql → OnErr result (WritesNothing old new)

-- of a text that only reads, where these were all, the visitor has seen the rows that the query shows
abbrev pub SeesAllShown : {T E : Type 0} → (T → T → List Row → Type 0) → T → T → List ℕ → Result Bool E → State → State → Type 0
SeesAllShown saw was now sql result old new =
    HasCleanDisk new → OnlyReads old sql → IfOk result (λ all. IsTrue all → (rows : List Row) × Shown sql [] old new rows × saw was now rows)

-- and however it ends, the visitor is as it was, or has seen the first of them
abbrev pub SeesFirstGiven : {T : Type 0} → (T → T → List Row → Type 0) → T → T → List ℕ → State → State → Type 0
SeesFirstGiven saw was now sql old new =
    HasCleanDisk new → OnlyReads old sql → (now ≡ was) ⊎ ((rows : List Row) × HasGivenFirst sql old rows × saw was now rows)

-- of a connection on the tables of the layout, where these were all, the visitor has seen the listing of its rows
abbrev pub SeesListing : {T E : Type 0} → Layout → (T → T → List Row → Type 0) → T → T → Result Bool E → State → State → Type 0
SeesListing layout saw was now result old new =
    HasCleanDisk new → old.now.schema ≡ layout_schema layout
    → IfOk result (λ all. IsTrue all → (rows : List Row) × IsListing layout (old.now.trees (layout_tree layout)) rows × saw was now rows)

-- and however it ends, the visitor is as it was, or has seen the first of them
abbrev pub SeesFirstListed : {T : Type 0} → Layout → (T → T → List Row → Type 0) → T → T → State → State → Type 0
SeesFirstListed layout saw was now old new =
    HasCleanDisk new → (IsTrue old.is_open → old.now.schema ≡ layout_schema layout)
    → (now ≡ was) ⊎ ((rows : List Row) × ListsFirst layout old rows × saw was now rows)
