-- What a call keeps of a connection: `old` is its state before the call, `new` after it. All of it is said where the disk returned what was written.
use Rattle.std.specs.Prelude.{◌≡◌, ◌⊎◌, ℕ, Result, OnOk, OnErr, IsTrue, false}
use Rattle.sqlite_value.specs.Order.{Row}
use Rattle.sqlite_trees.specs.Tree.{Trees}
use Rattle.sqlite.specs.State.{State, HasCleanDisk, IsUnchanged}
use Rattle.rows_table.specs.Tables.{Layout, layout_schema, layout_tree}
use Rattle.rows_table.specs.Rows.{AreRows, Serves, WasKept, WasSaved, SavesIn}

-- of a connection that serves, an Ok leaves it open
abbrev pub StaysOpen : {A E : Type 0} → Layout → Result A E → State → State → Type 0
StaysOpen layout result old new = Serves layout old → HasCleanDisk new → OnOk result (IsTrue new.is_open)

-- and shows that its tables are those of the layout
abbrev pub ShowsTables : {A E : Type 0} → Layout → Result A E → State → State → Type 0
ShowsTables layout result old new = Serves layout old → HasCleanDisk new → OnOk result (old.now.schema ≡ layout_schema layout)

-- while it is open, all is kept
abbrev pub StaysKept : Layout → State → State → Type 0
StaysKept layout old new = Serves layout old → HasCleanDisk new → IsTrue new.is_open → WasKept old new

-- the same where it is refused
abbrev pub KeptWhereRefused : {A E : Type 0} → Layout → Result A E → State → State → Type 0
KeptWhereRefused layout result old new = Serves layout old → HasCleanDisk new → IsTrue new.is_open → OnErr result (WasKept old new)

-- a crash leaves nothing that it could not have left before
abbrev pub CrashesAsBefore : Layout → State → State → Type 0
CrashesAsBefore layout old new = Serves layout old → HasCleanDisk new → IsTrue old.is_open → (db : Trees) → new.may_leave db → old.may_leave db

-- an Ok has saved this row
abbrev pub SavesRow : {A E : Type 0} → Layout → ℕ → Row → Result A E → State → State → Type 0
SavesRow layout number columns result old new = Serves layout old → HasCleanDisk new → OnOk result (WasSaved layout number columns old new)

-- a crash leaves what was there, or that with this row
abbrev pub CrashesAsSaved : Layout → ℕ → Row → State → State → Type 0
CrashesAsSaved layout number columns old new =
    Serves layout old → HasCleanDisk new → IsTrue old.is_open → (db : Trees) → new.may_leave db
    → (db ≡ old.now.trees) ⊎ SavesIn layout number columns old.now.trees db

-- of a connection on such tables, whether it serves or not, an Ok changes nothing
abbrev pub ChangesNothing : {A E : Type 0} → Layout → Result A E → State → State → Type 0
ChangesNothing layout result old new = HasCleanDisk new → old.now.schema ≡ layout_schema layout → OnOk result (IsUnchanged old new)

-- a crash leaves nothing that it could not have left before
abbrev pub LeavesAsBefore : Layout → State → State → Type 0
LeavesAsBefore layout old new = HasCleanDisk new → old.now.schema ≡ layout_schema layout → (db : Trees) → new.may_leave db → old.may_leave db

-- outside a transaction all is kept, and there is nothing to commit
abbrev pub StaysAtRest : Layout → State → State → Type 0
StaysAtRest layout old new =
    HasCleanDisk new → old.now.schema ≡ layout_schema layout → (IsTrue old.is_open → old.now ≡ old.committed) → IsTrue new.is_open
    → WasKept old new × (new.now ≡ new.committed)

-- a refusal of a connection that is still open came to one that was open
abbrev pub WasOpenWhereRefused : {A E : Type 0} → Result A E → State → State → Type 0
WasOpenWhereRefused result old new = HasCleanDisk new → IsTrue new.is_open → OnErr result (IsTrue old.is_open)

-- and left what was committed, and nothing else
abbrev pub RolledBackWhereRefused : {A E : Type 0} → Result A E → State → State → Type 0
RolledBackWhereRefused result old new =
    HasCleanDisk new → IsTrue new.is_open → OnErr result ((new.now ≡ old.committed) × (new.committed ≡ old.committed))

-- of a connection on such tables, outside a transaction and with nothing to commit, an Ok serves where what lies there are rows
abbrev pub BeginsToServe : {A E : Type 0} → Layout → Result A E → State → State → Type 0
BeginsToServe layout result old new =
    old.now.schema ≡ layout_schema layout → old.in_transaction ≡ false → (IsTrue old.is_open → old.now ≡ old.committed)
    → AreRows (old.now.trees (layout_tree layout)) → HasCleanDisk new → OnOk result (Serves layout new)
