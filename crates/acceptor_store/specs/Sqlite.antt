-- Saved rows in a database.
use Rattle.std.specs.Prelude.{◌≡◌, ◌≢◌, ◌⊎◌, ℕ, ℤ, Bool, false, IsTrue, List, Option, Some, None, IfSome, refl}
use Rattle.std.specs.Coded.{Coded, code_by, coded×, coded_ℕ, coded_bool, coded_option}
use Rattle.sqlite_schema.specs.declared.schema.Schema.{Schema}
use Rattle.sqlite_schema.specs.contracts.schema.Schema as schema
use Rattle.sqlite_value.specs.Order.{Row as Columns}
use Rattle.sqlite_trees.specs.declared.store.Store.{Ghosts}
use Rattle.sqlite_trees.specs.Objects.{catalog_tree}
use Rattle.sqlite_trees.specs.Tree.{Trees}
use Rattle.sqlite_catalog.specs.Listing.{Lists as ListsTables}
use Rattle.sqlite.specs.State.{State, HasCleanDisk}
use Rattle.sqlite.specs.Held.{Held, held_code, state}
use Rattle.rows_table.specs.declared.layout.Layout.{Layout}
use Rattle.rows_table.specs.Tables.{layout_tree, layout_schema}
use Rattle.rows_table.specs.contracts.layout.Layout as layout_code
use Rattle.rows_table.specs.Rows.{Serves, IsListing}
use Rattle.rows_table.specs.Rising.{rise_from}
use Rattle.rows_table.specs.Station.{HoldsNone}
use Rattle.protocol.specs.Rows.{Row, blank}
use Rattle.protocol.specs.Versions.{Version}
use Rattle.rows_saved.specs.contracts.identity.Identity as identity
use Rattle.rows_saved.specs.declared.identity.Identity.{Identity}
use Rattle.rows_saved.specs.declared.fault.RowsFault.{RowsFault}
use Rattle.rows_saved.specs.declared.fault.RowsFault.TheVariants.{Store, WrongStation, WrongSchema, Damaged, OutOfMemory}
use Rattle.acceptor_store.specs.StationRow.{IsStationOf}
pub use Rattle.acceptor_store.specs.StationRow.{Agrees}
use Rattle.rows_saved.specs.Saved.{Saved, SameRows, WithRow, IsEither}
use Rattle.acceptor_store.specs.Layouts.{upgraded_from}
use Rattle.acceptor_store.specs.Columns.{version_in, saved_in, AreSound, damage_in}

-- rows in a database, as clauses see them
pub record SqliteOf (S : Type 0) : Type 0 where
  pub conn : Held S
  -- which station the rows belong to
  pub identity : Identity
  -- its tables were found, or were made in an empty database
  pub alone : Bool
  -- the schema as it was found
  pub found : Option Schema
  -- the layout that was found or made
  pub was : Layout
  -- the layout that they are in now
  pub layout : Layout
  -- a save or an upgrade was refused
  pub stopped : Bool
  pub refusals : ℕ

-- its fields, one after another
abbrev pub sqlite_code : {S : Type 0} → Coded S → Coded (SqliteOf S)
sqlite_code {S} store =
    code_by (Held S × (Identity × (Bool × (Option Schema × (Layout × (Layout × (Bool × ℕ)))))))
    (coded× (held_code store) (coded× identity.the_row.coded (coded× coded_bool
    (coded× (coded_option schema.the_row.coded) (coded× layout_code.the_row.coded (coded× layout_code.the_row.coded (coded× coded_bool coded_ℕ)))))))
    (λ s. (s.conn, (s.identity, (s.alone, (s.found, (s.was, (s.layout, (s.stopped, s.refusals))))))))
    (λ p. record {
      conn = p.0;
      identity = p.1.0;
      alone = p.1.1.0;
      found = p.1.1.1.0;
      was = p.1.1.1.1.0;
      layout = p.1.1.1.1.1.0;
      stopped = p.1.1.1.1.1.1.0;
      refusals = p.1.1.1.1.1.1.1;
    })
    (λ _. refl)

-- the version that they are at
abbrev pub rows_version : {S : Type 0} → SqliteOf S → Version
rows_version s = version_in s.layout

-- rows are in the layout that was found or made, or in the one that it was upgraded to
abbrev pub StemsFrom : Layout → Layout → Type 0
StemsFrom was layout = (layout ≡ was) ⊎ (layout ≡ upgraded_from was)

-- what the store owes: the tables are those that `create` makes in that layout, or an upgrade leaves, and no others
abbrev pub IsOurs : Bool → Layout → Option Schema → Type 0
IsOurs alone was found = IsTrue alone × IfSome found (λ schema. schema ≡ layout_schema was)

-- every key is a circuit number, its columns are a row of the layout, and the station is this one, in the layout
pub record HoldsRows (layout : Layout) (i : Identity) (trees : Trees) : Type 0 where
  pub sound : AreSound layout (trees (layout_tree layout))
  pub station : IsStationOf layout i trees

-- a database of this station: it lists the tables of the layout, and no others, and holds rows of the station
pub record IsOfStation (layout : Layout) (i : Identity) (trees : Trees) : Type 0 where
  pub tables : ListsTables (trees catalog_tree) (layout_schema layout)
  pub holds : HoldsRows layout i trees

-- a database of this station that holds this map, in this layout or upgraded from it
pub record HoldsAll (before : Layout) (i : Identity) (saved : Saved) (db : Trees) : Type 0 where
  pub layout : Layout
  pub either : (layout ≡ before) ⊎ (layout ≡ upgraded_from before)
  pub station : IsOfStation layout i db
  pub same : SameRows saved (saved_in layout db)

-- a refusal that speaks of no row
abbrev pub IsRefusal : RowsFault → Type 0
IsRefusal fault = (fault ≡ Store) ⊎ (fault ≡ OutOfMemory)

-- the listing of the table that the rows of a layout are in
abbrev pub Lists : Layout → Trees → (List Columns → Type 0) → Type 0
Lists layout trees P = (rows : List Columns) × IsListing layout (trees (layout_tree layout)) rows × P rows

-- its numbers do not rise from row to row
abbrev pub ListsOutOfOrder : Layout → Trees → Type 0
ListsOutOfOrder layout trees = Lists layout trees (λ rows. rise_from None rows ≡ false)

-- the first of its rows that is damaged has this key
abbrev pub ListsDamage : Layout → Trees → ℤ → Type 0
ListsDamage layout trees number = Lists layout trees (λ rows. damage_in layout rows ≡ Some number)

-- why its rows are not taken up
abbrev pub RefusesRows : Layout → Trees → RowsFault → Type 0
RefusesRows layout trees Store = Unit {0}
RefusesRows layout trees OutOfMemory = Unit {0}
RefusesRows layout trees WrongSchema = ListsOutOfOrder layout trees
RefusesRows layout trees WrongStation = ⊥
RefusesRows layout trees (Damaged number) = ListsDamage layout trees number

-- why a database of this layout is not taken up
abbrev pub RefusesToOpen : Layout → Option Identity → Trees → RowsFault → Type 0
RefusesToOpen layout given trees Store = Unit {0}
RefusesToOpen layout given trees OutOfMemory = Unit {0}
RefusesToOpen layout given trees WrongSchema = ((i : Identity) → ¬ IsStationOf layout i trees) ⊎ ListsOutOfOrder layout trees
RefusesToOpen layout given trees WrongStation = (i : Identity) × (wanted : Identity) × IsStationOf layout i trees × (given ≡ Some wanted) × (wanted ≢ i)
RefusesToOpen layout given trees (Damaged number) = (i : Identity) × IsStationOf layout i trees × Agrees given i × ListsDamage layout trees number

-- where the tables were those of a layout, and no others, they are the store's own, in that layout
abbrev pub IsOursAsFound : {S : Type 0} → State → SqliteOf S → Type 0
IsOursAsFound was s = (layout : Layout) → was.now.schema ≡ layout_schema layout → (s.was ≡ layout) × IsOurs s.alone s.was s.found

module _ {S : Type 0} (g : Ghosts S) where
  -- what the host owes: so far the disk has returned what was written, so nobody else wrote there
  abbrev pub IsHonest : SqliteOf S → Type 0
  IsHonest s = HasCleanDisk (state g s.conn)

  -- both: the tables are those that were made, and the disk has returned what was written
  abbrev pub IsKept : SqliteOf S → Type 0
  IsKept s = IsHonest s × IsOurs s.alone s.was s.found

  -- which fault a refused call answers: stopped rows their own, and kept rows none that speaks of a row
  abbrev pub Blames : SqliteOf S → SqliteOf S → RowsFault → Type 0
  Blames old new fault = (IsTrue old.stopped → fault ≡ Store) × (IsKept new → IsRefusal fault)

  -- no failure has shut the connection
  abbrev pub IsOpen : SqliteOf S → Type 0
  IsOpen s = IsTrue (state g s.conn).is_open

  -- the map that the database holds now
  abbrev pub saved_of : SqliteOf S → Saved
  saved_of s = saved_in s.layout (state g s.conn).now.trees

  -- what a crash at this moment may leave, in the layout of the rows
  abbrev pub MayLeave : SqliteOf S → Saved → Type 0
  MayLeave s saved = (db : Trees) × (state g s.conn).may_leave db × (saved ≡ saved_in s.layout db)

  -- whatever a crash at this moment leaves is a database of this station, in the layout of the rows
  abbrev pub LeavesStation : SqliteOf S → Identity → Type 0
  LeavesStation s i = (db : Trees) → (state g s.conn).may_leave db → IsOfStation s.layout i db

  -- whatever a crash in an upgrade leaves is a database of this station with this map, in the layout of the rows or upgraded from it
  abbrev pub LeavesAll : SqliteOf S → SqliteOf S → Type 0
  LeavesAll old new = (db : Trees) → (state g new.conn).may_leave db → HoldsAll old.layout old.identity (saved_of old) db

  -- an upgrade of open rows that were not stopped leaves, however it ends, their station and map, all in the one layout or all in the other
  abbrev pub LeavesInUpgrade : SqliteOf S → SqliteOf S → Type 0
  LeavesInUpgrade old new = IsKept new → IsOpen old → old.stopped ≡ false → LeavesAll old new

  -- each row is blank
  abbrev pub HoldsNoRow : SqliteOf S → Type 0
  HoldsNoRow s = (n : ℕ) → saved_of s n ≡ blank

  -- whatever a crash at this moment leaves has the tables of this layout, with this station and no row
  abbrev pub LeavesNoRow : Layout → Identity → SqliteOf S → Type 0
  LeavesNoRow layout i s = (db : Trees) → (state g s.conn).may_leave db → HoldsNone layout i.circuit i.member i.members db

  -- where the tables were those of a layout, and no others, and the disk has returned what was written, the rows are kept
  abbrev pub IsKeptAsFound : State → SqliteOf S → Type 0
  IsKeptAsFound was s = HasCleanDisk (state g s.conn) → (layout : Layout) → was.now.schema ≡ layout_schema layout → IsKept s

  -- of rows that were open, a crash leaves no database that it could not have left before
  abbrev pub LeavesNoOther : SqliteOf S → SqliteOf S → Type 0
  LeavesNoOther old new = IsOpen old → (db : Trees) → (state g new.conn).may_leave db → (state g old.conn).may_leave db

  -- rows that were read are those of the same station, in the same layout, as they were saved; they are stopped if they were, and a crash leaves
  -- no other
  abbrev pub AreLeftAsRead : SqliteOf S → SqliteOf S → Type 0
  AreLeftAsRead old new =
      (new.identity ≡ old.identity) × (new.stopped ≡ old.stopped) × (new.layout ≡ old.layout)
      × (IsKept new → IsOpen new → SameRows (saved_of old) (saved_of new)) × (IsKept new → LeavesNoOther old new)

  -- a crash leaves the rows as they were
  abbrev pub LeavesSameRows : SqliteOf S → SqliteOf S → Type 0
  LeavesSameRows old new = (left : Saved) → MayLeave new left → SameRows (saved_of old) left

  -- a crash leaves the rows with this one
  abbrev pub LeavesWithRow : ℕ → Row → SqliteOf S → SqliteOf S → Type 0
  LeavesWithRow number row old new = (left : Saved) → MayLeave new left → WithRow (saved_of old) number row left

  -- of open rows that were not stopped, a crash leaves the rows as they were, or with this one
  abbrev pub LeavesEither : ℕ → Row → SqliteOf S → SqliteOf S → Type 0
  LeavesEither number row old new =
      IsOpen old → old.stopped ≡ false → (left : Saved) → MayLeave new left → IsEither (saved_of old) number row left

  -- and a database of their station
  abbrev pub LeavesItsStation : SqliteOf S → SqliteOf S → Type 0
  LeavesItsStation old new = IsOpen old → old.stopped ≡ false → LeavesStation new old.identity

  -- rows between two calls, none of which was refused: whatever a crash leaves now is a database of their station, with the rows that they have
  pub record IsAtRest (s : SqliteOf S) : Type 0 where
    pub is_open : IsOpen s
    pub station : LeavesStation s s.identity
    pub rows : LeavesSameRows s s

  -- a failure has shut the connection, or the rows are as they were, or with this one
  abbrev pub HoldsEither : ℕ → Row → SqliteOf S → SqliteOf S → Type 0
  HoldsEither number row old new = (¬ IsOpen new) ⊎ IsEither (saved_of old) number row (saved_of new)

  -- a connection that is at rest on the tables of this station
  pub record Stands (layout : Layout) (conn : Held S) (i : Identity) : Type 0 where
    pub serves : Serves layout (state g conn)
    pub holds : HasCleanDisk (state g conn) → IsTrue (state g conn).is_open → IsOfStation layout i (state g conn).now.trees

  -- the connection went over from a layout, or was there already: it was open and is, it stands on the tables that an upgrade leaves, with the same map,
  -- and a crash leaves what it has now
  pub record UpgradedRows (before : Layout) (i : Identity) (old new : Held S) : Type 0 where
    pub was_open : IsTrue (state g old).is_open
    pub is_open : IsTrue (state g new).is_open
    pub stands : Stands (upgraded_from before) new i
    pub same : SameRows (saved_in before (state g old).now.trees) (saved_in (upgraded_from before) (state g new).now.trees)
    pub crash : (db : Trees) → (state g new).may_leave db → db ≡ (state g new).now.trees

  -- where the tables are those that were made, the connection of rows that go on stands on them
  abbrev pub IsServing : Held S → Identity → Bool → Layout → Option Schema → Layout → Bool → Type 0
  IsServing conn i alone was found layout stopped = stopped ≡ false → IsOurs alone was found → Stands layout conn i
