-- What the statements that make the two tables do.
use Rattle.std.proofs.Common.{None, ◌≡◌, inl, ℕ, List, [], codes, false, Ok, refl, sym, ap, subst, ◌∙◌}
use Rattle.sqlite.specs.Schema.{Schema}
use Rattle.sqlite.specs.Table.{Table}
use Rattle.sqlite.specs.Command.TheVariants.{CreateTable}
use Rattle.sqlite.specs.Compile.{table_defined_by}
use Rattle.sqlite.specs.Change.{created, next_tree}
use Rattle.sqlite.specs.Does.{Tally, lacks_sequence}
use Rattle.sqlite_tied.specs.Compute.{everything}
use Rattle.sqlite.specs.Listing.{understood}
use Rattle.sqlite.specs.Effect.{Database}
use Rattle.sqlite.specs.State.{State, Writes, ExecutesInside}
use Rattle.sqlite_trees.proofs.ListLemmas.{all-map}
use Rattle.sqlite_rules.specs.Lists.{Has}
use Rattle.sqlite_rules.proofs.ListLemmas.{all_has}
use Rattle.sqlite_catalog.specs.Change.{KeepsRows}
use Rattle.std.specs.Prelude.{map}
use Rattle.sqlite.proofs.Callers.{IsPlain, command_of, statement_of, runs_as}
use Rattle.rows_table.specs.Tables.{station, acceptor_row, station_schema, row_schema, no_schema, rows_tree, station_tree}
use Rattle.rows_table.proofs.PutLemmas.{went, same_value}

abbrev pub station_text : List ℕ
station_text = codes "CREATE TABLE station (one INTEGER PRIMARY KEY CHECK (one = 1),\n  layout INTEGER NOT NULL, circuit INTEGER NOT NULL,\n  member INTEGER NOT NULL, members INTEGER NOT NULL) STRICT"

abbrev pub rows_text : List ℕ
rows_text = codes "CREATE TABLE acceptor_row (number INTEGER PRIMARY KEY,\n  promised_round INTEGER NOT NULL, promised_owner INTEGER NOT NULL,\n  vote_round INTEGER, vote_owner INTEGER, tape BLOB) STRICT"

station_is : (command_of (understood no_schema station_text) ≡ CreateTable) × (statement_of station_text (understood no_schema station_text) ≡ station_text) × (table_defined_by station_text ≡ Ok station)
unfolding understood everything
station_is = (refl, refl, refl)

station_plain : IsPlain (understood no_schema station_text)
unfolding understood everything
station_plain = (refl, refl)

-- as its text defines it, before it has its place
abbrev unplaced : Table
unplaced = record acceptor_row { tree = 0 }

rows_is : (command_of (understood station_schema rows_text) ≡ CreateTable) × (statement_of rows_text (understood station_schema rows_text) ≡ rows_text) × (table_defined_by rows_text ≡ Ok unplaced)
unfolding understood everything
rows_is = (refl, refl, refl)

rows_plain : IsPlain (understood station_schema rows_text)
unfolding understood everything
rows_plain = (refl, refl)

placed : (created no_schema station ≡ station_schema) × (created station_schema unplaced ≡ row_schema)
placed = (refl, refl)

module _ (sql : List ℕ) (before after : Schema) (table : Table)
    (is : (command_of (understood before sql) ≡ CreateTable) × (statement_of sql (understood before sql) ≡ sql) × (table_defined_by sql ≡ Ok table)) (plain : IsPlain (understood before sql))
    (placed : created before table ≡ after) (uncounted : lacks_sequence after ≡ false) where
  -- a table is made where no table had its place
  pub makes : (old new : State) (count : ℕ) → old.now.schema ≡ before → ExecutesInside 0 sql [] old new (Ok count)
      → (new.now.schema ≡ after) × (new.now.trees (next_tree before) ≡ []) × ((tree : ℕ) → Has (map (λ (t : Table). t.tree) before.tables) tree → new.now.trees tree ≡ old.now.trees tree)
  makes old new count has inside =
      let w = subst (λ t. Writes old new None CreateTable t [] count) is.1 (runs_as sql [] old new before has CreateTable is.0 plain count inside.0) in
      let all = went w.changed in
      let first = went all.1 in
      let made = first.1 in
      let both : Ok made.table ≡ Ok table = sym made.defined ∙ is.2 in
      let same : made.table ≡ table = cc in
      let schema : first.0.schema ≡ after = made.is ∙ ap (λ s. created s made.table) has ∙ ap (created before) same ∙ placed in
      let calm : lacks_sequence first.0.schema ≡ false = ap lacks_sequence schema ∙ uncounted in
      let now : new.now ≡ first.0 = ap (λ (p : Tally × Database). p.1) (same_value all.2) ∙ same_value (rw calm at first.2) in (
        ap (λ (d : Database). d.schema) now ∙ schema,
        ap (λ (d : Database). d.trees (next_tree before)) now ∙ subst (λ s. first.0.trees (next_tree s) ≡ []) has made.empty,
        λ tree there. ap (λ (d : Database). d.trees tree) now ∙ all_has (λ t. first.0.trees t ≡ old.now.trees t) (map (λ (t : Table). t.tree) before.tables) tree (all-map _ _ _ (subst (λ s. KeepsRows s.tables old.now.trees first.0.trees) has made.others)) there,
      )

pub makes_station : (old new : State) (count : ℕ) → old.now.schema ≡ no_schema → ExecutesInside 0 station_text [] old new (Ok count) → (new.now.schema ≡ station_schema) × (new.now.trees station_tree ≡ [])
makes_station old new count has h = let made = makes station_text no_schema station_schema station station_is station_plain refl refl old new count has h in (made.0, made.1)

pub makes_rows : (old new : State) (count : ℕ) → old.now.schema ≡ station_schema → ExecutesInside 0 rows_text [] old new (Ok count)
    → (new.now.schema ≡ row_schema) × (new.now.trees rows_tree ≡ []) × (new.now.trees station_tree ≡ old.now.trees station_tree)
makes_rows old new count has h = let made = makes rows_text station_schema row_schema unplaced rows_is rows_plain refl refl old new count has h in (made.0, made.1, made.2 station_tree (inl refl))
