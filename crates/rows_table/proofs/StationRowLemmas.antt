-- What the statement that adds the row of the station does.
use Rattle.std.proofs.Common.{None, Some, Option, ◌≡◌, ℕ, pos, List, [], ◌∷◌, codes, slice_get, Ok, refl, ap, subst, ◌∙◌, arith}
use Rattle.sqlite.specs.declared.types.Value.TheVariants.{Null, Int}
use Rattle.sqlite.specs.Term.{Term, lit, col}
use Rattle.sqlite.specs.Source.TheVariants.{Values}
use Rattle.sqlite.specs.Schema.{Schema}
use Rattle.sqlite.specs.Table.{Table}
use Rattle.sqlite.specs.Command.TheVariants.{Insert}
use Rattle.sqlite.specs.Does.{Tally, Does, AtPlace, OnRows}
use Rattle.sqlite_tied.specs.Compute.{everything}
use Rattle.sqlite.specs.Listing.{understood}
use Rattle.sqlite.specs.Effect.{Database}
use Rattle.sqlite.specs.State.{State, mode_of, ExecutesInside}
use Rattle.sqlite.specs.Edit.{edit_of, edited}
use Rattle.sqlite.specs.Rowids.TheVariants.{Chosen}
use Rattle.sqlite.specs.Rows.{Written, Task}
use Rattle.sqlite_schema.specs.declared.schema.Keys.{Keys}
use Rattle.sqlite_rules.specs.Action.{works}
use Rattle.sqlite_rules.specs.Edit.{IsNoIndex}
use Rattle.sqlite_value.specs.Order.{Row}
use Rattle.sqlite_trees.specs.Tree.{Trees}
use Rattle.sqlite_trees.specs.Objects.{catalog_tree}
use Rattle.sqlite_catalog.specs.Listing.{Lists}
use Rattle.sqlite.proofs.Callers.{IsPlain, command_of, statement_of, runs_as, one_step}
use Rattle.rows_table.specs.Tables.{Layout, station, station_tree, layout_number, layout_tree, layout_schema}
use Rattle.rows_table.specs.declared.layout.Layout.TheVariants.{One, Two}
use Rattle.rows_table.specs.declared.layout.LayoutOrigin.TheVariants.{Created, Upgraded}
use Rattle.rows_table.specs.Rows.{whole}
use Rattle.rows_table.specs.Station.{station_row, HasTables, HasAll}
use Rattle.rows_table.proofs.PutLemmas.{went, same_value, cast_int, cast_null}

abbrev pub add_text : List ℕ
add_text = codes "INSERT INTO station VALUES (1, ?1, ?2, ?3, ?4)"

abbrev terms : List Term
terms = lit (Int (pos 1)) ∷ lit Null ∷ col 0 0 ∷ col 0 1 ∷ col 0 2 ∷ col 0 3 ∷ []

-- in this schema the statement inserts into the table of the station, and writes nothing else
record ReadsStation (schema : Schema) : Type 0 where
  table : slice_get schema.tables 0 ≡ Some station
  command : command_of (understood schema add_text) ≡ Insert 0 (Values terms 6)
  plain : IsPlain (understood schema add_text)
  unindexed : (other : ℕ) → IsNoIndex schema other
  childless : (keys : Keys) (news : List Row) → works schema keys 0 station_tree [] news ≡ []

takes : (layout : Layout) → ReadsStation (layout_schema layout)
unfolding understood everything
takes One = record { table = refl; command = refl; plain = (refl, refl); unindexed = λ other. tt; childless = λ keys news. refl }
takes (Two Created) = record { table = refl; command = refl; plain = (refl, refl); unindexed = λ other. tt; childless = λ keys news. refl }
takes (Two Upgraded) = record { table = refl; command = refl; plain = (refl, refl); unindexed = λ other. tt; childless = λ keys news. refl }

apart : (layout : Layout) → ¬ (layout_tree layout ≡ station_tree)
apart One e = omega (arith, e)
apart (Two Created) e = omega (arith, e)
apart (Two Upgraded) e = omega (arith, e)

-- the one row of the station table is added
pub adds : (layout : Layout) (old new : State) (circuit member members count : ℕ) → HasTables layout old
    → ExecutesInside 0 add_text (whole (layout_number layout) ∷ whole circuit ∷ whole member ∷ whole members ∷ []) old new (Ok count) → HasAll layout circuit member members new
adds layout old new circuit member members count had inside =
    let number = layout_number layout in
    let schema = layout_schema layout in
    let it = takes layout in
    let params = whole number ∷ whole circuit ∷ whole member ∷ whole members ∷ [] in
    let db = old.now.trees in
    let command = Insert 0 (Values terms 6) in
    let w = runs_as add_text params old new schema had.schema command it.command it.plain count inside.0 in
    let text = statement_of add_text (understood schema add_text) in
    let task : Table → Task = λ t. record { limit = old.step_limit; keys = (mode_of old).keys; schema = schema; table = t; params = params } in
    let does = subst (λ s. Does old.step_limit (mode_of old) params (record old.now { schema = s }) text None command (Ok (w.tally, new.now))) had.schema w.changed in
    let done = went (subst (λ (at : Option Table). AtPlace (λ t. OnRows (task t) (mode_of old) None command db) at (Ok (w.tally, new.now))) it.table does) in
    let now = ap (λ (p : Tally × Database). p.1) (same_value (went (went done.2).2).2) in
    let given = went done.1 in
    let written = went (went given.2).2 in
    let counted = went written.2 in
    let trees : done.0.trees ≡ written.0 = ap (λ (it : Written). it.trees) (same_value counted.2) ∙ same_value counted.1 in
    let edit = edit_of db station [] Chosen 0 given.0 in
    let step = one_step schema _ db written.0 edit (it.childless (mode_of old).keys edit.news) written.1 in
    let row : edited db edit ≡ station_row layout circuit member members ∷ [] =
    ap (λ all. edited db (edit_of db station [] Chosen 0 all)) given.1.1 ∙ rw (had.station, cast_null, cast_int (pos 1), cast_int (pos number), cast_int (pos circuit), cast_int (pos member), cast_int (pos members)) refl in
    let same : new.now.schema ≡ schema = ap (λ (d : Database). d.schema) now in
    record {
      schema = same;
      holds = record {
        rows = ap (λ (d : Database). d.trees (layout_tree layout)) now ∙ ap (λ (t : Trees). t (layout_tree layout)) trees ∙ step.others (layout_tree layout) (apart layout) (it.unindexed (layout_tree layout)) ∙ had.rows;
        station = ap (λ (d : Database). d.trees station_tree) now ∙ ap (λ (t : Trees). t station_tree) trees ∙ step.rows ∙ row;
        tables = subst (Lists (new.now.trees catalog_tree)) same w.sound.lists;
      };
      inside = inside.1.mode;
    }
