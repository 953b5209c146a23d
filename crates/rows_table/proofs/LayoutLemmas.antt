-- What the statement that sets the layout does.
use Rattle.std.proofs.Common.{None, ◌≡◌, ℕ, pos, negsuc, List, [], ◌∷◌, codes, false, map, Ok, refl, ap, subst, ◌∙◌, arith}
use Rattle.sqlite.specs.declared.types.Value.TheVariants.{Null, Int}
use Rattle.sqlite.specs.Term.{Term, lit, col}
use Rattle.sqlite.specs.Query.{Query, Output, output, inner, end, IsAnswer}
use Rattle.sqlite.specs.Program.{overlay}
use Rattle.sqlite.specs.Command.TheVariants.{Update}
use Rattle.sqlite.specs.Does.{Tally, Does}
use Rattle.sqlite_tied.specs.Compute.{everything}
use Rattle.sqlite.specs.Listing.{understood}
use Rattle.sqlite.specs.Effect.{Database}
use Rattle.sqlite.specs.State.{State, mode_of, ExecutesInside}
use Rattle.sqlite.specs.Edit.{edit_of, edited}
use Rattle.sqlite_rules.specs.Calls.{ids_of}
use Rattle.sqlite.specs.Rowids.TheVariants.{Given}
use Rattle.sqlite.specs.Rows.{Written}
use Rattle.sqlite_value.specs.Order.{Row, column, value_cmp}
use Rattle.sqlite_trees.specs.Tree.{Trees}
use Rattle.sqlite_trees.specs.Objects.{catalog_tree}
use Rattle.sqlite_catalog.specs.Listing.{Lists}
use Rattle.sqlite.proofs.Callers.{IsPlain, command_of, statement_of, runs_as, one_step, one_permutation}
use Rattle.rows_table.specs.Tables.{station, entry_schema, rows_tree, station_tree, entries_tree}
use Rattle.rows_table.specs.declared.layout.Layout.TheVariants.{Two}
use Rattle.rows_table.specs.declared.layout.LayoutOrigin.TheVariants.{Upgraded}
use Rattle.rows_table.specs.Rows.{whole}
use Rattle.rows_table.specs.Station.{station_row}
use Rattle.rows_table.specs.Entries.{HasEntries, HasLayoutOne, HasUpgraded}
use Rattle.rows_table.proofs.AllLemmas.{as_map}
use Rattle.rows_table.proofs.PutLemmas.{went, same_value, cast_int, cast_null}

abbrev pub layout_text : List ℕ
layout_text = codes "UPDATE station SET layout = 2"

abbrev terms : List Term
terms = col 1 0 ∷ col 1 0 ∷ lit Null ∷ lit (Int (pos 2)) ∷ col 1 3 ∷ col 1 4 ∷ col 1 5 ∷ []

abbrev relaid : Query
relaid = record {
  from = inner 0 end;
  filter = [];
  group = None;
  project = terms;
  distinct = false;
  collations = [];
  order = [];
  limit = lit (Int (negsuc 0));
  offset = lit (Int (pos 0));
}

layout_is : command_of (understood (entry_schema Upgraded) layout_text) ≡ Update 0 (record { lets = []; body = relaid })
unfolding understood everything
layout_is = refl

layout_plain : IsPlain (understood (entry_schema Upgraded) layout_text)
unfolding understood everything
layout_plain = (refl, refl)

rows_apart : ¬ (rows_tree ≡ station_tree)
rows_apart e = omega (arith, e)

entries_apart : ¬ ((entries_tree Upgraded) ≡ station_tree)
entries_apart e = omega (arith, e)

-- the columns of the one row, one by one
record AreColumns (row : Row) (circuit member members : ℕ) : Type 0 where
  key : column row 0 ≡ whole 1
  first : column row 3 ≡ whole circuit
  second : column row 4 ≡ whole member
  third : column row 5 ≡ whole members

columns_are : (db : Trees) (was : HasLayoutOne db) → AreColumns was.row was.circuit was.member was.members
columns_are db was = record {
  key = ap (λ r. column r 0) was.columns;
  first = ap (λ r. column r 2) was.columns;
  second = ap (λ r. column r 3) was.columns;
  third = ap (λ r. column r 4) was.columns;
}

abbrev upgraded_row : ℕ → ℕ → ℕ → Row
upgraded_row = station_row (Two Upgraded)

-- the one row, with its own number before it
shown : (db : Trees) (rows : List Row) (row : Row) (circuit member members : ℕ) → AreColumns row circuit member members → db station_tree ≡ row ∷ [] → IsAnswer relaid (overlay db []) [] rows
    → rows ≡ (whole 1 ∷ upgraded_row circuit member members) ∷ []
shown db rows row circuit member members are has a =
    let table = db station_tree in
    let kept : a.kept ≡ map (output relaid) (map (λ r. [] ∷ r ∷ []) table) = a.distinct ∙ ap (map (output relaid)) (a.grouped ∙ as_map table) in
    let one : a.kept ≡ output relaid ([] ∷ row ∷ []) ∷ [] = kept ∙ ap (λ t. map (output relaid) (map (λ r. [] ∷ r ∷ []) t)) has in
    let ordered = one_permutation (output relaid ([] ∷ row ∷ [])) a.ordered (rw one at a.same) in
    let same : (output relaid ([] ∷ row ∷ [])).1 ≡ whole 1 ∷ upgraded_row circuit member members = rw (are.key, are.first, are.second, are.third) refl in
    a.shown ∙ ap (map (λ (p : Output). p.1)) ordered ∙ ap (λ r. r ∷ []) same

-- the station is in layout 2, and nothing else is changed
pub lays : (before : Trees) (rows : List Row) (old new : State) (count : ℕ) → HasEntries Upgraded before rows old → HasLayoutOne before
    → ExecutesInside 0 layout_text [] old new (Ok count) → HasUpgraded before rows new
unfolding value_cmp lib.Ieee.is_nan lib.Ieee.lt
lays before rows old new count has was inside =
    let db = old.now.trees in
    let station_is = has.others station_tree (omega arith) ∙ was.station in
    let command = Update 0 (record { lets = []; body = relaid }) in
    let w = runs_as layout_text [] old new (entry_schema Upgraded) has.schema command layout_is layout_plain count inside.0 in
    let text = statement_of layout_text (understood (entry_schema Upgraded) layout_text) in
    let done = went (subst (λ s. Does old.step_limit (mode_of old) [] (record old.now { schema = s }) text None command (Ok (w.tally, new.now))) has.schema w.changed) in
    let now = ap (λ (p : Tally × Database). p.1) (same_value (went (went done.2).2).2) in
    let asked = went done.1 in
    let are = columns_are before was in
    let all = shown db asked.0 was.row was.circuit was.member was.members are station_is (asked.1.answer Null) in
    let ended = went asked.2 in
    let trees : done.0.trees ≡ ended.0 = ap (λ (it : Written). it.trees) (same_value ended.2) in
    let step = one_step (entry_schema Upgraded) _ db ended.0 (edit_of db station (ids_of asked.0) Given 1 asked.0) refl ended.1 in
    let edit : edited db (edit_of db station (ids_of asked.0) Given 1 asked.0) ≡ upgraded_row was.circuit was.member was.members ∷ [] =
    ap (λ l. edited db (edit_of db station (ids_of l) Given 1 l)) all ∙ rw (station_is, are.key, cast_null, cast_int (pos 1), cast_int (pos 2), cast_int (pos was.circuit), cast_int (pos was.member), cast_int (pos was.members)) refl in
    let schema : new.now.schema ≡ entry_schema Upgraded = ap (λ (d : Database). d.schema) now in
    record {
      schema = schema;
      holds = record {
        entries = ap (λ (d : Database). d.trees (entries_tree Upgraded)) now ∙ ap (λ (t : Trees). t (entries_tree Upgraded)) trees ∙ step.others (entries_tree Upgraded) entries_apart tt ∙ has.entries;
        old_rows = ap (λ (d : Database). d.trees rows_tree) now ∙ ap (λ (t : Trees). t rows_tree) trees ∙ step.others rows_tree rows_apart tt ∙ has.others rows_tree (omega arith);
        was = was;
        station = ap (λ (d : Database). d.trees station_tree) now ∙ ap (λ (t : Trees). t station_tree) trees ∙ step.rows ∙ edit;
        tables = subst (Lists (new.now.trees catalog_tree)) schema w.sound.lists;
      };
      inside = inside.1.mode;
    }
