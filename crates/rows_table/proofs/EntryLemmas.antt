-- What the statements on the table of entries do.
use Rattle.std.proofs.Common.{None, Some, Option, ◌≡◌, ◌<◌, inl, inr, ℕ, zero, suc, pos, List, [], ◌∷◌, codes, false, slice_get, map, Ok, refl, sym, ap, subst, ◌∙◌, arith}
use Rattle.sqlite_value.specs.declared.value.Value.{Value}
use Rattle.sqlite.specs.declared.types.Value.TheVariants.{Null}
use Rattle.sqlite.specs.Kind.TheVariants.{Integer}
use Rattle.sqlite.specs.Term.{Term, lit, col}
use Rattle.sqlite.specs.Source.TheVariants.{Values}
use Rattle.sqlite.specs.Schema.{Schema}
use Rattle.sqlite.specs.Table.{Table}
use Rattle.sqlite.specs.Command.TheVariants.{CreateTable, Insert}
use Rattle.sqlite.specs.Compile.{table_defined_by}
use Rattle.sqlite.specs.Change.{created, next_tree}
use Rattle.sqlite.specs.Does.{Tally, Does, AtPlace, OnRows, lacks_sequence}
use Rattle.sqlite_tied.specs.Compute.{everything}
use Rattle.sqlite.specs.Listing.{understood}
use Rattle.sqlite.specs.Effect.{Database}
use Rattle.sqlite.specs.State.{State, mode_of, ExecutesInside}
use Rattle.sqlite.specs.Edit.{edit_of, edited}
use Rattle.sqlite.specs.Rowids.TheVariants.{Chosen}
use Rattle.sqlite.specs.Rows.{Task, Written}
use Rattle.sqlite_schema.specs.declared.schema.Keys.{Keys}
use Rattle.sqlite_rules.specs.Action.{works}
use Rattle.sqlite_rules.specs.Cast.{cast}
use Rattle.sqlite_rules.specs.Edit.{IsNoIndex}
use Rattle.sqlite_rules.specs.Lists.{Has}
use Rattle.sqlite_value.specs.Order.{Row}
use Rattle.sqlite_trees.specs.Tree.{Trees, put_row}
use Rattle.sqlite.proofs.Callers.{IsPlain, command_of, statement_of, runs_as, one_step}
use Rattle.rows_table.specs.Tables.{LayoutOrigin, acceptor_entry, schema_before, entry_schema, entries_tree}
use Rattle.rows_table.specs.declared.layout.LayoutOrigin.TheVariants.{Created, Upgraded}
use Rattle.rows_table.specs.Rows.{whole, stored}
use Rattle.rows_table.specs.Entries.{HasEntries}
use Rattle.rows_table.proofs.MakeLemmas.{makes}
use Rattle.rows_table.proofs.PutLemmas.{went, same_value, cast_int, cast_null}

-- ---- the table is made

abbrev pub table_text : List ℕ
table_text = codes "CREATE TABLE acceptor_entry (number INTEGER PRIMARY KEY,\n  promised_round INTEGER NOT NULL, promised_owner INTEGER NOT NULL,\n  vote_round INTEGER, vote_owner INTEGER,\n  length INTEGER, packed BLOB) STRICT"

-- as its text defines it, before it has its place
abbrev unplaced : Table
unplaced = acceptor_entry 0

table_is : (origin : LayoutOrigin) → (command_of (understood (schema_before origin) table_text) ≡ CreateTable)
    × (statement_of table_text (understood (schema_before origin) table_text) ≡ table_text) × (table_defined_by table_text ≡ Ok unplaced)
unfolding understood everything
table_is Created = (refl, refl, refl)
table_is Upgraded = (refl, refl, refl)

table_plain : (origin : LayoutOrigin) → IsPlain (understood (schema_before origin) table_text)
unfolding understood everything
table_plain Created = (refl, refl)
table_plain Upgraded = (refl, refl)

placed : (origin : LayoutOrigin) → created (schema_before origin) unplaced ≡ entry_schema origin
placed Created = refl
placed Upgraded = refl

uncounted : (origin : LayoutOrigin) → lacks_sequence (entry_schema origin) ≡ false
uncounted Created = refl
uncounted Upgraded = refl

next_is : (origin : LayoutOrigin) → next_tree (schema_before origin) ≡ entries_tree origin
next_is Created = refl
next_is Upgraded = refl

-- each tree below that of the entries is a table's of the schema before
was_there : (origin : LayoutOrigin) (tree : ℕ) → tree < entries_tree origin → Has (map (λ (t : Table). t.tree) (schema_before origin).tables) tree
was_there Created zero low = inl refl
was_there Created (suc more) low = absurd (omega (arith, low))
was_there Upgraded zero low = inl refl
was_there Upgraded (suc zero) low = inr (inl refl)
was_there Upgraded (suc (suc more)) low = absurd (omega (arith, low))

pub makes_entries : (origin : LayoutOrigin) (old new : State) (count : ℕ) → old.now.schema ≡ schema_before origin → ExecutesInside 0 table_text [] old new (Ok count)
    → HasEntries origin old.now.trees [] new
makes_entries origin old new count has inside =
    let made = makes table_text (schema_before origin) (entry_schema origin) unplaced (table_is origin) (table_plain origin) (placed origin) (uncounted origin) old new count has inside in
    record {
      schema = made.0;
      entries = subst (λ (tree : ℕ). new.now.trees tree ≡ []) (next_is origin) made.1;
      others = λ tree low. made.2 tree (was_there origin tree low);
      inside = inside.1.mode;
    }

-- ---- a row is added

abbrev pub insert_text : List ℕ
insert_text = codes "INSERT INTO acceptor_entry VALUES (?1, ?2, ?3, ?4, ?5, ?6, ?7)"

abbrev terms : List Term
terms = col 0 0 ∷ lit Null ∷ col 0 1 ∷ col 0 2 ∷ col 0 3 ∷ col 0 4 ∷ col 0 5 ∷ col 0 6 ∷ []

-- in this schema the statement inserts into the table of entries, which is in this tree, and writes nothing else
pub record TakesEntries (schema : Schema) (tree : ℕ) : Type 0 where
  pub place : ℕ
  pub table : slice_get schema.tables place ≡ Some (acceptor_entry tree)
  pub command : command_of (understood schema insert_text) ≡ Insert place (Values terms 8)
  pub plain : IsPlain (understood schema insert_text)
  pub unindexed : (other : ℕ) → IsNoIndex schema other
  pub childless : (keys : Keys) (news : List Row) → works schema keys 0 tree [] news ≡ []

-- a database of layout 2 does so, created or upgraded
pub takes : (origin : LayoutOrigin) → TakesEntries (entry_schema origin) (entries_tree origin)
unfolding understood everything
takes Created = record { place = 1; table = refl; command = refl; plain = (refl, refl); unindexed = λ other. tt; childless = λ keys news. refl }
takes Upgraded = record { place = 2; table = refl; command = refl; plain = (refl, refl); unindexed = λ other. tt; childless = λ keys news. refl }

-- the values that the columns take as they are
pub record AreTaken (c1 c2 c3 c4 c5 : Value) : Type 0 where
  pub first : cast Integer c1 ≡ c1
  pub second : cast Integer c2 ≡ c2
  pub third : cast Integer c3 ≡ c3
  pub fourth : cast Integer c4 ≡ c4
  pub fifth : cast Integer c5 ≡ c5

-- the row goes into the one tree
pub record IsInserted (tree : ℕ) (row : Row) (old new : Database) : Type 0 where
  pub schema : new.schema ≡ old.schema
  pub rows : new.trees tree ≡ put_row row (old.trees tree)
  pub others : (other : ℕ) → ¬ (other ≡ tree) → new.trees other ≡ old.trees other

pub inserts : (schema : Schema) (tree : ℕ) → TakesEntries schema tree → (old new : State) (n : ℕ) (c1 c2 c3 c4 c5 c6 : Value) (count : ℕ) → AreTaken c1 c2 c3 c4 c5 → old.now.schema ≡ schema
    → ExecutesInside 0 insert_text (whole n ∷ c1 ∷ c2 ∷ c3 ∷ c4 ∷ c5 ∷ c6 ∷ []) old new (Ok count)
    → IsInserted tree (stored n (c1 ∷ c2 ∷ c3 ∷ c4 ∷ c5 ∷ c6 ∷ [])) old.now new.now
inserts schema tree takes old new n c1 c2 c3 c4 c5 c6 count taken has inside =
    let params = whole n ∷ c1 ∷ c2 ∷ c3 ∷ c4 ∷ c5 ∷ c6 ∷ [] in
    let db = old.now.trees in
    let table = acceptor_entry tree in
    let command = Insert takes.place (Values terms 8) in
    let w = runs_as insert_text params old new schema has command takes.command takes.plain count inside.0 in
    let text = statement_of insert_text (understood schema insert_text) in
    let task : Table → Task = λ t. record { limit = old.step_limit; keys = (mode_of old).keys; schema = schema; table = t; params = params } in
    let does = subst (λ s. Does old.step_limit (mode_of old) params (record old.now { schema = s }) text None command (Ok (w.tally, new.now))) has w.changed in
    let done = went (subst (λ (at : Option Table). AtPlace (λ t. OnRows (task t) (mode_of old) None command db) at (Ok (w.tally, new.now))) takes.table does) in
    let now = ap (λ (p : Tally × Database). p.1) (same_value (went (went done.2).2).2) in
    let given = went done.1 in
    let written = went (went given.2).2 in
    let counted = went written.2 in
    let trees : done.0.trees ≡ written.0 = ap (λ (it : Written). it.trees) (same_value counted.2) ∙ same_value counted.1 in
    let edit = edit_of db table [] Chosen 0 given.0 in
    let step = one_step schema _ db written.0 edit (takes.childless (mode_of old).keys edit.news) written.1 in
    let rows : edited db edit ≡ put_row (stored n (c1 ∷ c2 ∷ c3 ∷ c4 ∷ c5 ∷ c6 ∷ [])) (db tree) =
    ap (λ all. edited db (edit_of db table [] Chosen 0 all)) given.1.1 ∙ rw (cast_null, cast_int (pos n), taken.first, taken.second, taken.third, taken.fourth, taken.fifth) refl in
    record {
      schema = ap (λ (d : Database). d.schema) now ∙ sym has;
      rows = ap (λ (d : Database). d.trees tree) now ∙ ap (λ (t : Trees). t tree) trees ∙ step.rows ∙ rows;
      others = λ other apart. ap (λ (d : Database). d.trees other) now ∙ ap (λ (t : Trees). t other) trees ∙ step.others other apart (takes.unindexed other);
    }

pub adds_entry : (origin : LayoutOrigin) (before : Trees) (rows : List Row) (old new : State) (n : ℕ) (c1 c2 c3 c4 c5 c6 : Value) (count : ℕ) → AreTaken c1 c2 c3 c4 c5 → HasEntries origin before rows old
    → ExecutesInside 0 insert_text (whole n ∷ c1 ∷ c2 ∷ c3 ∷ c4 ∷ c5 ∷ c6 ∷ []) old new (Ok count)
    → HasEntries origin before (put_row (stored n (c1 ∷ c2 ∷ c3 ∷ c4 ∷ c5 ∷ c6 ∷ [])) rows) new
adds_entry origin before rows old new n c1 c2 c3 c4 c5 c6 count taken has inside =
    let in_ = inserts (entry_schema origin) (entries_tree origin) (takes origin) old new n c1 c2 c3 c4 c5 c6 count taken has.schema inside in
    record {
      schema = in_.schema ∙ has.schema;
      entries = in_.rows ∙ ap (put_row (stored n (c1 ∷ c2 ∷ c3 ∷ c4 ∷ c5 ∷ c6 ∷ []))) has.entries;
      others = λ tree low. in_.others tree (λ e. omega (arith, low, e)) ∙ has.others tree low;
      inside = inside.1.mode;
    }
