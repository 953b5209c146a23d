-- The statement that replaces a row of the table of entries.
use Rattle.std.proofs.Common.{◌≡◌, ℕ, pos, List, [], ◌∷◌, codes, slice_get, Some, Option, refl}
use Rattle.sqlite.specs.declared.types.Value.TheVariants.{Null}
use Rattle.sqlite.specs.Term.{Term, lit, col}
use Rattle.sqlite.specs.Source.TheVariants.{Values}
use Rattle.sqlite.specs.Command.TheVariants.{InsertOr}
use Rattle.sqlite_schema.specs.declared.command.Conflict.TheVariants.{Abort}
use Rattle.sqlite_schema.specs.declared.schema.Keys.{Keys}
use Rattle.sqlite_rules.specs.Action.{works}
use Rattle.sqlite_value.specs.Order.{Row}
use Rattle.sqlite_tied.specs.Compute.{everything}
use Rattle.sqlite.specs.Listing.{understood}
use Rattle.sqlite.proofs.Callers.{IsPlain, command_of}
use Rattle.rows_table.specs.Tables.{LayoutOrigin, acceptor_entry, entry_schema, entries_tree}
use Rattle.rows_table.specs.declared.layout.LayoutOrigin.TheVariants.{Created, Upgraded}
use Rattle.rows_table.specs.declared.layout.Layout.TheVariants.{Two}
use Rattle.rows_table.specs.Entries.{entry_columns}
use Rattle.rows_table.proofs.TextLemmas.{upsert}
use Rattle.rows_table.proofs.ParamLemmas.{optional}
use Rattle.rows_table.proofs.PutLemmas.{Replaces, cast_int, cast_null}

abbrev pub put_text : List ℕ
put_text = codes "INSERT INTO acceptor_entry VALUES (?1, ?2, ?3, ?4, ?5, ?6, ?7) ON CONFLICT (number) DO UPDATE SET promised_round = excluded.promised_round, promised_owner = excluded.promised_owner, vote_round = excluded.vote_round, vote_owner = excluded.vote_owner, length = excluded.length, packed = excluded.packed"

abbrev given : List Term
given = col 0 0 ∷ lit Null ∷ col 0 1 ∷ col 0 2 ∷ col 0 3 ∷ col 0 4 ∷ col 0 5 ∷ col 0 6 ∷ []

abbrev rewritten : List Term
rewritten = col 1 0 ∷ col 1 0 ∷ lit Null ∷ col 0 10 ∷ col 0 11 ∷ col 0 12 ∷ col 0 13 ∷ col 0 14 ∷ col 0 15 ∷ []

put_is : (origin : LayoutOrigin) → command_of (understood (entry_schema origin) put_text) ≡ InsertOr (entries_tree origin) Abort (Values given 8) (upsert (entries_tree origin) 7 rewritten ∷ [])
unfolding understood everything
put_is Created = refl
put_is Upgraded = refl

put_plain : (origin : LayoutOrigin) → IsPlain (understood (entry_schema origin) put_text)
unfolding understood everything
put_plain Created = (refl, refl)
put_plain Upgraded = (refl, refl)

found : (origin : LayoutOrigin) → slice_get (entry_schema origin).tables (entries_tree origin) ≡ Some (acceptor_entry (entries_tree origin))
found Created = refl
found Upgraded = refl

bare : (origin : LayoutOrigin) → (entry_schema origin).indexes ≡ []
bare Created = refl
bare Upgraded = refl

childless : (origin : LayoutOrigin) (keys : Keys) (olds news : List Row) → works (entry_schema origin) keys 0 (entries_tree origin) olds news ≡ []
childless Created keys olds news = refl
childless Upgraded keys olds news = refl

-- a database of layout 2 does so, created or upgraded
pub replaces_entry : (origin : LayoutOrigin) (n promised_round promised_owner : ℕ) (vote_round vote_owner frames : Option ℕ) (packed : Option (List ℕ))
    → Replaces (Two origin) put_text n (entry_columns promised_round promised_owner vote_round vote_owner frames packed)
replaces_entry origin n promised_round promised_owner vote_round vote_owner frames packed = record {
  place = entries_tree origin;
  table = acceptor_entry (entries_tree origin);
  terms = given;
  width = 8;
  spot = 7;
  rewritten = rewritten;
  found = found origin;
  tree = refl;
  command = put_is origin;
  plain = put_plain origin;
  bare = bare origin;
  childless = childless origin;
  uncounted = refl;
  given = refl;
  key = λ there. refl;
  read = λ there r. refl;
  taken = rw (cast_int (pos n), cast_null, cast_int (pos promised_round), cast_int (pos promised_owner), optional vote_round, optional vote_owner, optional frames) refl;
}
