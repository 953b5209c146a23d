-- What the statement that replaces a row of the table of rows is.
use Rattle.std.proofs.Common.{◌≡◌, ℕ, pos, negsuc, List, [], ◌∷◌, codes, false, Some, None, refl}
use Rattle.sqlite.specs.Term.{Term, lit, col, op2}
use Rattle.sqlite_sql.specs.declared.ops.BinaryOp.TheVariants.{Compare}
use Rattle.sqlite_sql.specs.declared.ops.CompareOp.TheVariants.{Eq}
use Rattle.sqlite.specs.Collation.TheVariants.{Binary}
use Rattle.sqlite.specs.declared.types.Value.TheVariants.{Null, Int}
use Rattle.sqlite.specs.Source.TheVariants.{Values}
use Rattle.sqlite.specs.Command.TheVariants.{InsertOr}
use Rattle.sqlite_schema.specs.declared.command.Conflict.TheVariants.{Abort}
use Rattle.sqlite_schema.specs.declared.command.Upsert.{Upsert}
use Rattle.sqlite.specs.Query.{Query, inner, end}
use Rattle.sqlite_tied.specs.Compute.{everything}
use Rattle.sqlite.specs.Listing.{understood}
use Rattle.sqlite.proofs.Callers.{IsPlain, command_of}
use Rattle.rows_table.specs.Tables.{row_schema}

abbrev pub put_text : List ℕ
put_text = codes "INSERT INTO acceptor_row VALUES (?1, ?2, ?3, ?4, ?5, ?6) ON CONFLICT (number) DO UPDATE SET promised_round = excluded.promised_round, promised_owner = excluded.promised_owner, vote_round = excluded.vote_round, vote_owner = excluded.vote_owner, tape = excluded.tape"

-- the rowid is the parameter at this place
abbrev pub has_key : ℕ → Term
has_key place = op2 (Compare Eq Binary) (col 1 0) (col 0 place)

-- the rows of a tree that have it
abbrev pub by_key : ℕ → ℕ → List Term → Query
by_key tree place shown = record {
  from = inner tree end;
  filter = has_key place ∷ [];
  group = None;
  project = shown;
  distinct = false;
  collations = [];
  order = [];
  limit = lit (Int (negsuc 0));
  offset = lit (Int (pos 0));
}

-- what is done where a row has the key: a row of the tree is written anew, whose rowid is the parameter at this place
abbrev pub upsert : ℕ → ℕ → List Term → Upsert
upsert tree place rewritten = record { target = Some (0 ∷ []); update = Some (record { lets = []; body = by_key tree place rewritten }) }

abbrev pub given : List Term
given = col 0 0 ∷ lit Null ∷ col 0 1 ∷ col 0 2 ∷ col 0 3 ∷ col 0 4 ∷ col 0 5 ∷ []

abbrev pub rewritten : List Term
rewritten = col 1 0 ∷ col 1 0 ∷ lit Null ∷ col 0 9 ∷ col 0 10 ∷ col 0 11 ∷ col 0 12 ∷ col 0 13 ∷ []

pub put_is : command_of (understood row_schema put_text) ≡ InsertOr 1 Abort (Values given 7) (upsert 1 6 rewritten ∷ [])
unfolding understood everything
put_is = refl

pub put_plain : IsPlain (understood row_schema put_text)
unfolding understood everything
put_plain = (refl, refl)
