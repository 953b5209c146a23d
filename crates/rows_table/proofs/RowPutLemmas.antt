-- The statement that replaces a row of the table of rows.
use Rattle.std.proofs.Common.{ℕ, pos, List, Option, refl}
use Rattle.rows_table.specs.Tables.{acceptor_row}
use Rattle.rows_table.specs.declared.layout.Layout.TheVariants.{One}
use Rattle.rows_table.specs.Rows.{columns_of}
use Rattle.rows_table.proofs.TextLemmas.{put_text, put_is, put_plain, given, rewritten}
use Rattle.rows_table.proofs.ParamLemmas.{optional}
use Rattle.rows_table.proofs.PutLemmas.{Replaces, cast_int, cast_null}

pub replaces_row : (n promised_round promised_owner : ℕ) (vote_round vote_owner : Option ℕ) (tape : Option (List ℕ))
    → Replaces One put_text n (columns_of promised_round promised_owner vote_round vote_owner tape)
replaces_row n promised_round promised_owner vote_round vote_owner tape = record {
  place = 1;
  table = acceptor_row;
  terms = given;
  width = 7;
  spot = 6;
  rewritten = rewritten;
  found = refl;
  tree = refl;
  command = put_is;
  plain = put_plain;
  bare = refl;
  childless = λ keys olds news. refl;
  uncounted = refl;
  given = refl;
  key = λ there. refl;
  read = λ there r. refl;
  taken = rw (cast_int (pos n), cast_null, cast_int (pos promised_round), cast_int (pos promised_owner), optional vote_round, optional vote_owner) refl;
}
