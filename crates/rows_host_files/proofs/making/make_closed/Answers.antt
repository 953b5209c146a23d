use Rattle.std.proofs.Common.{inl, inr}
use Rattle.std.specs.Prelude.{refl, Result, Ok, Err, IfErr}
use Rattle.std.proofs.lemmas.Result.{on_ok_weaker}
use Rattle.rows_host_files.proofs.making.make_closed.Goals as goal

any_err : {T E : Type 0} (r : Result T E) (P : E → Type 0) → ((e : E) → P e) → IfErr r P
any_err (Ok x) P each = tt
any_err (Err e) P each = each e

pub returns-in-Ok-clause-made : goal.returns-in-Ok-clause-made
returns-in-Ok-clause-made c =
    on_ok_weaker c.close_database.result
    (λ closed. (
      c.in-Ok.rows,
      record {
        its_own = c.in-Ok.ensures.made.made;
        blank = c.in-Ok.ensures.made.blank;
        identity = c.in-Ok.ensures.made.identity;
        version = c.in-Ok.ensures.made.version;
        goes = c.in-Ok.ensures.made.unstopped;
        closed = closed;
        wary = refl;
      },
    ))
    c.close_database.ensures

pub returns-in-Ok-clause-refused : goal.returns-in-Ok-clause-refused
returns-in-Ok-clause-refused c = any_err c.close_database.result _ (λ _. inr (c.in-Ok.rows, c.in-Ok.ensures.made))

pub returns-in-Err-clause-refused : goal.returns-in-Err-clause-refused
returns-in-Err-clause-refused c = inl (c.in-Err.fault, c.refused_by.ensures, c.in-Err.ensures.fault)
