use Rattle.std.proofs.Common.{inl, inr}
use Rattle.std.specs.Prelude.{Result, Ok, Err, IfErr}
use Rattle.std.proofs.lemmas.Result.{IfOk-weaker}
use Rattle.acceptor_store.proofs.rows_at_path.SqliteRows+FileStore+FileFrom+T.create_at.Goals as goal

if_err_then : {T E : Type 0} (r : Result T E) (P Q : E → Type 0) → ((e : E) → P e → Q e) → IfErr r P → IfErr r Q
if_err_then (Ok x) P Q f p = tt
if_err_then (Err e) P Q f p = f e p

pub returns-in-Ok-clause-made : goal.returns-in-Ok-clause-made
returns-in-Ok-clause-made g c =
    IfOk-weaker c.rows_or_fault.result _ _
    (λ s is. record {
      is_open = λ clean ours. is.is_open (clean, ours);
      rests = λ clean ours. is.rests (clean, ours);
      made = record {
        was = c.in-Ok.conn;
        opened = c.in-Ok.ensures.opened;
        found = c.in-Ok.ensures.found;
        unmade = is.unmade;
        ours = is.ours;
        clean = is.clean;
      };
      blank = λ clean ours. is.blank (clean, ours);
      identity = is.identity;
      layout = (is.layout, is.fresh);
      version = is.version;
      unstopped = is.unstopped;
    })
    c.rows_or_fault.ensures.taken

pub returns-in-Ok-clause-fault : goal.returns-in-Ok-clause-fault
returns-in-Ok-clause-fault g c =
    if_err_then c.rows_or_fault.result _ _
    (λ fault why. inr (record {
      was = c.in-Ok.conn;
      now = why.0;
      opened = c.in-Ok.ensures.opened;
      found = c.in-Ok.ensures.found;
      why = why.1;
    }))
    c.rows_or_fault.ensures.fault

pub returns-clause-fault : goal.returns-clause-fault
returns-clause-fault g c = inl (record { error = c.in-Err.error; named = c.in-Err.ensures.named; is = c.file_fault_of.ensures.fault })
