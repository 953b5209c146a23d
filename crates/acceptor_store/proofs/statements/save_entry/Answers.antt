use Rattle.std.proofs.Common.{rules, ℕ, subst₂}
use Rattle.sqlite_value.specs.Order.{Row as Columns}
use Rattle.sqlite.specs.Held.{state}
use Rattle.rows_table.specs.declared.layout.Layout.TheVariants.{Two}
use Rattle.rows_table.specs.Rows.{WasSaved}
use Rattle.acceptor_store.proofs.statements.save_entry.Goals as goal

pub returns-in-Ok-put_entry : goal.returns-in-Ok-put_entry
returns-in-Ok-put_entry g c = λ origin.
    let puts = c.put_entry.ensures origin in
    record {
      serves = puts.serves;
      saved = λ serves clean.
          subst₂ (λ (n : ℕ) (columns : Columns). WasSaved (Two origin) n columns (state g.S.Store c.args.conn.now) (state g.S.Store c.put_entry.new.conn)) c.in-Ok.ensures.number (c.in-Ok.ensures.columns origin)
          ((c.in-Ok-put_entry.ensures origin).saved serves clean);
      back = search rules;
      err = λ serves clean opened. tt;
      crash = search rules;
      clean = puts.clean;
      refusal = tt;
    }

pub returns : goal.returns
returns g c = λ origin.
    let puts = c.put_entry.ensures origin in
    let kept = puts.err in
    record {
      serves = puts.serves;
      saved = λ serves clean. tt;
      back = tt;
      err = search rules;
      crash = search rules;
      clean = puts.clean;
      refusal = search rules;
    }
