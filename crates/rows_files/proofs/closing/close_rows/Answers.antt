use Rattle.std.proofs.Common.{Result, IfErr, sym, subst}
use Rattle.command_ends.specs.Ends.{end_of, IsOfRows}
use Rattle.command_ends.specs.declared.fault.Fault.{Fault}
use Rattle.rows_files.proofs.closing.close_rows.Goals as goal

pub returns-in-Err-clause-rows : goal.returns-in-Err-clause-rows
returns-in-Err-clause-rows g c = λ rows.
    subst IsOfRows (sym c.let_go.ensures.end) (subst (λ (o : Result (Unit {0}) Fault). IfErr o (λ fault. IsOfRows (end_of fault))) c.in-Err.is rows)
