-- A fault of an input is none of the rows.
use Rattle.std.proofs.Common.{◌≡◌, Result, Ok, Err, subst}
use Rattle.std.specs.Prelude.{IfErr}
use Rattle.command_ends.specs.Ends.{end_of, IsOfInput}
use Rattle.command_ends.specs.declared.end.End.{End}
use Rattle.command_ends.specs.declared.end.End.TheVariants.{Store}
use Rattle.command_ends.specs.declared.fault.Fault.{Fault}

-- an end of an input is not that of the rows
pub of_no_rows : (end : End) → IsOfInput end → end ≡ Store → ⊥
of_no_rows end input stored = subst IsOfInput stored input

-- so is the fault of what may be refused by an input alone
pub no_rows : {A : Type 0} (r : Result A Fault) → IfErr r (λ fault. IsOfInput (end_of fault)) → IfErr r (λ fault. end_of fault ≡ Store → ⊥)
no_rows (Ok x) input = tt
no_rows (Err fault) input = of_no_rows (end_of fault) input
