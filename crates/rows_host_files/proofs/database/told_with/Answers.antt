use Rattle.std.proofs.Common.{inr, ap, sym, ◌∙◌, refl}
use Rattle.std.specs.Prelude.{Some}
use Rattle.command_ends.specs.Ends.{end_of}
use Rattle.command_ends.specs.declared.fault.Fault.TheVariants as faults
use Rattle.rows_files.specs.Causes.{refused_for}
use Rattle.rows_host_files.proofs.database.told_with.Goals as goal

pub returns-in-Rows-Store : goal.returns-in-Rows-Store
returns-in-Rows-Store c = record {
  told = record {
    text = inr (record {
      was = c.in-Rows-Store.is ∙ ap faults.Rows (rw c.in-Rows-Store.is at c.in-Rows-Store.field-0-is);
      why = record {
        refused = refused_for c.args.cause;
        so = tt;
        told = record { cause = (refl, ap Some (sym c.text.ensures)); end = refl; rows = tt };
      };
    });
    end = sym (ap end_of c.in-Rows-Store.is);
  };
}
