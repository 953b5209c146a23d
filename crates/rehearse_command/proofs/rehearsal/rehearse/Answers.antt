-- A flush leaves what was written.
use Rattle.std.specs.Io.KnownBytes.{Keeps}
use Rattle.std.proofs.KnownBytes.{Keeps-refl}
use Rattle.rehearse_command.specs.Rehearsals.{inputs}
use Rattle.rehearse_command.proofs.RehearsalEnds.{rehearsed_so}
use Rattle.rehearse_command.proofs.rehearsal.rehearse.Goals as goal
use Rattle.rehearse_command.proofs.rehearsal.rehearse.Goals.{then-is_err, else-is_err}

pub returns : goal.returns
returns g c =
    let now = g.W.Write.contents c.rehearsed-outcome.new.out in
    let keeps = elim c.if-is_err.branch as (λ _. Keeps now (g.W.Write.contents c.if-is_err.out)) [
      | then-is_err w ↦ rw w.out-is w.flush.ensures.bytes
      | else-is_err w ↦ rw w.out-is (Keeps-refl now)
    ] in
    rehearsed_so (inputs (g.R.Read.remaining c.args.order.table) (g.R.Read.remaining c.args.order.widths)) c.rehearsed-outcome.result c.end_with.result (g.W.Write.contents c.args.out.now) now
    (g.W.Write.contents c.if-is_err.out) c.end_with.ensures keeps c.rehearsed-outcome.ensures
