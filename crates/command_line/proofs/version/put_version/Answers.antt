use Rattle.std.proofs.KnownBytes.{Appends-kept}
use Rattle.std.proofs.lemmas.Result.{err_from_is_err_and}
use Rattle.streams.proofs.Fronts.{front_of_all}
use Rattle.command_line.proofs.version.put_version.Goals as goal

pub returns-in_err-hand_on-clause-err : goal.returns-in_err-hand_on-clause-err
returns-in_err-hand_on-clause-err g c =
    let p = err_from_is_err_and c.from_residual-in_err-hand_on.result c.from_residual-in_err-hand_on.ensures.1 in
    rw p.1 (front_of_all _ _ _ (Appends-kept _ (g.W.Write.contents c.put_line.new.out) _ _ c.in_ok-put_line.ensures.ok c.hand_on.ensures))
