use Rattle.std.specs.Prelude.{refl}
use Rattle.std.proofs.lemmas.Result.{IfOk-weaker}
use Rattle.rows_host_files.proofs.host_files.HostFilesRowFiles.upgrade.Goals as goal

pub returns-clause-upgraded : goal.returns-clause-upgraded
returns-clause-upgraded g c = IfOk-weaker c.done_over.result _ _ (λ done upgraded. (c.in_ok-rows.rows.rows, c.in_ok-rows.ensures.taken.done, upgraded refl)) c.done_over.ensures.upgraded

pub returns-clause-done : goal.returns-clause-done
returns-clause-done g c = IfOk-weaker c.done_over.result _ _ (λ done wrote. wrote refl) c.done_over.ensures.done
