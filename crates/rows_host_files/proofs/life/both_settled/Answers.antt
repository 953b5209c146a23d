use Rattle.std.proofs.lemmas.Result.{on_ok_weaker}
use Rattle.rows_host_files.proofs.life.both_settled.Goals as goal

pub returns : goal.returns
returns g c =
    on_ok_weaker c.settled-2.result
    (λ only. record { same = λ i. record { log = c.settled.ensures.seen i; db = c.settled-2.ensures.seen i }; synced = record { log = c.in_ok-settled.ensures.synced; db = only } })
    c.settled-2.ensures.synced
