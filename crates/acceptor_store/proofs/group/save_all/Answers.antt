use Rattle.std.proofs.Common.{rules}
use Rattle.acceptor_store.proofs.GroupLemmas.{saved_together}
use Rattle.acceptor_store.proofs.group.save_all.Goals as goal

pub returns-in_err-put_each : goal.returns-in_err-put_each
returns-in_err-put_each g c = saved_together (λ db. g.met.S.Store.settled _ db) (λ db. g.met.S.Store.settled _ db) (search rules)

pub returns-in-Ok : goal.returns-in-Ok
returns-in-Ok g c = saved_together (λ db. g.met.S.Store.settled _ db) (λ db. g.met.S.Store.settled _ db) (search rules)

pub returns-in-Err : goal.returns-in-Err
returns-in-Err g c = saved_together (λ db. g.met.S.Store.settled _ db) (λ db. g.met.S.Store.settled _ db) (search rules)
