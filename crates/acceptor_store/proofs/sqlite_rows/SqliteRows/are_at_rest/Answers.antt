use Rattle.sqlite.specs.Held.{state}
use Rattle.acceptor_store.proofs.StandLemmas.{IsSettled}
use Rattle.acceptor_store.proofs.RestLemmas.{rests}
use Rattle.acceptor_store.proofs.sqlite_rows.SqliteRows.are_at_rest.Goals as goal

pub returns : goal.returns
returns g c = rw (← c.self.view_is) (λ kept opened running.
    let law : IsSettled (state g.S.Store c.self.inside.conn) = λ db. g.met.S.Store.settled c.self.inside.conn.store db in
    rests g.S.Store _ law (c.self.invariant.1 running kept.1) kept opened)
