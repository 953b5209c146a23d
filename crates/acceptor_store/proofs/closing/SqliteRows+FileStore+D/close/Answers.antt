use Rattle.std.proofs.Common.{rules, ◌≡◌, subst}
use Rattle.sqlite.specs.Closing.{IsCopied}
use Rattle.sqlite_store.specs.Laws.{stays_at}
use Rattle.acceptor_store.proofs.ClosingLemmas.{holds_alone, closed_gives_up}
use Rattle.acceptor_store.proofs.closing.SqliteRows+FileStore+D.close.Goals as goal

pub returns-in-Ok-clause-rows : goal.returns-in-Ok-clause-rows
returns-in-Ok-clause-rows g c running ours clean =
    let conn : c.into_connection.result ≡ c.args.self.conn = search rules in
    holds_alone c.args.self c.in-Ok.files (c.into_connection.ensures.stands running ours) (subst (λ held. IsCopied held c.in-Ok.files) conn (c.in-Ok.ensures.copied clean))

pub returns-in-Ok-clause-gives_up : goal.returns-in-Ok-clause-gives_up
returns-in-Ok-clause-gives_up g c =
    let conn : c.into_connection.result ≡ c.args.self.conn = search rules in
    closed_gives_up g.D.Disk c.args.self.conn c.in-Ok.files (stays_at c.args.self.conn.store g.met.D.Disk.seen_may_stay)
    (λ clean. subst (λ held. IsCopied held c.in-Ok.files) conn (c.in-Ok.ensures.copied clean))
