use Rattle.acceptor_store.proofs.GivingLemmas.{gives_up}
use Rattle.acceptor_store.proofs.given_up.into_files.Goals as goal

pub returns : goal.returns
returns g c = gives_up g.D.Disk c.args.conn c.into_store.result c.close.result c.close.ensures c.into_store.ensures.numbered c.into_store.ensures.sound c.into_store.ensures.quiet
