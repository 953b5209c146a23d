use Rattle.sqlite_wal.proofs.StateLemmas.{AddsNothing-trans}
use Rattle.rows_life.proofs.copying.empty.Goals as goal

pub returns-clause-kept : goal.returns-clause-kept
returns-clause-kept g c = AddsNothing-trans _ _ _ _ c.recover.ensures.crash (rw (← c.recover.ensures.size) c.finish.ensures.keeps.crash)
