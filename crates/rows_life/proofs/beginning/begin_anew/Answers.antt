use Rattle.sqlite_disk.specs.declared.Files.{Files}
use Rattle.rows_life.proofs.FilesLemmas.{both_clean, lose_then, unwritten_loses}
use Rattle.rows_life.proofs.beginning.begin_anew.Goals as goal

pub returns-in-Ok-clause-kept : goal.returns-in-Ok-clause-kept
returns-in-Ok-clause-kept g c =
    let h = g.D.Disk in
    let old = c.args.files.now in
    let mid : Files _ = record { log = c.log_on.new.log; db = c.page_size_on.new.db } in
    let new = c.begin.new.files in
    lose_then h old mid new (both_clean h mid new c.begin.ensures.begun.clean.0 c.begin.ensures.begun.clean.1)
    (unwritten_loses h old mid (record { log = c.log_on.ensures.unwritten; db = c.page_size_on.ensures.unwritten })) c.begin.ensures.kept
