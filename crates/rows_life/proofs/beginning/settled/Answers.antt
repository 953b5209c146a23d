use Rattle.rows_life.proofs.FilesLemmas.{keeps_after_reads, plain_keeps, unwritten_keeps}
use Rattle.rows_life.proofs.beginning.settled.Goals as goal

pub returns-in-Ok-true-clause-kept : goal.returns-in-Ok-true-clause-kept
returns-in-Ok-true-clause-kept g c =
    let h = g.D.Disk in
    let old = c.args.files in
    let mid = c.tested.new.files in
    let new = c.copied.result.0 in
    plain_keeps h old new (λ clean. c.in-Ok-true.ensures.plain (c.copied.ensures.clean clean))
    (keeps_after_reads h old mid new c.tested.ensures.begins.unwritten c.copied.ensures.kept)

pub returns-in-Ok-false-clause-kept : goal.returns-in-Ok-false-clause-kept
returns-in-Ok-false-clause-kept g c = unwritten_keeps g.D.Disk c.args.files c.tested.new.files c.tested.ensures.begins.unwritten

pub returns-in-Err-clause-kept : goal.returns-in-Err-clause-kept
returns-in-Err-clause-kept g c = unwritten_keeps g.D.Disk c.args.files c.tested.new.files c.tested.ensures.begins.unwritten
