use Rattle.std.proofs.Common.{sym, subst}
use Rattle.sqlite_wal.specs.Format.{be32}
use Rattle.sqlite_wal.specs.PageSize.{Names, size_in_file}
use Rattle.sqlite_wal.specs.Log.{state}
use Rattle.sqlite_wal.specs.Reads.{AreClean}
use Rattle.sqlite_wal.specs.Files.{outcomes}
use Rattle.sqlite_wal.specs.Recovery.{AddsNothing}
use Rattle.rows_life.specs.Keeping.{KeepPages}
use Rattle.rows_life.proofs.FilesLemmas.{unwritten_still, only_reads, unwritten_loses, loses_keeps, copy_keeps}
use Rattle.rows_life.proofs.copying.copied.Goals as goal

pub returns-then-not-may_be_used-clause-kept : goal.returns-then-not-may_be_used-clause-kept
returns-then-not-may_be_used-clause-kept g c =
    let h = g.D.Disk in
    let a = c.args.files in
    loses_keeps h a a (unwritten_loses h a a (record { log = unwritten_still a.log; db = unwritten_still a.db }))

pub returns-in-Ok-None-clause-kept : goal.returns-in-Ok-None-clause-kept
returns-in-Ok-None-clause-kept g c =
    let h = g.D.Disk in
    let a = c.args.files in
    let b = c.probe_page_size.new.files in
    loses_keeps h a b (unwritten_loses h a b (record { log = only_reads _ _ c.probe_page_size.ensures.log; db = only_reads _ _ c.probe_page_size.ensures.db }))

pub returns-in-Err-clause-kept : goal.returns-in-Err-clause-kept
returns-in-Err-clause-kept g c =
    let h = g.D.Disk in
    let a = c.args.files in
    let b = c.probe_page_size.new.files in
    loses_keeps h a b (unwritten_loses h a b (record { log = only_reads _ _ c.probe_page_size.ensures.log; db = only_reads _ _ c.probe_page_size.ensures.db }))

pub returns-in-Err-new-clause-kept : goal.returns-in-Err-new-clause-kept
returns-in-Err-new-clause-kept g c =
    let h = g.D.Disk in
    let a = c.args.files in
    let b = c.probe_page_size.new.files in
    subst (KeepPages h a) (sym c.in-Err-new.ensures.back) (loses_keeps h a b (unwritten_loses h a b (record { log = only_reads _ _ c.probe_page_size.ensures.log; db = only_reads _ _ c.probe_page_size.ensures.db })))

pub returns-in-Ok-clause-kept : goal.returns-in-Ok-clause-kept
returns-in-Ok-clause-kept g c =
    let h = g.D.Disk in
    let a = c.args.files in
    let b = c.probe_page_size.new.files in
    let log0 = c.in-Ok.log in
    let log1 = c.empty-done.new.log in
    let e0 = c.in-Ok.ensures.files in
    let e1 = c.into_files.ensures in
    λ synced clean left may.
    let clean1 : AreClean h log1.log log1.db = subst (λ p. AreClean h p.0 p.1) e1 clean in
    let clean0 : AreClean h log0.log log0.db = c.empty-done.ensures.clean clean1 in
    let calm : AreClean h b.log b.db = subst (λ p. AreClean h p.0 p.1) e0 clean0 in
    copy_keeps h a c.in-Ok-Some.size (state log0).may_leave (state log1).may_leave (λ read. subst (λ f. Names f (be32 (h.seen a.log) 8)) c.in-Ok-Some.field-0-is (c.in-Ok-Some.ensures.by_log calm read)) (λ ignored. subst (λ f. Names f (size_in_file (h.seen a.db))) c.in-Ok-Some.field-0-is (c.in-Ok-Some.ensures.by_file calm ignored))
    (λ x leaves. let at = subst (λ p. outcomes h p.0 p.1 x) e0 leaves.1 in (c.probe_page_size.ensures.log.crash x.log at.0, c.probe_page_size.ensures.db.crash x.db at.1))
    (subst (λ n. AddsNothing n (state log0).may_leave (state log1).may_leave) c.in-Ok.ensures.size c.empty-done.ensures.kept)
    synced left (clean1, subst (λ p. outcomes h p.0 p.1 left) e1 may)
