use Rattle.std.proofs.Common.{◌≡◌, sym, subst}
use Rattle.std.proofs.lemmas.Result.{on_ok_weaker}
use Rattle.sqlite_wal.specs.Files.{seen_image}
use Rattle.sqlite_wal.specs.Format.{be32}
use Rattle.sqlite_wal.specs.PageSize.{Names, bytes_of, size_in_file}
use Rattle.sqlite_wal.specs.Reads.{AreClean}
use Rattle.sqlite_wal.specs.Recovery.{Recovers}
use Rattle.rows_life.proofs.FilesLemmas.{both_clean, both_unwritten, no_sums, only_reads, unwritten_still}
use Rattle.rows_life.proofs.sums.without_sums.Goals as goal

pub returns-then-not-may_be_used-clause-unwritten : goal.returns-then-not-may_be_used-clause-unwritten
returns-then-not-may_be_used-clause-unwritten g c =
    let old = c.args.files.now in
    record { log = unwritten_still old.log; db = unwritten_still old.db }

pub returns-in-Ok-None-clause-unwritten : goal.returns-in-Ok-None-clause-unwritten
returns-in-Ok-None-clause-unwritten g c =
    record { log = only_reads _ _ c.probe_page_size.ensures.log; db = only_reads _ _ c.probe_page_size.ensures.db }

pub returns-in-Err-clause-unwritten : goal.returns-in-Err-clause-unwritten
returns-in-Err-clause-unwritten g c =
    record { log = only_reads _ _ c.probe_page_size.ensures.log; db = only_reads _ _ c.probe_page_size.ensures.db }

pub returns-in-Err-probe_first_page-clause-unwritten : goal.returns-in-Err-probe_first_page-clause-unwritten
returns-in-Err-probe_first_page-clause-unwritten g c =
    both_unwritten g.D.Disk c.args.files.now c.probe_page_size.new.files c.probe_first_page.new.files
    (record { log = only_reads _ _ c.probe_page_size.ensures.log; db = only_reads _ _ c.probe_page_size.ensures.db })
    (record { log = only_reads _ _ c.probe_first_page.ensures.log; db = only_reads _ _ c.probe_first_page.ensures.db })

pub returns-in-Ok-clause-unwritten : goal.returns-in-Ok-clause-unwritten
returns-in-Ok-clause-unwritten g c =
    both_unwritten g.D.Disk c.args.files.now c.probe_page_size.new.files c.probe_first_page.new.files
    (record { log = only_reads _ _ c.probe_page_size.ensures.log; db = only_reads _ _ c.probe_page_size.ensures.db })
    (record { log = only_reads _ _ c.probe_first_page.ensures.log; db = only_reads _ _ c.probe_first_page.ensures.db })

pub returns-in-Ok-clause-plain : goal.returns-in-Ok-clause-plain
returns-in-Ok-clause-plain g c =
    let h = g.D.Disk in
    let a = c.args.files.now in
    let b = c.probe_page_size.new.files in
    let end = c.probe_first_page.new.files in
    let same : seen_image h b.log b.db ≡ seen_image h a.log a.db = λ i. record { log = c.probe_page_size.ensures.log.seen i; db = c.probe_page_size.ensures.db.seen i } in
    on_ok_weaker c.plain.result
    (λ low clean.
    let calm : AreClean h b.log b.db = both_clean h b end c.probe_first_page.ensures.log.clean c.probe_first_page.ensures.db.clean clean in
    no_sums (seen_image h a.log a.db) c.in-Ok-Some.size c.in-Ok.head.1
    (λ read. subst (λ f. Names f (be32 (h.seen a.log) 8)) c.in-Ok-Some.field-0-is (c.in-Ok-Some.ensures.by_log calm read))
    (λ ignored. subst (λ f. Names f (size_in_file (h.seen a.db))) c.in-Ok-Some.field-0-is (c.in-Ok-Some.ensures.by_file calm ignored))
    (λ pages first found is len. (c.in-Ok.ensures.value clean pages first (subst (λ image. Recovers (bytes_of c.in-Ok-Some.size) image pages) (sym same) found) is len).1)
    low)
    c.plain.ensures
