use Rattle.std.proofs.Common.{rules}
use Rattle.sqlite_wal.specs.Files.{seen_image}
use Rattle.sqlite_wal.specs.Reads.{AreClean}
use Rattle.rows_life.specs.Keeping.{KeepNoSums}
use Rattle.rows_life.proofs.FilesLemmas.{both_clean, keep_then, pages_of_all, plain_keeps}
use Rattle.rows_life.proofs.beginning.begin_life.Goals as goal

pub returns : goal.returns
returns g c =
    let h = g.D.Disk in
    let old = c.args.files in
    let mid = c.settled-files.result.0 in
    let new = c.begin_anew-begun.new.files in
    let was = both_clean h mid new c.begin_anew-begun.ensures.begun.clean.0 c.begin_anew-begun.ensures.begun.clean.1 in
    let plain : AreClean h mid.log mid.db → KeepNoSums (seen_image h old.log old.db) = search rules in
    record {
      begins = record {
        pair = search rules;
        begun = search rules;
        kept = plain_keeps h old new (λ clean. plain (was clean))
            (keep_then h old mid new was (pages_of_all h old mid c.settled-files.ensures.kept) c.begin_anew-begun.ensures.kept);
      };
    }
