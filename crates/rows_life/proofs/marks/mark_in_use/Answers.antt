use Rattle.std.proofs.Common.{sym, ◌∙◌, arith, rules}
use Rattle.std.proofs.lemmas.Result.{on_ok_weaker}
use Rattle.rows_life.proofs.LifeLemmas.{uses}
use Rattle.rows_life.proofs.FilesLemmas.{mark_written, mark_read, marks_then}
use Rattle.rows_life.proofs.marks.mark_in_use.Goals as goal

pub returns-clause-uses : goal.returns-clause-uses
returns-clause-uses g c =
    record {
      stands =
          on_ok_weaker c.sync-2.result
          (λ _.
          rw c.sync-2.ensures.seen
          (uses _ _ _ _ _ c.args.number (omega arith) (c.in_ok-write_at.ensures.written (search rules))
          (rw c.sync.ensures.seen at c.write_at-2.ensures.others) (c.in_ok-write_at-2.ensures.written (search rules))))
          c.sync-2.ensures.durable;
      synced = on_ok_weaker c.sync-2.result (λ only x may. only x may ∙ sym c.sync-2.ensures.seen) c.sync-2.ensures.durable;
      clean = search rules;
      usable = search rules;
    }

pub returns-clause-mark : goal.returns-clause-mark
returns-clause-mark g c =
    marks_then _ _ _
    (marks_then _ _ _ (mark_written 61 3 _ _ (omega arith) (omega arith) c.write_at.ensures.others c.write_at.ensures.crash)
    (mark_read _ _ (record { seen = c.sync.ensures.seen; crash = c.sync.ensures.crash })))
    (marks_then _ _ _ (mark_written 60 1 _ _ (omega arith) (omega arith) c.write_at-2.ensures.others c.write_at-2.ensures.crash)
    (mark_read _ _ (record { seen = c.sync-2.ensures.seen; crash = c.sync-2.ensures.crash })))
