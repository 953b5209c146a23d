use Rattle.std.proofs.Common.{sym, ◌∙◌, arith, rules}
use Rattle.std.proofs.lemmas.Result.{on_ok_weaker}
use Rattle.rows_life.proofs.LifeLemmas.{rests}
use Rattle.rows_life.proofs.FilesLemmas.{mark_written, mark_read, marks_then}
use Rattle.rows_life.proofs.marks.mark_at_rest.Goals as goal

pub returns-clause-rests : goal.returns-clause-rests
returns-clause-rests g c =
    record {
      stands =
          on_ok_weaker c.sync.result (λ _. rw c.sync.ensures.seen (rests _ (c.in_ok-write_at.ensures.written (search rules)))) c.sync.ensures.durable;
      synced = on_ok_weaker c.sync.result (λ only x may. only x may ∙ sym c.sync.ensures.seen) c.sync.ensures.durable;
      clean = search rules;
      usable = search rules;
    }

pub returns-clause-mark : goal.returns-clause-mark
returns-clause-mark g c =
    marks_then _ _ _ (mark_written 60 1 _ _ (omega arith) (omega arith) c.write_at.ensures.others c.write_at.ensures.crash)
    (mark_read _ _ (record { seen = c.sync.ensures.seen; crash = c.sync.ensures.crash }))
