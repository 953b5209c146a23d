use Rattle.std.proofs.Common.{◌∙◌, ap, rules, ◌≡◌, length}
use Rattle.std.specs.Prelude.{min}
use Rattle.rows_life.specs.Logs.{log_of}
use Rattle.rows_life.proofs.LifeLemmas.{read_front}
use Rattle.rows_life.proofs.looking.log_on.Goals as goal

pub returns : goal.returns
returns g c =
    record {
      found = λ clean.
          let calm = c.in_ok-read_at.ensures.clean clean in
          let whole = c.in_ok-len.ensures.len calm in
          let long : length c.read_at.new.buf ≡ min (length (g.D.Disk.seen c.args.log.now)) 56 = search (rules, whole) in
          c.log_of.ensures ∙ ap log_of (read_front _ _ 56 long (λ some. rw c.len.ensures.seen at (c.in_ok-read_at.ensures.read clean (search (rules, some)))));
      clean = λ clean. c.len.ensures.clean (c.in_ok-read_at.ensures.clean clean);
      usable = c.in_ok-read_at.ensures.usable;
      unwritten = record {
        seen = c.in_ok-read_at.ensures.seen ∙ c.len.ensures.seen;
        crash = λ x may. c.len.ensures.crash x (c.in_ok-read_at.ensures.crash x may);
      };
    }
