use Rattle.std.proofs.Common.{sym, ◌∙◌}
use Rattle.std.proofs.lemmas.Bool.{and_parts}
use Rattle.rows_host_files.proofs.life.mark_on.Goals as goal

pub returns-in-None : goal.returns-in-None
returns-in-None g c = record {
  unwritten = c.in_ok-file.ensures.unwritten;
  unmarkable = λ is clean. sym (c.in_ok-file.ensures.file (and_parts _ _ clean).1) ∙ c.mark_of.ensures is;
}
