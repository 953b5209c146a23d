use Rattle.rows_host_files.proofs.life.marked.Goals as goal

pub returns-in-Ok-clause-marked : goal.returns-in-Ok-clause-marked
returns-in-Ok-clause-marked g c = record {
  rows = c.in-Ok.rows;
  taken = c.in-Ok.ensures.taken;
  left = c.in_ok-files-in-Ok.files;
  ends = c.in_ok-files-in-Ok.ensures;
  same = c.in_ok-both_settled-in-Ok.ensures.same;
}

pub returns-in-Ok-clause-synced : goal.returns-in-Ok-clause-synced
returns-in-Ok-clause-synced g c = c.in_ok-both_settled-in-Ok.ensures.synced
