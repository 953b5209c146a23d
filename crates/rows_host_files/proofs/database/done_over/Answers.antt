use Rattle.rows_host_files.proofs.database.done_over.Goals as goal

pub returns-clause-upgraded : goal.returns-clause-upgraded
returns-clause-upgraded g c upgrade = record {
  now = c.in_ok-rows.rows;
  upgraded = c.in_ok-rows.ensures.upgraded upgrade;
  closed = c.in_ok-close_where_it_stands.ensures.closed;
}
