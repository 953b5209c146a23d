use Rattle.std.proofs.Common.{rules}
use Rattle.rows_host_files.proofs.database.close_where_it_stands.Goals as goal

pub returns : goal.returns
returns g c = record {
  watch = c.stands.new.watch;
  looked = search rules;
  before = search rules;
  closed = c.in_ok-close_database.ensures;
}
