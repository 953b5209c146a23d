use Rattle.std.proofs.Common.{refl}
use Rattle.code_table.specs.Tables.{mean}
use Rattle.slug_reader.proofs.Assembly.{stands_start}
use Rattle.slug_reader.proofs.Standing.{starts}
use Rattle.slug_reader.proofs.reader.Reader.new.Goals as goal

pub returns-clause-starts : goal.returns-clause-starts
returns-clause-starts c = λ tape. starts _ tape (stands_start (mean c.args.table.now) c.args.widths.now tape c.new.result c.new.ensures.case c.new.ensures.rail c.new.ensures.items c.new.ensures.quad) refl refl
