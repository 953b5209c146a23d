use Rattle.rows_host_files.proofs.Collected.{one_more}
use Rattle.rows_host_files.proofs.collecting.CollectorRowVisitor.see.Goals as goal

pub returns-clause-saw : goal.returns-clause-saw
returns-clause-saw c = λ first items came. one_more first.known c.args.self.now.known c.note.new.self.known items c.args.number c.args.row.now came c.note.ensures
