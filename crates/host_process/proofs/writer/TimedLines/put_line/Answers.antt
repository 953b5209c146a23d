-- A line is begun, and goes on.
use Rattle.host_process.proofs.OneLine.{result_written}
use Rattle.host_process.proofs.writer.TimedLines.put_line.Goals as goal

pub returns-clause-line : goal.returns-clause-line
returns-clause-line g c =
    result_written c.args.bytes.now _ c.first_line.result c.go_on.result c.args.self.now.is_within c.go_on.new.self.is_within
    (g.W.Write.contents c.args.self.now.out.now) (g.W.Write.contents c.begin.new.out) (g.W.Write.contents c.go_on.new.self.out.now)
    c.first_line.ensures.line c.first_line.ensures.within c.split_at.ensures.front c.in_ok-begin.ensures c.go_on.ensures.bound c.go_on.ensures.bytes c.go_on.ensures.within
