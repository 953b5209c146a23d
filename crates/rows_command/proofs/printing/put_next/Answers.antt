-- What stands before the rows, and then a row.
use Rattle.rows_command.specs.RowsText.{row_line}
use Rattle.rows_command.specs.Printing.{head_text}
use Rattle.streams.proofs.Writing.{stopped, then_wrote}
use Rattle.rows_command.proofs.printing.put_next.Goals as goal

pub returns-in_err-put_head : goal.returns-in_err-put_head
returns-in_err-put_head g c =
    stopped c.from_residual.result (g.W.Write.contents c.args.out.now) (g.W.Write.contents c.put_head.new.out) (head_text c.args.head.station c.args.head.begun) (row_line (c.args.number, c.args.row.now)) c.from_residual.ensures.0 c.in_err-put_head.ensures.err

pub returns : goal.returns
returns g c =
    then_wrote c.put_row.result (g.W.Write.contents c.args.out.now) (g.W.Write.contents c.put_head.new.out) (g.W.Write.contents c.put_row.new.out) (head_text c.args.head.station c.args.head.begun) (row_line (c.args.number, c.args.row.now)) c.in_ok-put_head.ensures.ok c.put_row.ensures
