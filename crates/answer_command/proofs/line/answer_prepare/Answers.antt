use Rattle.std.proofs.Common.{rules}
use Rattle.rows_saved.specs.Memory.{saved}
use Rattle.answer_command.proofs.History.{saved_as}
use Rattle.answer_command.proofs.line.answer_prepare.Goals as goal

pub returns : goal.returns
returns c = record {
  text = search rules;
  rows =
      saved_as (saved c.args.rows.now) (saved c.raise.new.rows) c.args.heard.now.packet.now.number _ _ (rw c.number-number.ensures at c.in_ok-raise-in-Promise.ensures.row) (search rules);
  version = search rules;
}
