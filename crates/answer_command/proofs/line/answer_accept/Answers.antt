use Rattle.std.proofs.Common.{rules}
use Rattle.rows_saved.specs.Memory.{saved}
use Rattle.protocol.specs.Acceptor.{Accepts, next_row, reply_of}
use Rattle.tape_frames.specs.Entries.{version_of, lent_entry}
use Rattle.answer_command.specs.Asked.{asked_in}
use Rattle.answer_command.proofs.History.{saved_as, voted_text}
use Rattle.answer_command.proofs.line.answer_accept.Goals as goal

pub returns : goal.returns
returns c =
    let heard = c.args.heard.now in
    let request = Accepts heard.packet.now.ballot (lent_entry c.args.entry.now) in
    let before = saved c.args.rows.now heard.packet.now.number in
    record {
      text =
          voted_text heard.seat.circuit heard.seat.me (version_of heard.seat.wire) (asked_in heard.packet.now request)
          _ c.in-Voted.row (next_row before request) (reply_of before request) c.in_ok-text-in-Voted.ensures (search rules) (search rules);
      rows =
          saved_as (saved c.args.rows.now) (saved c.save.new.self) heard.packet.now.number _ _ (rw c.number-number.ensures at c.in_ok-save-in-Voted.ensures.row) (search rules);
      version = search rules;
    }
