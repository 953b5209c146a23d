use Rattle.packets.proofs.Sending.{few_sent}
use Rattle.packets.proofs.mail.Mail.new.Goals as goal

pub returns-clause-few : goal.returns-clause-few
returns-clause-few c = few_sent c.args.seat c.args.number c.args.ballot c.args.letter c.range_of_seat.ensures.low c.range_of_seat.ensures.high c.range_of_seat.ensures.few
