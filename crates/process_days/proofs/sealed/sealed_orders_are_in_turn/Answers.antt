-- One event after the other.
use Rattle.process_days.proofs.Coming.{orders_are_in_turn}
use Rattle.process_days.proofs.sealed.sealed_orders_are_in_turn.Goals as goal

pub returns : goal.returns
returns g c = orders_are_in_turn g.S.Socket.came
