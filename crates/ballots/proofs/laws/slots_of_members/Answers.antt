use Rattle.ballots.proofs.Slots.{slot_for_each, holds_its_value, one_changes, count_as_members}
use Rattle.ballots.proofs.laws.slots_of_members.Goals as goal

pub returns : goal.returns
returns g c = record { many = slot_for_each; read = holds_its_value; set = one_changes; count = count_as_members }
