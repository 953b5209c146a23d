-- By what is told of each thing.
use Rattle.plant_log.proofs.Waiting.{by_the_hour}
use Rattle.plant_log.proofs.laws.waiting_costs_a_line_an_hour.Goals as goal

pub returns : goal.returns
returns c = by_the_hour
