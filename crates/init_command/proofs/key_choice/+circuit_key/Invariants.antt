use Rattle.std.proofs.Common.{length}
use Rattle.init_command.proofs.key_choice.+circuit_key.Given as goal

abbrev pub decreases-circuit_key : goal.decreases-circuit_key
decreases-circuit_key l = length l.found.now
