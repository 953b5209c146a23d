use Rattle.std.proofs.Common.{length}
use Rattle.init_command.proofs.reading_back.+are_places.Given as goal

abbrev pub decreases-are_places : goal.decreases-are_places
decreases-are_places l = length l.addresses.now
