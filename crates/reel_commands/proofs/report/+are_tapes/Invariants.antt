use Rattle.std.proofs.Common.{length}
use Rattle.reel_commands.proofs.report.+are_tapes.Given as goal

abbrev pub decreases-are_tapes : goal.decreases-are_tapes
decreases-are_tapes l = length l.pieces.now
