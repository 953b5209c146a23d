use Rattle.std.proofs.Common.{length}
use Rattle.reel.proofs.levels.+bit_named.Given as goal

abbrev pub decreases-bit_named : goal.decreases-bit_named
decreases-bit_named l = length l.word.now
