use Rattle.std.proofs.Common.{length}
use Rattle.init_command.proofs.making.+make_files.Given as goal

abbrev pub decreases-make_files : goal.decreases-make_files
decreases-make_files g l = length l.files.now
