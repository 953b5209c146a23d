use Rattle.std.proofs.Common.{take}
use Rattle.reel_commands.specs.Files.{Makes, files_from}
use Rattle.reel_commands.proofs.importing.make_all.Given as goal

abbrev pub invariant-loop-before : goal.invariant-loop-before
invariant-loop-before g l =
    Makes (g.F.TapeFolder.made l.initial.folder) (g.F.TapeFolder.made l.folder) (files_from 1 l.roll.frames.items (take l.before l.roll.tapes.items))
