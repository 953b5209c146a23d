use Rattle.std.proofs.Common.{◌≡◌, false}
use Rattle.looks.specs.Gathering.{GathersFiles}
use Rattle.looks.proofs.gathering.LookFindings.add_files.Given as goal

abbrev pub invariant-loop-file : goal.invariant-loop-file
invariant-loop-file l = l.self.is_broken ≡ false → GathersFiles l.yielded l.initial.self l.self
