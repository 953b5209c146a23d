use Rattle.std.proofs.Common.{◌≡◌, false}
use Rattle.looks.specs.Gathering.{GathersOthers}
use Rattle.looks.proofs.gathering.LookFindings.add_others.Given as goal

abbrev pub invariant-loop-other : goal.invariant-loop-other
invariant-loop-other l = l.self.is_broken ≡ false → GathersOthers l.yielded l.initial.self l.self
