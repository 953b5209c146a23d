-- It clashes with none of those that were looked at.
use Rattle.std.proofs.Common.{take}
use Rattle.std.specs.List.{AllByRecursion}
use Rattle.station_files.specs.Traces.{Clashes}
use Rattle.station_files.proofs.traces.first_with.Given as goal

abbrev pub invariant-loop-other : goal.invariant-loop-other
invariant-loop-other l = AllByRecursion (λ u. ¬ Clashes l.one u) (take l.other-index l.others)
