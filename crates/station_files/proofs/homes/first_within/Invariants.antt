-- None of those that were looked at lies amiss.
use Rattle.std.proofs.Common.{take}
use Rattle.std.specs.List.{AllByRecursion}
use Rattle.station_files.specs.Homes.{LiesAmiss}
use Rattle.station_files.proofs.homes.first_within.Given as goal

abbrev pub invariant-loop-home : goal.invariant-loop-home
invariant-loop-home l = AllByRecursion (λ h. ¬ LiesAmiss l.folder h) (take l.home-index l.homes)
