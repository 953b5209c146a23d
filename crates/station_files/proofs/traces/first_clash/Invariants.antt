-- None of those that were looked at clashes with one before it.
use Rattle.std.proofs.Common.{◌≡◌, ◌<◌, ℕ, Some, take}
use Rattle.std.specs.Prelude.{slice_get}
use Rattle.std.specs.List.{AllByRecursion}
use Rattle.station_files.specs.declared.traces.Trace.{Trace}
use Rattle.station_files.specs.Traces.{Clashes}
use Rattle.station_files.proofs.traces.first_clash.Given as goal

abbrev pub invariant-loop-place : goal.invariant-loop-place
invariant-loop-place l = (i : ℕ) (one : Trace) → i < l.place → slice_get l.traces i ≡ Some one → AllByRecursion (λ u. ¬ Clashes one u) (take i l.traces)
