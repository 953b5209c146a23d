-- So many of the members so far.
use Rattle.std.proofs.Common.{◌≡◌, ◌≤◌, take}
use Rattle.std.specs.List.{count_by}
use Rattle.plant_status.specs.Judging.{is_recent}
use Rattle.plant_status.proofs.health.recent.Given as goal

abbrev pub invariant-loop-ago : goal.invariant-loop-ago
invariant-loop-ago l = record { many : l.count ≡ count_by is_recent (take l.ago-index l.heard); few : l.count ≤ l.ago-index }
