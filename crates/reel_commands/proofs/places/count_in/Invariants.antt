use Rattle.std.proofs.Common.{◌≡◌, ◌≤◌, take}
use Rattle.std.specs.Prelude.{count_by, ◌==◌}
use Rattle.reel_commands.proofs.places.count_in.Given as goal

abbrev pub invariant-loop-found : goal.invariant-loop-found
invariant-loop-found l = record {
  value : l.times ≡ count_by (λ f. f == l.frame) (take l.found-index l.tape);
  few : l.times ≤ l.found-index;
}
