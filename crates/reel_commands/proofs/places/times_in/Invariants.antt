use Rattle.std.proofs.Common.{◌≡◌, ◌≤◌, ◌*◌, take}
use Rattle.reel_commands.specs.Survey.{times_in}
use Rattle.reel_commands.proofs.places.times_in.Given as goal

abbrev pub invariant-loop-surveyed : goal.invariant-loop-surveyed
invariant-loop-surveyed l = record {
  value : l.times ≡ times_in l.frame (take l.surveyed-index l.tapes);
  few : l.times ≤ 16384 * l.surveyed-index;
}
