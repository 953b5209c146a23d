use Rattle.std.proofs.Common.{◌≡◌, length}
use Rattle.looks.specs.Strays.{first_stands, from}
use Rattle.looks.proofs.merging.skip_to.Given as goal

abbrev pub invariant-loop-stands : goal.invariant-loop-stands
invariant-loop-stands l = record {
  from : from l.name l.rest ≡ from l.name l.initial.rest;
  stands : l.stands ≡ first_stands l.name l.rest;
}

abbrev pub decreases-loop-stands : goal.decreases-loop-stands
decreases-loop-stands l = length l.rest
