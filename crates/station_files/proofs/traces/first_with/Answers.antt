use Rattle.std.proofs.Common.{refl, subst}
use Rattle.std.specs.List.{AllByRecursion}
use Rattle.std.proofs.lemmas.List.{take_all}
use Rattle.std.proofs.lemmas.Option.{slice_get-get_or}
use Rattle.station_files.specs.Traces.{Clashes}
use Rattle.station_files.proofs.Looked.{passed_over}
use Rattle.station_files.proofs.traces.first_with.Goals as goal

pub loop-other-preserved : goal.loop-other-preserved
loop-other-preserved c =
    passed_over (Clashes c.args.one.now) c.args.others.now c.loop-other.other-index _ c.loop-other-test.true c.loop-other.invariant c.if-clashes.ensures.1

pub returns-then-clashes-clause-some : goal.returns-then-clashes-clause-some
returns-then-clashes-clause-some c =
    record {
      place = c.loop-other.other-index;
      other = _;
      stands = slice_get-get_or c.args.others.now c.loop-other.other-index _ c.loop-other-test.true;
      clash = c.if-clashes.ensures.0 refl;
      named = refl;
    }

pub returns-clause-none : goal.returns-clause-none
returns-clause-none c =
    subst (AllByRecursion (λ u. ¬ Clashes c.args.one.now u)) (take_all c.loop-other.other-index c.args.others.now c.loop-other-test.false) c.loop-other.invariant
