use Rattle.std.proofs.Common.{refl, subst}
use Rattle.std.specs.List.{AllByRecursion}
use Rattle.std.proofs.lemmas.List.{take_all}
use Rattle.std.proofs.lemmas.Option.{slice_get-get_or}
use Rattle.station_files.specs.Homes.{LiesAmiss}
use Rattle.station_files.proofs.Looked.{passed_over}
use Rattle.station_files.proofs.homes.first_within.Goals as goal

pub loop-home-preserved : goal.loop-home-preserved
loop-home-preserved c =
    passed_over (LiesAmiss c.args.folder) c.args.homes.now c.loop-home.home-index _ c.loop-home-test.true c.loop-home.invariant c.if-lies_amiss.ensures.1

pub returns-then-lies_amiss-clause-some : goal.returns-then-lies_amiss-clause-some
returns-then-lies_amiss-clause-some c =
    record {
      place = c.loop-home.home-index;
      home = _;
      stands = slice_get-get_or c.args.homes.now c.loop-home.home-index _ c.loop-home-test.true;
      amiss = c.if-lies_amiss.ensures.0 refl;
      named = refl;
    }

pub returns-clause-none : goal.returns-clause-none
returns-clause-none c =
    subst (AllByRecursion (λ h. ¬ LiesAmiss c.args.folder h)) (take_all c.loop-home.home-index c.args.homes.now c.loop-home-test.false) c.loop-home.invariant
