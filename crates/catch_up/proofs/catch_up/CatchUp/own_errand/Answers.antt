-- What is left of what is recalled comes first.
use Rattle.std.proofs.Common.{Option, inl, subst}
use Rattle.catch_up.specs.declared.errand.Errand.{Errand}
use Rattle.catch_up.specs.Recalling.{GoesOnFrom}
use Rattle.catch_up.specs.CatchUp.{CatchUpValue, IsOwnErrand}
use Rattle.catch_up.proofs.Next.{left_errand}
use Rattle.catch_up.proofs.catch_up.CatchUp.own_errand.Goals as goal

pub returns-in-Some-clause-own : goal.returns-in-Some-clause-own
returns-in-Some-clause-own c =
    let here : CatchUpValue = record {
      own = c.self.inside.own;
      healing = c.self.inside.healing;
      rolls = c.self.inside.rolls;
      asks = c.self.inside.asks;
      before = c.self.inside.before;
      wave = c.self.inside.wave;
      batches = c.self.inside.batches;
      recalling = c.self.inside.recalling;
      asked = c.self.inside.asked;
      is_stirred = c.self.inside.is_stirred;
      others_first = c.self.inside.others_first;
      replies_first = c.self.inside.replies_first;
      rolls_first = c.self.inside.rolls_first;
    } in
    let goes = subst (λ (e : Option Errand). GoesOnFrom c.self.inside.recalling c.go_on.new.recalling e) c.in-Some.is c.in_ok-errand.ensures.ok in
    subst (λ (v : CatchUpValue). IsOwnErrand v (record here { recalling = c.go_on.new.recalling }) c.args.now c.in-Some.errand) c.self.view_is
    (inl (left_errand here c.go_on.new.recalling c.in-Some.errand c.self.invariant.recalls goes))
