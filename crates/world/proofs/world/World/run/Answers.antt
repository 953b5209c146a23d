-- One step more; and where one is refused, the steps before it.
use Rattle.std.proofs.Common.{◌≡◌, ◌+◌, ◌∙◌, ◌++◌, ◌∷◌, [], List, Some, take, sym, ap, subst}
use Rattle.std.specs.Prelude.{slice_get}
use Rattle.std.proofs.lemmas.Option.{slice_get-get_or}
use Rattle.std.proofs.lemmas.List.{take_more, take_all}
use Rattle.world.specs.declared.step.Step.{Step}
use Rattle.world.specs.Taking.{Takes}
use Rattle.world.specs.Reach.{Leads}
use Rattle.world.proofs.Asking.{reason_stays}
use Rattle.world.proofs.Reaching.{led, leads_more, reached_agreed, stays_reached, takes_more}
use Rattle.world.proofs.world.World.run.Goals as goal

pub returns-in-Err : goal.returns-in-Err
returns-in-Err g c =
    record {
      takes = (c.loop-at.self, c.loop-at.invariant.takes, c.in-Err.ensures.tells.1);
      runs = λ kept z w h.
          let l = c.loop-at.invariant.runs (c.step.ensures.was_kept kept) z w h in
          (l.0, c.in-Err.ensures.steps kept z l.0 l.1, l.2);
      stops =
          let steps = c.args.steps.now in
          let step = c.index-steps-at.result in
          let there : slice_get steps c.loop-at.at ≡ Some step = slice_get-get_or steps c.loop-at.at step c.loop-at-test.true ∙ ap Some (sym c.index-steps-at.is) in
          let t = c.in-Err.ensures.tells in
          (step, there, reason_stays c.loop-at.self c.step.new.self step c.in-Err.refusal t.1 t.0);
      was_kept = λ kept. c.loop-at.invariant.was_kept (c.step.ensures.was_kept kept);
      made = λ made. c.step.ensures.made (c.loop-at.invariant.made made);
      reached =
          stays_reached g.R.Rows g.met.R.Rows.halves c.args.self.now c.step.new.self (λ made. c.step.ensures.made (c.loop-at.invariant.made made)) (λ kept. c.loop-at.invariant.was_kept (c.step.ensures.was_kept kept))
          (λ kept z r.
          let l = c.loop-at.invariant.runs (c.step.ensures.was_kept kept) z r.0 r.1 in
          (l.0, c.in-Err.ensures.steps kept z l.0 l.1, led z r.0 l.0 (take c.loop-at.at c.args.steps.now) r.2 l.2));
      agreed = reached_agreed g.R.Rows c.agreement.ensures _;
    }

pub loop-at-preserved : goal.loop-at-preserved
loop-at-preserved g c = record {
  takes =
      let steps = c.args.steps.now in
      let step = c.index-steps-at.result in
      let longer : take (c.loop-at.at + 1) steps ≡ take c.loop-at.at steps ++ step ∷ [] =
      take_more steps c.loop-at.at step c.loop-at-test.true ∙ ap (λ (s : Step). take c.loop-at.at steps ++ s ∷ []) (sym c.index-steps-at.is) in
      let e = c.in_default.ensures in
      subst (λ (ss : List Step). Takes g.R.Rows c.args.self.now ss c.step.new.self) (sym longer)
      (takes_more g.R.Rows c.args.self.now c.loop-at.self c.step.new.self (take c.loop-at.at steps) step c.in_default.field-0 c.loop-at.invariant.takes e.tells e.why);
  was_kept = λ kept. c.loop-at.invariant.was_kept (c.step.ensures.was_kept kept);
  made = λ made. c.step.ensures.made (c.loop-at.invariant.made made);
  runs = λ kept z w h.
      let steps = c.args.steps.now in
      let step = c.index-steps-at.result in
      let l = c.loop-at.invariant.runs (c.step.ensures.was_kept kept) z w h in
      let m = c.in_default.ensures.steps kept z l.0 l.1 in
      let longer : take (c.loop-at.at + 1) steps ≡ take c.loop-at.at steps ++ step ∷ [] =
      take_more steps c.loop-at.at step c.loop-at-test.true ∙ ap (λ (s : Step). take c.loop-at.at steps ++ s ∷ []) (sym c.index-steps-at.is) in
      let more : Leads z w (take c.loop-at.at steps ++ step ∷ []) m.0 = leads_more z w l.0 m.0 (take c.loop-at.at steps) step m.2 l.2 m.4 in
      (m.0, m.1, subst (λ (ss : List Step). Leads z w ss m.0) (sym longer) more);
}

pub returns : goal.returns
returns g c =
    let all : take c.loop-at.at c.args.steps.now ≡ c.args.steps.now = take_all c.loop-at.at c.args.steps.now c.loop-at-test.false in
    record {
      takes = subst (λ (ss : List Step). Takes g.R.Rows c.args.self.now ss c.loop-at.self) all c.loop-at.invariant.takes;
      runs = λ kept z w h.
          let l = c.loop-at.invariant.runs kept z w h in
          (l.0, l.1, subst (λ (ss : List Step). Leads z w ss l.0) all l.2);
      stops = tt;
      was_kept = c.loop-at.invariant.was_kept;
      made = c.loop-at.invariant.made;
      reached =
          stays_reached g.R.Rows g.met.R.Rows.halves c.args.self.now c.loop-at.self c.loop-at.invariant.made c.loop-at.invariant.was_kept
          (λ kept z r.
          let l = c.loop-at.invariant.runs kept z r.0 r.1 in
          (l.0, l.1, led z r.0 l.0 (take c.loop-at.at c.args.steps.now) r.2 l.2));
      agreed = reached_agreed g.R.Rows c.agreement.ensures _;
    }
