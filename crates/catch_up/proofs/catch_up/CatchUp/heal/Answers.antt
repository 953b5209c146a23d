-- The first errand of what is recalled now is one of what is lacked, or of what is waited for.
use Rattle.std.proofs.Common.{◌≡◌, ℕ, List, Option, IfOk, IfSome, ap, sym, subst, ◌∙◌}
use Rattle.healing.specs.Healing.{HealingValue}
use Rattle.healing.specs.declared.wanted.Want.{Want}
use Rattle.healing.specs.declared.wanted.Want.TheVariants.{Recall as Recalls}
use Rattle.catch_up.specs.declared.wave.AskedNumbers.{AskedNumbers}
use Rattle.catch_up.specs.Own.{OwnValue}
use Rattle.catch_up.specs.Waves.{AreAskedIn}
use Rattle.catch_up.specs.Lacking.{IsAwaitedBatch, IsWantOf}
use Rattle.catch_up.specs.Recalling.{GoesOnFrom}
use Rattle.catch_up.specs.CatchUp.{CatchUpValue, IsHealed}
use Rattle.catch_up.proofs.Next.{recalled_errand, repeated_errand, if_ok}
use Rattle.catch_up.proofs.catch_up.CatchUp.heal.Goals as goal

pub returns-in-Recall-clause-own : goal.returns-in-Recall-clause-own
returns-in-Recall-clause-own c =
    let r = c.go_on-in-Recall.result in
    let here : CatchUpValue = record {
      own = c.self.inside.own;
      healing = c.self.inside.healing;
      rolls = c.self.inside.rolls;
      asks = c.self.inside.asks;
      before = c.self.inside.before;
      wave = c.self.inside.wave;
      batches = c.self.inside.batches;
      recalling = c.self.inside.recalling;
      asked = c.self.inside.asked;
      is_stirred = c.self.inside.is_stirred;
      others_first = c.self.inside.others_first;
      replies_first = c.self.inside.replies_first;
      rolls_first = c.self.inside.rolls_first;
    } in
    let begun = ap (λ (v : CatchUpValue). v.recalling) (c.self-in-Recall.view_is ∙ c.recall.ensures.rest) in
    let goes = subst (λ (o : Option OwnValue). IfOk r (λ e. GoesOnFrom o c.go_on-in-Recall.new.recalling e)) begun c.go_on-in-Recall.ensures.ok in
    let first = subst (λ (w : Option Want). IfSome w (IsWantOf c.again.new.healing c.args.now)) c.in-Some-2.is c.in_ok-want.ensures.wanted in
    let found : IsWantOf c.again.new.healing c.args.now (Recalls c.in-Recall.numbers) = subst (λ (w : Want). IsWantOf c.again.new.healing c.args.now w) c.in-Recall.is first in
    let same : c.again.new.healing ≡ c.self.inside.healing = c.again.ensures.same c.in_default.is in
    let want = subst (λ (h : Option HealingValue). IsWantOf h c.args.now (Recalls c.in-Recall.numbers)) same found in
    let asked = subst (λ (w : Option AskedNumbers). AreAskedIn c.self.inside.wave w c.in-Recall.numbers) (sym (ap (λ (v : CatchUpValue). v.wave) c.self-in-Recall.view_is)) c.recall.ensures.wave in
    subst (λ (v : CatchUpValue). IfOk r (λ e. IfSome e (IsHealed v c.self-in-Recall.inside.wave c.args.now))) c.self.view_is
    (if_ok r goes (λ e goes. recalled_errand here c.self-in-Recall.inside.wave c.args.now c.in-Recall.numbers _ e want asked goes))

pub returns-in-Some-clause-own : goal.returns-in-Some-clause-own
returns-in-Some-clause-own c =
    let r = c.go_on.result in
    let here : CatchUpValue = record {
      own = c.self.inside.own;
      healing = c.self.inside.healing;
      rolls = c.self.inside.rolls;
      asks = c.self.inside.asks;
      before = c.self.inside.before;
      wave = c.self.inside.wave;
      batches = c.self.inside.batches;
      recalling = c.self.inside.recalling;
      asked = c.self.inside.asked;
      is_stirred = c.self.inside.is_stirred;
      others_first = c.self.inside.others_first;
      replies_first = c.self.inside.replies_first;
      rolls_first = c.self.inside.rolls_first;
    } in
    let is = c.self-in-Some.view_is ∙ c.ask_again.ensures in
    let begun = ap (λ (v : CatchUpValue). v.recalling) is in
    let wave : c.self-in-Some.inside.wave ≡ c.self.inside.wave = ap (λ (v : CatchUpValue). v.wave) is in
    let goes = subst (λ (o : Option OwnValue). IfOk r (λ e. GoesOnFrom o c.go_on.new.recalling e)) begun c.go_on.ensures.ok in
    let awaited = subst (λ (b : Option (List ℕ)). IfSome b (IsAwaitedBatch c.self.inside.healing c.args.now)) c.in-Some.is c.again.ensures.awaited in
    subst (λ (v : CatchUpValue). IfOk r (λ e. IfSome e (IsHealed v c.self-in-Some.inside.wave c.args.now))) c.self.view_is
    (subst (λ (w : Option AskedNumbers). IfOk r (λ e. IfSome e (IsHealed here w c.args.now))) (sym wave)
    (if_ok r goes (λ e goes. repeated_errand here c.args.now c.in-Some.batch _ e awaited goes)))
