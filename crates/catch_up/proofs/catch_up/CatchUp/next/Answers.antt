-- What comes next and is sent spells a recall or a roll.
use Rattle.std.proofs.Common.{◌≡◌, Bool, false, ap, sym, subst, ◌∙◌}
use Rattle.catch_up.specs.CatchUp.{CatchUpValue, IsNext, calm}
use Rattle.catch_up.proofs.Next.{all_good}
use Rattle.catch_up.proofs.catch_up.CatchUp.next.Goals as goal

pub returns-clause-sends : goal.returns-clause-sends
returns-clause-sends c =
    let before : CatchUpValue = record {
      own = c.self.inside.own;
      healing = c.self.inside.healing;
      rolls = c.self.inside.rolls;
      asks = c.self.inside.asks;
      before = c.self.inside.before;
      wave = c.self.inside.wave;
      batches = c.self.inside.batches;
      recalling = c.self.inside.recalling;
      asked = c.self.inside.asked;
      is_stirred = false;
      others_first = c.self.inside.others_first;
      replies_first = c.self.inside.replies_first;
      rolls_first = c.self.inside.rolls_first;
    } in
    all_good before c.errand.new.self c.args.now c.in_ok-errand.errand c.in_ok-errand.ensures.next

pub returns-clause-next : goal.returns-clause-next
returns-clause-next c =
    let before : CatchUpValue = record {
      own = c.self.inside.own;
      healing = c.self.inside.healing;
      rolls = c.self.inside.rolls;
      asks = c.self.inside.asks;
      before = c.self.inside.before;
      wave = c.self.inside.wave;
      batches = c.self.inside.batches;
      recalling = c.self.inside.recalling;
      asked = c.self.inside.asked;
      is_stirred = false;
      others_first = c.self.inside.others_first;
      replies_first = c.self.inside.replies_first;
      rolls_first = c.self.inside.rolls_first;
    } in
    let there : CatchUpValue = record {
      own = c.self-2.inside.own;
      healing = c.self-2.inside.healing;
      rolls = c.self-2.inside.rolls;
      asks = c.self-2.inside.asks;
      before = c.self-2.inside.before;
      wave = c.self-2.inside.wave;
      batches = c.self-2.inside.batches;
      recalling = c.self-2.inside.recalling;
      asked = c.self-2.inside.asked;
      is_stirred = false;
      others_first = c.self-2.inside.others_first;
      replies_first = c.self-2.inside.replies_first;
      rolls_first = c.self-2.inside.rolls_first;
    } in
    let after = c.errand.new.self in
    let e = c.in_ok-errand.errand in
    let still : after ≡ record after { is_stirred = false } = ap (λ (b : Bool). record after { is_stirred = b }) c.errand.ensures.calm in
    let same = still ∙ ap calm (sym c.self-2.view_is) in
    let next = subst (λ (v : CatchUpValue). IsNext before v c.args.now e) same c.in_ok-errand.ensures.next in
    subst (λ (v : CatchUpValue). IsNext (calm v) there c.args.now e) c.self.view_is next
