-- What comes first for others, and what comes of the plant's own where nothing does.
use Rattle.std.proofs.Common.{rules, ◌≡◌, true, false, Option, IfSome, inl, inr, refl, sym, ap, subst}
use Rattle.catch_up.specs.declared.errand.Errand.{Errand}
use Rattle.catch_up.specs.CatchUp.{CatchUpValue, AreFirst, IsFirstForOthers, IsOwnErrand, IsOwnNext}
use Rattle.catch_up.proofs.catch_up.CatchUp.errand.Goals as goal

pub returns-in-Some : goal.returns-in-Some
returns-in-Some c =
    let first = subst (λ (e : Option Errand). IsFirstForOthers c.args.self.now c.first_for_others.new.self c.args.now e) c.in-Some.is c.in_ok-errand.ensures.errand in
    record {
      next = inr (c.args.self.now, c.first_for_others.new.self, inl (first.0, refl), first.1, ap (λ (v : CatchUpValue). record v { others_first = false }) c.self.view_is);
      calm = search rules;
      stays = search rules;
    }

pub returns-in-Some-2 : goal.returns-in-Some-2
returns-in-Some-2 c =
    let mid = c.first_for_others.new.self in
    let after = c.own_errand.new.self in
    let errand = c.in-Some-2.errand in
    let none = subst (λ (e : Option Errand). IsFirstForOthers c.args.self.now mid c.args.now e) c.in_default.is c.in_ok-errand.ensures.errand in
    let asks = subst (λ (e : Option Errand). IfSome e (λ x. mid.asks ≡ true)) c.in-Some-2.is c.in_ok-errand-2.ensures.asks in
    let own = subst (λ (e : Option Errand). IfSome e (IsOwnErrand mid after c.args.now)) c.in-Some-2.is c.in_ok-errand-2.ensures.own in
    let first = subst (λ (v : CatchUpValue). ¬ AreFirst v c.args.now) (sym none.1) none.0 in
    let next : IsOwnNext mid (record after { others_first = true }) c.args.now errand = (after, asks, first, own, c.own_errand.ensures.keeps, refl) in
    let here = subst (λ (v : CatchUpValue). IsOwnNext v (record after { others_first = true }) c.args.now errand) none.1 next in
    record {
      next = inl (subst (λ (v : CatchUpValue). IsOwnNext c.args.self.now v c.args.now errand) (sym (ap (λ (v : CatchUpValue). record v { others_first = true }) c.self-2.view_is)) here);
      calm = search rules;
      stays = search rules;
    }
