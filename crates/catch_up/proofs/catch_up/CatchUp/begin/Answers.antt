-- An ask that comes last asks from what was known.
use Rattle.std.proofs.Common.{◌≡◌, inl, Option, IfSome, refl, sym, ap, subst, ◌∙◌}
use Rattle.catch_up.specs.declared.errand.Errand.{Errand}
use Rattle.catch_up.specs.declared.wave.AskedNumbers.{AskedNumbers}
use Rattle.catch_up.specs.Lacking.{may_ask_pages}
use Rattle.catch_up.specs.CatchUp.{CatchUpValue, IsFirstAsk, IsHealed}
use Rattle.catch_up.proofs.Next.{if_ok, last_asked, healed_first}
use Rattle.catch_up.proofs.catch_up.CatchUp.begin.Goals as goal

pub returns-clause-own : goal.returns-clause-own
returns-clause-own c =
    let first = subst (λ (e : Option Errand). IsFirstAsk c.args.self.now c.first_ask.new.self c.args.now c.may_ask_pages-may.result e) c.in_default.is c.in_ok-errand.ensures.asked in
    if_ok c.last_ask.result c.last_ask.ensures.asked
    (λ e last. last_asked c.args.self.now c.first_ask.new.self c.heal.new.self c.last_ask.new.self c.args.now c.may_ask_pages-may.result e first
    (ap (λ (v : CatchUpValue). v.rolls) c.heal.ensures.rest) (ap (λ (v : CatchUpValue). v.rolls_first) c.heal.ensures.rest)
    (c.may_ask_pages-may.ensures ∙ ap (λ (v : CatchUpValue). may_ask_pages v.healing) c.self.view_is) last)

-- What is lacked is seen to where no ask came first.
pub returns-in-Some-2-clause-own : goal.returns-in-Some-2-clause-own
returns-in-Some-2-clause-own c =
    let first = subst (λ (e : Option Errand). IsFirstAsk c.args.self.now c.first_ask.new.self c.args.now c.may_ask_pages-may.result e) c.in_default.is c.in_ok-errand.ensures.asked in
    let healed = subst (λ (e : Option Errand). IfSome e (IsHealed c.first_ask.new.self c.heal.new.self.wave c.args.now)) c.in-Some-2.is c.in_ok-errand-2.ensures.own in
    let seen = healed_first c.args.self.now c.first_ask.new.self c.heal.new.self.wave c.args.now c.may_ask_pages-may.result c.in-Some-2.errand first c.first_ask.ensures.rest
    (c.may_ask_pages-may.ensures ∙ ap (λ (v : CatchUpValue). may_ask_pages v.healing) c.self.view_is) healed in
    inl (subst (λ (w : Option AskedNumbers). IsHealed c.args.self.now w c.args.now c.in-Some-2.errand) (sym (ap (λ (v : CatchUpValue). v.wave) c.self-2.view_is)) seen.0, seen.1, refl)
