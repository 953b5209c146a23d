-- The stage is set once, and then played on.
use Rattle.std.proofs.Common.{Option, subst, inr}
use Rattle.std.proofs.lemmas.Result.{on_err_weaker}
use Rattle.rehearse_command.specs.Rehearsals.{IsStaged}
use Rattle.rehearse_command.specs.declared.rehearsal.Rehearsal.{Rehearsal}
use Rattle.rehearse_command.proofs.rehearsal.play_line.Goals as goal

pub returns-in-Some-clause-stops : goal.returns-in-Some-clause-stops
returns-in-Some-clause-stops g c = λ by start set_up s.
    let mid = g.W.Write.contents c.args.out.now in
    on_err_weaker c.play_order.result (λ h. inr (c.play_order.new.stage.world, h))
    (c.play_order.ensures.stops by start (subst (λ (stage : Option Rehearsal). IsStaged by start mid stage) c.in-Some.is s))

pub returns-in_ok-set_stage-in-None-clause-goes_on : goal.returns-in_ok-set_stage-in-None-clause-goes_on
returns-in_ok-set_stage-in-None-clause-goes_on g c = λ by start set_up s.
    let mid = g.W.Write.contents c.args.out.now in
    c.in_ok-set_stage-in-None.ensures.stands by start mid set_up (subst (λ (stage : Option Rehearsal). IsStaged by start mid stage) c.in-None.is s)
