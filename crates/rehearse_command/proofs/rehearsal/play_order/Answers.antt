-- A line that orders nothing leaves the stage, and after one that orders something it is no more new.
use Rattle.std.proofs.Common.{sym, subst}
use Rattle.std.proofs.lemmas.Result.{on_ok_weaker, on_err_weaker}
use Rattle.rows_saved.specs.Memory.{MemoryOf}
use Rattle.world.specs.declared.world.World.{World}
use Rattle.rehearse_command.specs.Rehearsals.{StandsFront}
use Rattle.rehearse_command.proofs.Shown.{front_shown, played_on}
use Rattle.rehearse_command.proofs.rehearsal.play_order.Goals as goal

pub returns-in-Ok-Wire-clause-stops : goal.returns-in-Ok-Wire-clause-stops
returns-in-Ok-Wire-clause-stops g c = λ by start s.
    let mid = g.W.Write.contents c.args.out.now in
    on_err_weaker c.turn_to.result
    (λ same. subst (λ (v : World MemoryOf). StandsFront by start mid v) (sym same) (front_shown by start mid c.args.stage.now.world s.0))
    c.turn_to.ensures.stops

pub returns-in-Ok-clause-goes_on : goal.returns-in-Ok-clause-goes_on
returns-in-Ok-clause-goes_on g c = λ by start set_up s.
    on_ok_weaker c.play.result
    (λ h. played_on by start (g.W.Write.contents c.play.new.out) c.play.new.self c.play.ensures.no_more h)
    (c.play.ensures.goes_on by start s.0)

pub returns-in-Ok-clause-stops : goal.returns-in-Ok-clause-stops
returns-in-Ok-clause-stops g c = λ by start s. c.play.ensures.stops by start s.0

pub returns-in-Err-clause-stops : goal.returns-in-Err-clause-stops
returns-in-Err-clause-stops g c = λ by start s. front_shown by start (g.W.Write.contents c.args.out.now) c.args.stage.now.world s.0
