-- Each was told behind those before it.
use Rattle.std.proofs.Common.{◌≡◌, get_or, refl}
use Rattle.folders.specs.declared.folders.PassedOver.{PassedOver}
use Rattle.plant_log.specs.Passing.{IsPassingTold, passing_text}
use Rattle.plant_log.proofs.Each.{each_more}
use Rattle.plant_log.proofs.passed.Passed.tell_all.Goals as goal

pub loop-each-init : goal.loop-each-init
loop-each-init g c = refl

pub loop-each-preserved : goal.loop-each-preserved
loop-each-preserved g c =
    let at : PassedOver = c.each-item.result in
    let is : at ≡ get_or c.args.others.now c.loop-each.each-index at = c.each-item.is in
    each_more (IsPassingTold c.args.self.now.kept c.args.now) passing_text c.args.others.now c.loop-each.each-index at at
    (g.E.Write.contents c.args.err.now) (g.E.Write.contents c.loop-each.err) (g.E.Write.contents c.tell.new.err)
    c.loop-each-test.true is c.loop-each.invariant c.tell.ensures
