-- One more is kept in mind.
use Rattle.std.proofs.Common.{◌≡◌, ◌∙◌, rules, sym}
use Rattle.std.proofs.lemmas.Iterator.Adapters.{YieldsList-from_vec}
use Rattle.std.proofs.lemmas.Iterator.Consumers.{YieldsList-end}
use Rattle.std.proofs.lemmas.List.{map-id}
use Rattle.plant_log.proofs.Kept.{none_kept, one_more_kept}
use Rattle.plant_log.proofs.passed.keep_all.Goals as goal

pub loop-each-init : goal.loop-each-init
loop-each-init c = none_kept c.args.kept.now c.args.next.now c.args.now

pub loop-each-preserved : goal.loop-each-preserved
loop-each-preserved c =
    one_more_kept c.args.kept.now c.args.next.now c.loop-each.next c.keep.new.next c.args.now c.loop-each.yielded c.in-Some.each
    c.loop-each.invariant c.keep.ensures

pub returns : goal.returns
returns c =
    let road = YieldsList-from_vec {s = c.into_iter-each-iterator.result} c.args.others.items (search rules) (search rules) in
    let end = YieldsList-end road c.loop-each.yielded c.loop-each.each-iterator c.loop-each.yielded_by c.next.result c.next.new.self c.in-None.is c.next.ensures.steps in
    let whole : c.loop-each.yielded ≡ c.args.others.items = sym (map-id c.loop-each.yielded) ∙ end.0 in
    rw whole at c.loop-each.invariant
