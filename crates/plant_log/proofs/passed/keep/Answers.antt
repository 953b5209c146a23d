-- It is put in under its name.
use Rattle.plant_log.proofs.Kept.{inserted}
use Rattle.plant_log.proofs.passed.keep.Goals as goal

pub returns : goal.returns
returns c =
    inserted c.args.kept.now c.args.next.now c.insert.new.self c.args.now c.args.each c.told_after-standing.result c.insert.result
    (rw (c.last_of-last.ensures, c.as_str.ensures.value) at c.told_after-standing.ensures) c.insert.ensures.updates c.insert.ensures.err
