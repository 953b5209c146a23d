-- What is to be told is.
use Rattle.plant_log.specs.Passing.{IsPassingTold, passing_text}
use Rattle.plant_log.proofs.Each.{told_so}
use Rattle.plant_log.proofs.passed.Passed.tell.Goals as goal

pub returns-then-is_told : goal.returns-then-is_told
returns-then-is_told g c =
    let told : IsPassingTold c.args.self.now.kept c.args.now c.args.each.now = c.is_told.ensures.0 c.if-is_told.true in
    told_so (passing_text c.args.each.now) (g.E.Write.contents c.args.err.now) (g.E.Write.contents c.tell_file.new.err) told (rw c.as_str.ensures.value at c.tell_file.ensures)
