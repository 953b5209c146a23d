use Rattle.looks.proofs.Taking.{other_more}
use Rattle.looks.proofs.gathering.LookFindings.add_others.Goals as goal

pub loop-other-preserved : goal.loop-other-preserved
loop-other-preserved c = λ whole.
    other_more c.loop-other.yielded c.in-Some.other c.args.self.now c.loop-other.self c.add_other.new.self c.loop-other.invariant (c.add_other.ensures whole)
