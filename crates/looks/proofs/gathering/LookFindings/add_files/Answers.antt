use Rattle.looks.proofs.Taking.{file_more}
use Rattle.looks.proofs.gathering.LookFindings.add_files.Goals as goal

pub loop-file-preserved : goal.loop-file-preserved
loop-file-preserved c = λ whole.
    file_more c.loop-file.yielded c.in-Some.file c.args.self.now c.loop-file.self c.add_file.new.self c.loop-file.invariant (c.add_file.ensures whole)
