use Rattle.code_chart.proofs.Marks as marks
use Rattle.code_chart.proofs.laws.marked_just_there.Goals as goal

pub returns-clause-none : goal.returns-clause-none
returns-clause-none c = marks.none_just_there

pub returns-clause-lacking : goal.returns-clause-lacking
returns-clause-lacking c = marks.lacking_just_there

pub returns-clause-shared : goal.returns-clause-shared
returns-clause-shared c = marks.shared_just_there
