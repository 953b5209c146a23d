-- Votes stay, and two majorities share a member.
use Rattle.roll_laws.proofs.Missing.{rolls_miss_nothing, votes_are_told_from_then_on}
use Rattle.roll_laws.proofs.laws.rolls_miss_nothing.Goals as goal

pub returns-clause-later : goal.returns-clause-later
returns-clause-later g c = votes_are_told_from_then_on

pub returns-clause-chosen : goal.returns-clause-chosen
returns-clause-chosen g c = rolls_miss_nothing
