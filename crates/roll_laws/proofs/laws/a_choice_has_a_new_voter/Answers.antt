-- Who reported no vote had none before the ballot was begun.
use Rattle.roll_laws.proofs.Finding.{choices_have_new_voters, searches_leave_news}
use Rattle.roll_laws.proofs.laws.a_choice_has_a_new_voter.Goals as goal

pub returns-clause-reported : goal.returns-clause-reported
returns-clause-reported g c = choices_have_new_voters

pub returns-clause-searched : goal.returns-clause-searched
returns-clause-searched g c = searches_leave_news
