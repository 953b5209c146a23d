-- Each by its rank.
use Rattle.pace.proofs.Ranks.{due_numbers_are_seen_to, deeds_are_done, datagrams_are_taken_in}
use Rattle.pace.proofs.laws.no_work_starves.Goals as goal

pub returns-clause-due : goal.returns-clause-due
returns-clause-due c = due_numbers_are_seen_to

pub returns-clause-deeds : goal.returns-clause-deeds
returns-clause-deeds c = deeds_are_done

pub returns-clause-datagrams : goal.returns-clause-datagrams
returns-clause-datagrams c = datagrams_are_taken_in
