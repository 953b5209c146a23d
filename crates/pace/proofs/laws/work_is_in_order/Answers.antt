-- Each by the tests that choose.
use Rattle.pace.proofs.Rules.{looks_come_first, datagrams_wait, due_numbers_give_way, deeds_give_way, asks_are_few, waits_have_no_work}
use Rattle.pace.proofs.laws.work_is_in_order.Goals as goal

pub returns-clause-looks : goal.returns-clause-looks
returns-clause-looks c = looks_come_first

pub returns-clause-datagrams : goal.returns-clause-datagrams
returns-clause-datagrams c = datagrams_wait

pub returns-clause-due : goal.returns-clause-due
returns-clause-due c = due_numbers_give_way

pub returns-clause-deeds : goal.returns-clause-deeds
returns-clause-deeds c = deeds_give_way

pub returns-clause-asks : goal.returns-clause-asks
returns-clause-asks c = asks_are_few

pub returns-clause-waits : goal.returns-clause-waits
returns-clause-waits c = waits_have_no_work
