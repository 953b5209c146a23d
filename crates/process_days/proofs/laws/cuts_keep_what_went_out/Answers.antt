-- Nothing is sent or written behind the last save.
use Rattle.process_days.proofs.Cutting.{cuts_keep_the_filed, cuts_keep_the_printed, cuts_keep_the_sent, logs_are_cut, stories_have_prefixes, stretches_file_the_stored}
use Rattle.process_days.proofs.laws.cuts_keep_what_went_out.Goals as goal

pub returns-clause-cut : goal.returns-clause-cut
returns-clause-cut c = logs_are_cut

pub returns-clause-sent : goal.returns-clause-sent
returns-clause-sent c = cuts_keep_the_sent

pub returns-clause-printed : goal.returns-clause-printed
returns-clause-printed c = cuts_keep_the_printed

pub returns-clause-filed : goal.returns-clause-filed
returns-clause-filed c = cuts_keep_the_filed

pub returns-clause-stories : goal.returns-clause-stories
returns-clause-stories c = stories_have_prefixes

pub returns-clause-stretches : goal.returns-clause-stretches
returns-clause-stretches c = stretches_file_the_stored
