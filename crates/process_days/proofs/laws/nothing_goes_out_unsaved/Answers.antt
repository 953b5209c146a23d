-- What goes out is behind a save in the log, and there the rows are settled.
use Rattle.process_days.proofs.Saved.{answers_are_saved, files_are_saved, moves_are_saved, notes_are_saved, old_notes_are_saved, sends_are_saved}
use Rattle.process_days.proofs.laws.nothing_goes_out_unsaved.Goals as goal

pub returns-clause-sends : goal.returns-clause-sends
returns-clause-sends g c = sends_are_saved g.R.Rows g.R.Settles.is_settled

pub returns-clause-files : goal.returns-clause-files
returns-clause-files g c = files_are_saved g.R.Rows g.R.Settles.is_settled

pub returns-clause-notes : goal.returns-clause-notes
returns-clause-notes g c = notes_are_saved g.R.Rows g.R.Settles.is_settled

pub returns-clause-old_notes : goal.returns-clause-old_notes
returns-clause-old_notes g c = old_notes_are_saved g.R.Rows g.R.Settles.is_settled

pub returns-clause-moves : goal.returns-clause-moves
returns-clause-moves g c = moves_are_saved g.R.Rows g.R.Settles.is_settled

pub returns-clause-answers : goal.returns-clause-answers
returns-clause-answers g c = answers_are_saved g.R.Rows g.R.Settles.is_settled
