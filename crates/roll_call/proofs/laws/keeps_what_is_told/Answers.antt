use Rattle.roll_call.proofs.Keeping.{keeps_counts, keeps_page}
use Rattle.roll_call.proofs.laws.keeps_what_is_told.Goals as goal

pub returns : goal.returns
returns c = record { counts = keeps_counts; page = keeps_page }
