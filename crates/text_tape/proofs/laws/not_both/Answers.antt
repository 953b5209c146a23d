use Rattle.text_tape.proofs.Excluded as excluded
use Rattle.text_tape.proofs.laws.not_both.Goals as goal

pub returns : goal.returns
returns c = excluded.not_both
