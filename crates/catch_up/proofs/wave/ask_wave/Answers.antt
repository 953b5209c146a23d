-- The numbers of a batch are circuit numbers.
use Rattle.catch_up.proofs.Rising.{rise_numbers}
use Rattle.catch_up.proofs.wave.ask_wave.Goals as goal

pub ask-requires-clause-numbers : goal.ask-requires-clause-numbers
ask-requires-clause-numbers c = rise_numbers 0 _ c.numbers.ensures.rise
