-- The numbers of a recall are circuit numbers.
use Rattle.std.proofs.Common.{sym, subst}
use Rattle.recalls.specs.Recalls.{Rise}
use Rattle.catch_up.proofs.Rising.{rise_numbers}
use Rattle.catch_up.proofs.catch_up.CatchUp.hear_recall.Goals as goal

pub ask-requires : goal.ask-requires
ask-requires c = rise_numbers 0 _ (subst (Rise 0) (sym c.numbers.ensures.value) c.numbers.ensures.recalled.rise)
