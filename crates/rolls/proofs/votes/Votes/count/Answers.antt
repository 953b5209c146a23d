use Rattle.std.proofs.Common.{ℕ, List, ap, ◌∙◌}
use Rattle.rolls.specs.Pages.{page_numbers}
use Rattle.rolls.specs.Votes.{set_below, how_many}
use Rattle.rolls.proofs.Flags.{fit}
use Rattle.rolls.proofs.votes.Votes.count.Goals as goal

pub returns-clause-many : goal.returns-clause-many
unfolding how_many
returns-clause-many c = c.set_in.ensures ∙ ap (λ (l : List ℕ). set_below l page_numbers) c.as_bytes.ensures.value

pub returns-clause-fits : goal.returns-clause-fits
returns-clause-fits c = rw (returns-clause-many c) (fit c.args.self.now c.as_bytes.ensures.votes)
