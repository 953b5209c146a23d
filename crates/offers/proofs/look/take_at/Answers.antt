use Rattle.std.proofs.Common.{◌∙◌, sym}
use Rattle.offers.proofs.Merging.{behind_first, none_at}
use Rattle.offers.proofs.look.take_at.Goals as goal

pub returns-then-starts_before-clause-rest : goal.returns-then-starts_before-clause-rest
returns-then-starts_before-clause-rest c = c.pop_front.ensures.rest ∙ behind_first _ _ c.requires.rises (sym c.starts_before.ensures ∙ c.if-starts_before.true)

pub returns-else-starts_before-clause-file : goal.returns-else-starts_before-clause-file
returns-else-starts_before-clause-file c = sym (none_at _ _ c.requires.rises (sym c.starts_before.ensures ∙ c.if-starts_before.false))
