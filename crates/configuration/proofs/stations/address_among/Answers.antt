use Rattle.std.proofs.Common.{◌==◌, ◌∙◌, rules, tests}
use Rattle.std.proofs.lemmas.Iterator.{YieldsList-from_slice}
use Rattle.std.proofs.lemmas.Iterator.Search.{find_from_yields_List}
use Rattle.configuration.proofs.stations.address_among.Goals as goal

pub returns : goal.returns
returns c = c.copied.ensures ∙ find_from_yields_List (λ address. address.member == c.args.member) _ _ c.find.result c.find.ensures.ran (YieldsList-from_slice c.args.addresses.now cc) (λ x b q k. search (rules, tests))
