-- The first address is the first place, and so are the others; of none there is none.
use Rattle.std.proofs.Common.{sym, ◌∙◌}
use Rattle.init_command.proofs.Places.{no_places, places_more}
use Rattle.init_command.proofs.reading_back.+are_places.Goals as goal

pub returns-in_default : goal.returns-in_default
returns-in_default t c = λ none. no_places c.args.addresses.now c.args.places.now c.in_default.len_below (sym c.is_empty.ensures ∙ none)

pub returns : goal.returns
returns t c =
    λ yes. places_more c.args.addresses.now c.args.places.now c.address-item.result _ c.in-len1-up.len_at_least c.in-len1-up-places.len_at_least
    c.address-item.is (c.is_place.ensures c.if-not-is_place.false) (c.are_places.ensures yes)
