use Rattle.offers.proofs.Marking.{set_place, no_place}
use Rattle.offers.proofs.marks.remark_at.Goals as goal

pub returns-in-Some : goal.returns-in-Some
returns-in-Some c =
    rw c.set.ensures
    (record {
      moves = set_place _ c.args.offers.now c.args.place c.in-Some.index c.args.marks.now.moves c.mark_of-mark.result.moves c.index-offers-index.result c.requires.rises c.in-Some.ensures c.requires.room.moves c.index-offers-index.is c.mark_of-mark.ensures.moves;
      others = set_place _ c.args.offers.now c.args.place c.in-Some.index c.args.marks.now.others c.mark_of-mark.result.others c.index-offers-index.result c.requires.rises c.in-Some.ensures c.requires.room.others c.index-offers-index.is c.mark_of-mark.ensures.others;
      sought = set_place _ c.args.offers.now c.args.place c.in-Some.index c.args.marks.now.sought c.mark_of-mark.result.sought c.index-offers-index.result c.requires.rises c.in-Some.ensures c.requires.room.sought c.index-offers-index.is c.mark_of-mark.ensures.sought;
      entries = set_place _ c.args.offers.now c.args.place c.in-Some.index c.args.marks.now.entries c.mark_of-mark.result.entries c.index-offers-index.result c.requires.rises c.in-Some.ensures c.requires.room.entries c.index-offers-index.is c.mark_of-mark.ensures.entries;
      searches = set_place _ c.args.offers.now c.args.place c.in-Some.index c.args.marks.now.searches c.mark_of-mark.result.searches c.index-offers-index.result c.requires.rises c.in-Some.ensures c.requires.room.searches c.index-offers-index.is c.mark_of-mark.ensures.searches;
    })

pub returns-in_default : goal.returns-in_default
returns-in_default c = record {
  moves = no_place _ c.args.offers.now c.args.place _ c.requires.rises c.in_default.ensures;
  others = no_place _ c.args.offers.now c.args.place _ c.requires.rises c.in_default.ensures;
  sought = no_place _ c.args.offers.now c.args.place _ c.requires.rises c.in_default.ensures;
  entries = no_place _ c.args.offers.now c.args.place _ c.requires.rises c.in_default.ensures;
  searches = no_place _ c.args.offers.now c.args.place _ c.requires.rises c.in_default.ensures;
}
