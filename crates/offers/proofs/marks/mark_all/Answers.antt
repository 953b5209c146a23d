use Rattle.std.proofs.Common.{◌≡◌, length, arith}
use Rattle.offers.proofs.Marking.{none_yet, one_marked, all_marked}
use Rattle.offers.proofs.marks.mark_all.Goals as goal

pub loop-index-init : goal.loop-index-init
loop-index-init c = record {
  moves = none_yet _ _ _ c.requires.none.moves c.requires.room.moves;
  others = none_yet _ _ _ c.requires.none.others c.requires.room.others;
  sought = none_yet _ _ _ c.requires.none.sought c.requires.room.sought;
  entries = none_yet _ _ _ c.requires.none.entries c.requires.room.entries;
  searches = none_yet _ _ _ c.requires.none.searches c.requires.room.searches;
}

pub loop-index-preserved : goal.loop-index-preserved
loop-index-preserved c = record {
  moves = rw c.put.ensures (one_marked _ c.args.offers.now c.loop-index.index _ c.mark_of-mark.result.moves c.index-offers-index.result c.loop-index.invariant.moves (omega arith) c.index-offers-index.is c.mark_of-mark.ensures.moves);
  others = rw c.put.ensures (one_marked _ c.args.offers.now c.loop-index.index _ c.mark_of-mark.result.others c.index-offers-index.result c.loop-index.invariant.others (omega arith) c.index-offers-index.is c.mark_of-mark.ensures.others);
  sought = rw c.put.ensures (one_marked _ c.args.offers.now c.loop-index.index _ c.mark_of-mark.result.sought c.index-offers-index.result c.loop-index.invariant.sought (omega arith) c.index-offers-index.is c.mark_of-mark.ensures.sought);
  entries = rw c.put.ensures (one_marked _ c.args.offers.now c.loop-index.index _ c.mark_of-mark.result.entries c.index-offers-index.result c.loop-index.invariant.entries (omega arith) c.index-offers-index.is c.mark_of-mark.ensures.entries);
  searches = rw c.put.ensures (one_marked _ c.args.offers.now c.loop-index.index _ c.mark_of-mark.result.searches c.index-offers-index.result c.loop-index.invariant.searches (omega arith) c.index-offers-index.is c.mark_of-mark.ensures.searches);
}

pub put-requires : goal.put-requires
put-requires c = record {
  within = record {
    moves = omega (arith, c.loop-index.invariant.moves.room);
    others = omega (arith, c.loop-index.invariant.others.room);
    sought = omega (arith, c.loop-index.invariant.sought.room);
    entries = omega (arith, c.loop-index.invariant.entries.room);
    searches = omega (arith, c.loop-index.invariant.searches.room);
  };
  moves = c.loop-index.invariant.moves.rest;
  others = c.loop-index.invariant.others.rest;
  sought = c.loop-index.invariant.sought.rest;
  entries = c.loop-index.invariant.entries.rest;
  searches = c.loop-index.invariant.searches.rest;
}

pub returns : goal.returns
returns c =
    let end : c.loop-index.index ≡ length c.args.offers.now = omega arith in
    record {
      moves = all_marked _ c.args.offers.now _ (rw end at c.loop-index.invariant.moves);
      others = all_marked _ c.args.offers.now _ (rw end at c.loop-index.invariant.others);
      sought = all_marked _ c.args.offers.now _ (rw end at c.loop-index.invariant.sought);
      entries = all_marked _ c.args.offers.now _ (rw end at c.loop-index.invariant.entries);
      searches = all_marked _ c.args.offers.now _ (rw end at c.loop-index.invariant.searches);
    }
