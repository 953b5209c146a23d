use Rattle.offers.proofs.Marking.{of_places}
use Rattle.offers.proofs.marks.remark.Goals as goal

pub returns : goal.returns
returns c =
    let one = rw (c.rank.ensures.rank, c.request_of.ensures) at c.remark_at.ensures in
    let two = rw (c.rank-2.ensures.rank, c.request_of-2.ensures) at c.remark_at-2.ensures in
    let three = rw (c.rank-3.ensures.rank, c.request_of-3.ensures) at c.remark_at-3.ensures in
    let four = rw (c.rank-4.ensures.rank, c.request_of-4.ensures) at c.remark_at-4.ensures in
    record {
      moves = of_places _ c.args.offers.now c.args.number _ _ _ _ _ one.moves two.moves three.moves four.moves;
      others = of_places _ c.args.offers.now c.args.number _ _ _ _ _ one.others two.others three.others four.others;
      sought = of_places _ c.args.offers.now c.args.number _ _ _ _ _ one.sought two.sought three.sought four.sought;
      entries = of_places _ c.args.offers.now c.args.number _ _ _ _ _ one.entries two.entries three.entries four.entries;
      searches = of_places _ c.args.offers.now c.args.number _ _ _ _ _ one.searches two.searches three.searches four.searches;
    }
