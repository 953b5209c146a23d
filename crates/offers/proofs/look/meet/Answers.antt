use Rattle.std.proofs.Common.{suc, arith}
use Rattle.offers.proofs.Merging.{rises_from, file_from, from_from}
use Rattle.offers.proofs.look.meet.Goals as goal

pub take_at-known-requires-clause-rises : goal.take_at-known-requires-clause-rises
take_at-known-requires-clause-rises c = rw c.skip_to.ensures (rises_from c.rank-place.result 0 c.args.rest.now.items c.requires)

pub returns-clause-file : goal.returns-clause-file
returns-clause-file c = let same = file_from c.rank-place.result c.rank-place.result c.args.rest.now.items (omega arith) in cc

pub returns-clause-rest : goal.returns-clause-rest
returns-clause-rest c = let same = from_from c.rank-place.result (suc c.rank-place.result) c.args.rest.now.items (omega arith) in cc
