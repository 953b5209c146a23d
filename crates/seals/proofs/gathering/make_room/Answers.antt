use Rattle.std.proofs.Common.{◌≡◌, arith}
use Rattle.seals.proofs.gathering.make_room.Goals as goal
use Rattle.seals.proofs.Counting.{none_count}
use Rattle.seals.specs.Places.{count_from}

pub unreachable-requires : goal.unreachable-requires
unreachable-requires c =
    let none = none_count c.args.member c.deref-2.result.now c.in-None.ensures in
    let left = c.deref.ensures.value in
    let right = c.deref-2.ensures.value in
    let same : count_from c.args.member c.deref.result.now ≡ count_from c.args.member c.deref-2.result.now = cc in
    omega arith
