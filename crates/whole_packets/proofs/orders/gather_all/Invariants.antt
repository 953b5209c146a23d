use Rattle.std.proofs.Common.{take}
use Rattle.whole_packets.proofs.Runs.{AllCame}
use Rattle.whole_packets.proofs.orders.gather_all.Given as goal

abbrev pub invariant-loop-piece : goal.invariant-loop-piece
invariant-loop-piece l = AllCame l.keys l.pieces (take l.piece-index l.pieces) l.gathering
