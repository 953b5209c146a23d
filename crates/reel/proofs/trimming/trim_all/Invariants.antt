use Rattle.std.proofs.Common.{take}
use Rattle.reel.specs.Trimming.{Trims}
use Rattle.reel.proofs.trimming.trim_all.Given as goal

abbrev pub invariant-loop-piece : goal.invariant-loop-piece
invariant-loop-piece l = Trims l.frames (take l.piece-index l.pieces) l.trimmed.items
