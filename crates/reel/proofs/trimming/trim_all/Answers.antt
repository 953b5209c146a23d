use Rattle.std.proofs.Common.{take, get_or}
use Rattle.std.proofs.lemmas.List.{take_more}
use Rattle.reel.specs.declared.piece.RollPiece.{RollPiece}
use Rattle.reel.specs.Trimming as trims
use Rattle.reel.proofs.Trims.{more_left_out, more_trimmed}
use Rattle.reel.proofs.trimming.trim_all.Goals as goal
use Rattle.reel.proofs.trimming.trim_all.Goals.{in-Some+in_ok-push-in-Some, in-None}

pub loop-piece-init : goal.loop-piece-init
loop-piece-init c = rw c.new-trimmed.ensures.items trims.none

pub loop-piece-preserved : goal.loop-piece-preserved
loop-piece-preserved c =
    let frames = c.args.frames.now in
    let pieces = c.args.pieces.now in
    let at = c.loop-piece.piece-index in
    let none : RollPiece = record { from = 0; to = 0 } in
    let before = c.loop-piece.trimmed.items in
    elim c.match-trim.branch [
      | in-Some+in_ok-push-in-Some w ↦
          rw (w.trimmed-is, w.in_ok-push-in-Some.ensures.items, take_more pieces at none c.loop-piece-test.true)
          (more_trimmed frames (take at pieces) before (get_or pieces at none) w.in-Some.left c.loop-piece.invariant w.in-Some.ensures)
      | in-None w ↦
          rw (w.trimmed-is, take_more pieces at none c.loop-piece-test.true)
          (more_left_out frames (take at pieces) before (get_or pieces at none) c.loop-piece.invariant w.in-None.ensures)
    ]
