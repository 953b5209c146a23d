-- One piece more that is trimmed.
use Rattle.std.proofs.Common.{ℕ, List, [], ◌∷◌, ◌++◌}
use Rattle.reel.specs.declared.piece.RollPiece.{RollPiece}
use Rattle.reel.specs.Trimming.{AllLeader, IsTrimmed, Trims}
use Rattle.reel.specs.Trimming as trims

pub more_left_out : (frames : List ℕ) (pieces left : List RollPiece) (piece : RollPiece) → Trims frames pieces left → AllLeader frames piece.from piece.to
    → Trims frames (pieces ++ piece ∷ []) left
more_left_out frames pieces left piece trims.none all = trims.left_out piece [] [] all trims.none
more_left_out frames pieces left piece (trims.left_out p ps ls h t) all = trims.left_out p (ps ++ piece ∷ []) ls h (more_left_out frames ps ls piece t all)
more_left_out frames pieces left piece (trims.trimmed p q ps ls h t) all = trims.trimmed p q (ps ++ piece ∷ []) ls h (more_left_out frames ps ls piece t all)

pub more_trimmed : (frames : List ℕ) (pieces left : List RollPiece) (piece new : RollPiece) → Trims frames pieces left → IsTrimmed frames piece new
    → Trims frames (pieces ++ piece ∷ []) (left ++ new ∷ [])
more_trimmed frames pieces left piece new trims.none all = trims.trimmed piece new [] [] all trims.none
more_trimmed frames pieces left piece new (trims.left_out p ps ls h t) all = trims.left_out p (ps ++ piece ∷ []) (ls ++ new ∷ []) h (more_trimmed frames ps ls piece new t all)
more_trimmed frames pieces left piece new (trims.trimmed p q ps ls h t) all = trims.trimmed p q (ps ++ piece ∷ []) (ls ++ new ∷ []) h (more_trimmed frames ps ls piece new t all)
