-- The tapes that a roll becomes.
use Rattle.std.specs.Prelude.{◌≡◌, ◌-◌, ℕ, List, take, drop, Bool, true, false}
use Rattle.reel.specs.declared.piece.RollPiece.{RollPiece}
use Rattle.reel.specs.Pieces.{IsCut}
use Rattle.reel.specs.Trimming.{Trims}

-- the pieces as they are, or without their leaders and trailers
abbrev pub MayTrim : Bool → List ℕ → List RollPiece → List RollPiece → Type 0
MayTrim true frames pieces tapes = Trims frames pieces tapes
MayTrim false frames pieces tapes = tapes ≡ pieces

-- a roll is cut at its gaps, of so many blanks or more, and then each piece is trimmed where that is asked for
pub record AreTapes (least : ℕ) (trims : Bool) (frames : List ℕ) (tapes : List RollPiece) : Type 0 where
  pub pieces : List RollPiece
  pub cut : IsCut least frames pieces
  pub trimmed : MayTrim trims frames pieces tapes

-- the frames of a piece
abbrev pub frames_in : List ℕ → RollPiece → List ℕ
frames_in frames piece = take (piece.to - piece.from) (drop piece.from frames)
