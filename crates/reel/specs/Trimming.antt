-- What is left of pieces without their leaders and trailers.
use Rattle.std.specs.Prelude.{◌≡◌, ◌<◌, ◌≤◌, ◌-◌, ℕ, List, [], ◌∷◌, slice_index, Bool, true, false, ◌==◌, ◌||◌}
use Rattle.reel.specs.declared.piece.RollPiece.{RollPiece}

-- a frame of a leader or a trailer: a blank, or a rub-out, which has all six holes
abbrev pub is_leader : ℕ → Bool
is_leader frame = (frame == 0) || (frame == 63)

-- the frames from a place on and before another are all of a leader
abbrev pub AllLeader : List ℕ → ℕ → ℕ → Type 0
AllLeader frames from to = (k : ℕ) → from ≤ k → k < to → is_leader (slice_index frames k) ≡ true

-- what is left of a piece: before it and behind it all is leader, and its first and its last frame are not
pub record IsTrimmed (frames : List ℕ) (old new : RollPiece) : Type 0 where
  pub low : old.from ≤ new.from
  pub some : new.from < new.to
  pub high : new.to ≤ old.to
  pub leader : AllLeader frames old.from new.from
  pub trailer : AllLeader frames new.to old.to
  pub first : is_leader (slice_index frames new.from) ≡ false
  pub last : is_leader (slice_index frames (new.to - 1)) ≡ false

-- what is left of each piece, in order; one of which nothing is left is left out
pub data Trims (frames : List ℕ) : List RollPiece → List RollPiece → Type 0 where
  none : Trims frames [] []
  left_out : (piece : RollPiece) (pieces left : List RollPiece) → AllLeader frames piece.from piece.to → Trims frames pieces left → Trims frames (piece ∷ pieces) left
  trimmed : (piece new : RollPiece) (pieces left : List RollPiece) → IsTrimmed frames piece new → Trims frames pieces left → Trims frames (piece ∷ pieces) (new ∷ left)
