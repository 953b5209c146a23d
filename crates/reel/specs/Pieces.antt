-- Where a roll is cut: at its gaps, blanks of which so many stand one behind the other.
use Rattle.std.specs.Prelude.{◌≡◌, ◌<◌, ◌≤◌, ◌⊎◌, ◌+◌, ℕ, List, [], ◌∷◌, length, slice_index}
use Rattle.reel.specs.declared.piece.RollPiece.{RollPiece}

-- so many blanks, frames without a hole, stand from a place on
pub record IsGap (least : ℕ) (frames : List ℕ) (from : ℕ) : Type 0 where
  pub within : from + least ≤ length frames
  pub blank : (k : ℕ) → from ≤ k → k < from + least → slice_index frames k ≡ 0

-- blanks stand from one place on up to another, and no blank there, or it is the end of the frames
pub record AreBlanks (frames : List ℕ) (from to : ℕ) : Type 0 where
  pub within : (from ≤ to) × (to ≤ length frames)
  pub blank : (k : ℕ) → from ≤ k → k < to → slice_index frames k ≡ 0
  pub filled : to < length frames → ¬ (slice_index frames to ≡ 0)

-- the first gap from one place on begins at another, or that is the end of the frames and there is none
pub record IsNextGap (least : ℕ) (frames : List ℕ) (from to : ℕ) : Type 0 where
  pub within : (from ≤ to) × (to ≤ length frames)
  pub none : (k : ℕ) → from ≤ k → k < to → ¬ (IsGap least frames k)
  pub gap : to < length frames → IsGap least frames to

-- a frame lies in a gap: it is one of so many blanks
pub record InGap (least : ℕ) (frames : List ℕ) (at : ℕ) : Type 0 where
  pub from : ℕ
  pub gap : IsGap least frames from
  pub reaches : from ≤ at
  pub behind : at < from + least

-- a frame lies in one of some pieces
abbrev pub InPiece : List RollPiece → ℕ → Type 0
InPiece [] at = ⊥
InPiece (piece ∷ pieces) at = ((piece.from ≤ at) × (at < piece.to)) ⊎ InPiece pieces at

-- pieces from a place on, in order: none is empty, and between two lies a frame at least
abbrev pub AreApart : ℕ → List RollPiece → Type 0
AreApart from [] = Unit {0}
AreApart from (piece ∷ pieces) = (from ≤ piece.from) × (piece.from < piece.to) × AreApart (piece.to + 1) pieces

-- a roll is cut into these pieces: they stand apart, and each frame lies in a piece, or in a gap of which no piece has a frame
pub record IsCut (least : ℕ) (frames : List ℕ) (pieces : List RollPiece) : Type 0 where
  pub apart : AreApart 0 pieces
  pub within : (at : ℕ) → InPiece pieces at → at < length frames
  pub kept : (at : ℕ) → at < length frames → InPiece pieces at ⊎ InGap least frames at
  pub clean : (at : ℕ) → InPiece pieces at → InGap least frames at → ⊥
