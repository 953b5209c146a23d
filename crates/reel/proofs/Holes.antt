-- The levels of a frame that is made of its holes.
use Rattle.std.proofs.Common.{◌≡◌, ℕ, ◌+◌, ◌<◌, Bool, true, false, refl, arith}
use Rattle.reel.specs.Levels.{weight_if, is_punched, frame_of, is_hole, Reads}
use Rattle.reel.specs.declared.levels.Levels.{Levels}

-- the frame of six holes
abbrev pub of_holes : Bool → Bool → Bool → Bool → Bool → Bool → ℕ
of_holes a b c d e f = weight_if a 1 + weight_if b 2 + weight_if c 4 + weight_if d 8 + weight_if e 16 + weight_if f 32

-- what is said of it
pub record HasHoles (a b c d e f : Bool) (frame : ℕ) : Type 0 where
  pub small : frame < 64
  pub level0 : is_punched 1 frame ≡ a
  pub level1 : is_punched 2 frame ≡ b
  pub level2 : is_punched 4 frame ≡ c
  pub level3 : is_punched 8 frame ≡ d
  pub level4 : is_punched 16 frame ≡ e
  pub level5 : is_punched 32 frame ≡ f

has_holes : (a b c d e f : Bool) → HasHoles a b c d e f (of_holes a b c d e f)
has_holes true true true true true true = record { small = omega arith; level0 = refl; level1 = refl; level2 = refl; level3 = refl; level4 = refl; level5 = refl }
has_holes true true true true true false = record { small = omega arith; level0 = refl; level1 = refl; level2 = refl; level3 = refl; level4 = refl; level5 = refl }
has_holes true true true true false true = record { small = omega arith; level0 = refl; level1 = refl; level2 = refl; level3 = refl; level4 = refl; level5 = refl }
has_holes true true true true false false = record { small = omega arith; level0 = refl; level1 = refl; level2 = refl; level3 = refl; level4 = refl; level5 = refl }
has_holes true true true false true true = record { small = omega arith; level0 = refl; level1 = refl; level2 = refl; level3 = refl; level4 = refl; level5 = refl }
has_holes true true true false true false = record { small = omega arith; level0 = refl; level1 = refl; level2 = refl; level3 = refl; level4 = refl; level5 = refl }
has_holes true true true false false true = record { small = omega arith; level0 = refl; level1 = refl; level2 = refl; level3 = refl; level4 = refl; level5 = refl }
has_holes true true true false false false = record { small = omega arith; level0 = refl; level1 = refl; level2 = refl; level3 = refl; level4 = refl; level5 = refl }
has_holes true true false true true true = record { small = omega arith; level0 = refl; level1 = refl; level2 = refl; level3 = refl; level4 = refl; level5 = refl }
has_holes true true false true true false = record { small = omega arith; level0 = refl; level1 = refl; level2 = refl; level3 = refl; level4 = refl; level5 = refl }
has_holes true true false true false true = record { small = omega arith; level0 = refl; level1 = refl; level2 = refl; level3 = refl; level4 = refl; level5 = refl }
has_holes true true false true false false = record { small = omega arith; level0 = refl; level1 = refl; level2 = refl; level3 = refl; level4 = refl; level5 = refl }
has_holes true true false false true true = record { small = omega arith; level0 = refl; level1 = refl; level2 = refl; level3 = refl; level4 = refl; level5 = refl }
has_holes true true false false true false = record { small = omega arith; level0 = refl; level1 = refl; level2 = refl; level3 = refl; level4 = refl; level5 = refl }
has_holes true true false false false true = record { small = omega arith; level0 = refl; level1 = refl; level2 = refl; level3 = refl; level4 = refl; level5 = refl }
has_holes true true false false false false = record { small = omega arith; level0 = refl; level1 = refl; level2 = refl; level3 = refl; level4 = refl; level5 = refl }
has_holes true false true true true true = record { small = omega arith; level0 = refl; level1 = refl; level2 = refl; level3 = refl; level4 = refl; level5 = refl }
has_holes true false true true true false = record { small = omega arith; level0 = refl; level1 = refl; level2 = refl; level3 = refl; level4 = refl; level5 = refl }
has_holes true false true true false true = record { small = omega arith; level0 = refl; level1 = refl; level2 = refl; level3 = refl; level4 = refl; level5 = refl }
has_holes true false true true false false = record { small = omega arith; level0 = refl; level1 = refl; level2 = refl; level3 = refl; level4 = refl; level5 = refl }
has_holes true false true false true true = record { small = omega arith; level0 = refl; level1 = refl; level2 = refl; level3 = refl; level4 = refl; level5 = refl }
has_holes true false true false true false = record { small = omega arith; level0 = refl; level1 = refl; level2 = refl; level3 = refl; level4 = refl; level5 = refl }
has_holes true false true false false true = record { small = omega arith; level0 = refl; level1 = refl; level2 = refl; level3 = refl; level4 = refl; level5 = refl }
has_holes true false true false false false = record { small = omega arith; level0 = refl; level1 = refl; level2 = refl; level3 = refl; level4 = refl; level5 = refl }
has_holes true false false true true true = record { small = omega arith; level0 = refl; level1 = refl; level2 = refl; level3 = refl; level4 = refl; level5 = refl }
has_holes true false false true true false = record { small = omega arith; level0 = refl; level1 = refl; level2 = refl; level3 = refl; level4 = refl; level5 = refl }
has_holes true false false true false true = record { small = omega arith; level0 = refl; level1 = refl; level2 = refl; level3 = refl; level4 = refl; level5 = refl }
has_holes true false false true false false = record { small = omega arith; level0 = refl; level1 = refl; level2 = refl; level3 = refl; level4 = refl; level5 = refl }
has_holes true false false false true true = record { small = omega arith; level0 = refl; level1 = refl; level2 = refl; level3 = refl; level4 = refl; level5 = refl }
has_holes true false false false true false = record { small = omega arith; level0 = refl; level1 = refl; level2 = refl; level3 = refl; level4 = refl; level5 = refl }
has_holes true false false false false true = record { small = omega arith; level0 = refl; level1 = refl; level2 = refl; level3 = refl; level4 = refl; level5 = refl }
has_holes true false false false false false = record { small = omega arith; level0 = refl; level1 = refl; level2 = refl; level3 = refl; level4 = refl; level5 = refl }
has_holes false true true true true true = record { small = omega arith; level0 = refl; level1 = refl; level2 = refl; level3 = refl; level4 = refl; level5 = refl }
has_holes false true true true true false = record { small = omega arith; level0 = refl; level1 = refl; level2 = refl; level3 = refl; level4 = refl; level5 = refl }
has_holes false true true true false true = record { small = omega arith; level0 = refl; level1 = refl; level2 = refl; level3 = refl; level4 = refl; level5 = refl }
has_holes false true true true false false = record { small = omega arith; level0 = refl; level1 = refl; level2 = refl; level3 = refl; level4 = refl; level5 = refl }
has_holes false true true false true true = record { small = omega arith; level0 = refl; level1 = refl; level2 = refl; level3 = refl; level4 = refl; level5 = refl }
has_holes false true true false true false = record { small = omega arith; level0 = refl; level1 = refl; level2 = refl; level3 = refl; level4 = refl; level5 = refl }
has_holes false true true false false true = record { small = omega arith; level0 = refl; level1 = refl; level2 = refl; level3 = refl; level4 = refl; level5 = refl }
has_holes false true true false false false = record { small = omega arith; level0 = refl; level1 = refl; level2 = refl; level3 = refl; level4 = refl; level5 = refl }
has_holes false true false true true true = record { small = omega arith; level0 = refl; level1 = refl; level2 = refl; level3 = refl; level4 = refl; level5 = refl }
has_holes false true false true true false = record { small = omega arith; level0 = refl; level1 = refl; level2 = refl; level3 = refl; level4 = refl; level5 = refl }
has_holes false true false true false true = record { small = omega arith; level0 = refl; level1 = refl; level2 = refl; level3 = refl; level4 = refl; level5 = refl }
has_holes false true false true false false = record { small = omega arith; level0 = refl; level1 = refl; level2 = refl; level3 = refl; level4 = refl; level5 = refl }
has_holes false true false false true true = record { small = omega arith; level0 = refl; level1 = refl; level2 = refl; level3 = refl; level4 = refl; level5 = refl }
has_holes false true false false true false = record { small = omega arith; level0 = refl; level1 = refl; level2 = refl; level3 = refl; level4 = refl; level5 = refl }
has_holes false true false false false true = record { small = omega arith; level0 = refl; level1 = refl; level2 = refl; level3 = refl; level4 = refl; level5 = refl }
has_holes false true false false false false = record { small = omega arith; level0 = refl; level1 = refl; level2 = refl; level3 = refl; level4 = refl; level5 = refl }
has_holes false false true true true true = record { small = omega arith; level0 = refl; level1 = refl; level2 = refl; level3 = refl; level4 = refl; level5 = refl }
has_holes false false true true true false = record { small = omega arith; level0 = refl; level1 = refl; level2 = refl; level3 = refl; level4 = refl; level5 = refl }
has_holes false false true true false true = record { small = omega arith; level0 = refl; level1 = refl; level2 = refl; level3 = refl; level4 = refl; level5 = refl }
has_holes false false true true false false = record { small = omega arith; level0 = refl; level1 = refl; level2 = refl; level3 = refl; level4 = refl; level5 = refl }
has_holes false false true false true true = record { small = omega arith; level0 = refl; level1 = refl; level2 = refl; level3 = refl; level4 = refl; level5 = refl }
has_holes false false true false true false = record { small = omega arith; level0 = refl; level1 = refl; level2 = refl; level3 = refl; level4 = refl; level5 = refl }
has_holes false false true false false true = record { small = omega arith; level0 = refl; level1 = refl; level2 = refl; level3 = refl; level4 = refl; level5 = refl }
has_holes false false true false false false = record { small = omega arith; level0 = refl; level1 = refl; level2 = refl; level3 = refl; level4 = refl; level5 = refl }
has_holes false false false true true true = record { small = omega arith; level0 = refl; level1 = refl; level2 = refl; level3 = refl; level4 = refl; level5 = refl }
has_holes false false false true true false = record { small = omega arith; level0 = refl; level1 = refl; level2 = refl; level3 = refl; level4 = refl; level5 = refl }
has_holes false false false true false true = record { small = omega arith; level0 = refl; level1 = refl; level2 = refl; level3 = refl; level4 = refl; level5 = refl }
has_holes false false false true false false = record { small = omega arith; level0 = refl; level1 = refl; level2 = refl; level3 = refl; level4 = refl; level5 = refl }
has_holes false false false false true true = record { small = omega arith; level0 = refl; level1 = refl; level2 = refl; level3 = refl; level4 = refl; level5 = refl }
has_holes false false false false true false = record { small = omega arith; level0 = refl; level1 = refl; level2 = refl; level3 = refl; level4 = refl; level5 = refl }
has_holes false false false false false true = record { small = omega arith; level0 = refl; level1 = refl; level2 = refl; level3 = refl; level4 = refl; level5 = refl }
has_holes false false false false false false = record { small = omega arith; level0 = refl; level1 = refl; level2 = refl; level3 = refl; level4 = refl; level5 = refl }

pub reads : (levels : Levels) (byte : ℕ) → Reads levels byte (frame_of levels byte)
unfolding frame_of
reads levels byte =
    let way = levels.inverted in
    let h = has_holes (is_hole way levels.level0 byte) (is_hole way levels.level1 byte) (is_hole way levels.level2 byte)
    (is_hole way levels.level3 byte) (is_hole way levels.level4 byte) (is_hole way levels.level5 byte) in
    record { small = h.small; level0 = h.level0; level1 = h.level1; level2 = h.level2; level3 = h.level3; level4 = h.level4; level5 = h.level5 }
