-- Which bit of a byte a reader has each level of a frame in, and what frame it reads so.
use Rattle.std.specs.Prelude.{◌≡◌, ℕ, ◌+◌, ◌/◌, ◌%◌, ◌<◌, List, [], ◌∷◌, length, filter, Bool, not, Option, Some, None, ◌==◌, if◌then◌else◌}
use Rattle.reel.specs.declared.bits.Bit.{Bit}
use Rattle.reel.specs.declared.bits.Bit.TheVariants as bits
use Rattle.reel.specs.declared.levels.Levels.{Levels}

-- what a bit counts for in a byte
abbrev pub weight_of : Bit → ℕ
weight_of bits.B0 = 1
weight_of bits.B1 = 2
weight_of bits.B2 = 4
weight_of bits.B3 = 8
weight_of bits.B4 = 16
weight_of bits.B5 = 32
weight_of bits.B6 = 64
weight_of bits.B7 = 128

-- a bit is set in a byte
abbrev pub is_set : Bit → ℕ → Bool
is_set bit byte = byte / weight_of bit % 2 == 1

-- a reader has a hole at a bit: where it is set, or where it is clear if the reader has it the other way
abbrev pub is_hole : Bool → Bit → ℕ → Bool
is_hole inverted bit byte = if inverted then not (is_set bit byte) else is_set bit byte

-- the bits of a byte, the highest first
abbrev pub all_bits : List Bit
all_bits = bits.B7 ∷ bits.B6 ∷ bits.B5 ∷ bits.B4 ∷ bits.B3 ∷ bits.B2 ∷ bits.B1 ∷ bits.B0 ∷ []

-- the bits that hold levels by a mask, the highest first
abbrev pub mask_bits : ℕ → List Bit
mask_bits mask = filter (λ bit. is_set bit mask) all_bits

-- the bit that holds a level: word and bits are read side by side, and each digit names the level that its bit holds
abbrev pub bit_named : ℕ → List ℕ → List Bit → Option Bit
bit_named level [] bits = None
bit_named level (digit ∷ word) [] = None
bit_named level (digit ∷ word) (bit ∷ bits) = if digit == 48 + level then Some bit else bit_named level word bits

-- a mask has six bits, a word six digits, and these are the bits of the levels that the word names from the highest bit of the mask on
pub record AreNamed (word : List ℕ) (mask : ℕ) (inverted : Bool) (levels : Levels) : Type 0 where
  pub six_bits : length (mask_bits mask) ≡ 6
  pub six_digits : length word ≡ 6
  pub level0 : bit_named 0 word (mask_bits mask) ≡ Some levels.level0
  pub level1 : bit_named 1 word (mask_bits mask) ≡ Some levels.level1
  pub level2 : bit_named 2 word (mask_bits mask) ≡ Some levels.level2
  pub level3 : bit_named 3 word (mask_bits mask) ≡ Some levels.level3
  pub level4 : bit_named 4 word (mask_bits mask) ≡ Some levels.level4
  pub level5 : bit_named 5 word (mask_bits mask) ≡ Some levels.level5
  pub way : levels.inverted ≡ inverted

-- a level is punched in a frame, by its weight
abbrev pub is_punched : ℕ → ℕ → Bool
is_punched weight frame = frame / weight % 2 == 1

-- a frame is what the levels read of a byte: each level is punched just where the reader has a hole at its bit
pub record Reads (levels : Levels) (byte frame : ℕ) : Type 0 where
  pub small : frame < 64
  pub level0 : is_punched 1 frame ≡ is_hole levels.inverted levels.level0 byte
  pub level1 : is_punched 2 frame ≡ is_hole levels.inverted levels.level1 byte
  pub level2 : is_punched 4 frame ≡ is_hole levels.inverted levels.level2 byte
  pub level3 : is_punched 8 frame ≡ is_hole levels.inverted levels.level3 byte
  pub level4 : is_punched 16 frame ≡ is_hole levels.inverted levels.level4 byte
  pub level5 : is_punched 32 frame ≡ is_hole levels.inverted levels.level5 byte

-- what a hole counts for in a frame
abbrev pub weight_if : Bool → ℕ → ℕ
weight_if hole weight = if hole then weight else 0

-- the frame that the levels read of a byte
unfoldable pub frame_of : Levels → ℕ → ℕ
frame_of levels byte =
    weight_if (is_hole levels.inverted levels.level0 byte) 1
    + weight_if (is_hole levels.inverted levels.level1 byte) 2
    + weight_if (is_hole levels.inverted levels.level2 byte) 4
    + weight_if (is_hole levels.inverted levels.level3 byte) 8
    + weight_if (is_hole levels.inverted levels.level4 byte) 16
    + weight_if (is_hole levels.inverted levels.level5 byte) 32
