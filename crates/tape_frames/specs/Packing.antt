-- Frames packed: the six bits of each, the highest first, one frame after the other, and zero bits as far as the end of the last byte.
use Rattle.std.specs.Prelude.{◌≡◌, ℕ, ◌+◌, ◌*◌, ◌/◌, ◌%◌, ◌^◌, ◌<◌, ◌≤◌, ◌-◌, List, [], ◌∷◌, length, take, slice_index}
use Rattle.std.specs.List.{AllByRecursion}
use Rattle.tape_frames.specs.Frames.{most_frames, AreFrames, IsTape}

-- each is a byte
abbrev pub AreBytes : List ℕ → Type 0
AreBytes = AllByRecursion (λ b. b < 256)

-- the bytes are the frames, packed: four frames and three bytes are one number of 24 bits,
-- and the one, two or three frames at the end one number with their bytes, whose lowest bits are zero
pub data Packs : List ℕ → List ℕ → Type 0 where
  none : Packs [] []
  one : (a x : ℕ) → x ≡ 4 * a → Packs (a ∷ []) (x ∷ [])
  two : (a b x y : ℕ) → 256 * x + y ≡ 1024 * a + 16 * b → Packs (a ∷ b ∷ []) (x ∷ y ∷ [])
  three : (a b c x y z : ℕ) → 65536 * x + 256 * y + z ≡ 262144 * a + 4096 * b + 64 * c → Packs (a ∷ b ∷ c ∷ []) (x ∷ y ∷ z ∷ [])
  four :
      (a b c d x y z : ℕ) (frames bytes : List ℕ) → 65536 * x + 256 * y + z ≡ 262144 * a + 4096 * b + 64 * c + d → Packs frames bytes
      → Packs (a ∷ b ∷ c ∷ d ∷ frames) (x ∷ y ∷ z ∷ bytes)

-- how many bytes so many frames are packed in
abbrev pub packed_len : ℕ → ℕ
packed_len frames = (3 * frames + 3) / 4

-- each whole frame that stands in bytes
abbrev pub frames_in : List ℕ → List ℕ
frames_in [] = []
frames_in (x ∷ []) = (x / 4) ∷ []
frames_in (x ∷ y ∷ []) = (x / 4) ∷ (x % 4 * 16 + y / 16) ∷ []
frames_in (x ∷ y ∷ z ∷ bytes) = (x / 4) ∷ (x % 4 * 16 + y / 16) ∷ (y % 16 * 4 + z / 64) ∷ (z % 64) ∷ frames_in bytes

-- the first so many frames that stand in bytes
abbrev pub unpacked : ℕ → List ℕ → List ℕ
unpacked frames bytes = take frames (frames_in bytes)

-- the packing of frames, each four of them in three bytes
abbrev pub packing_of : List ℕ → List ℕ
packing_of [] = []
packing_of (a ∷ []) = (a * 4) ∷ []
packing_of (a ∷ b ∷ []) = (a * 4 + b / 16) ∷ (b % 16 * 16) ∷ []
packing_of (a ∷ b ∷ c ∷ []) = (a * 4 + b / 16) ∷ (b % 16 * 16 + c / 4) ∷ (c % 4 * 64) ∷ []
packing_of (a ∷ b ∷ c ∷ d ∷ frames) = (a * 4 + b / 16) ∷ (b % 16 * 16 + c / 4) ∷ (c % 4 * 64 + d) ∷ packing_of frames

-- the bits of the last byte behind the last frame, two for each frame after the last whole group of four
abbrev pub pad_of : ℕ → List ℕ → ℕ
pad_of frames bytes = slice_index bytes (length bytes - 1) % 4 ^ (frames % 4)

-- as many frames as a tape may have, in their number of bytes
pub record IsWhole (frames : ℕ) (bytes : List ℕ) : Type 0 where
  pub some : 1 ≤ frames
  pub few : frames ≤ most_frames
  pub whole : length bytes ≡ packed_len frames

-- bytes are a packed tape of so many frames: as many as a tape may have, in their number of bytes, and zero bits behind the last
pub record IsPacked (frames : ℕ) (bytes : List ℕ) : Type 0 where
  pub small : AreBytes bytes
  pub some : 1 ≤ frames
  pub few : frames ≤ most_frames
  pub whole : length bytes ≡ packed_len frames
  pub pad : pad_of frames bytes ≡ 0

-- frames have one packing
abbrev pub OnePacking : Type 0
OnePacking = (frames bytes other : List ℕ) → AreBytes bytes → AreBytes other → Packs frames bytes → Packs frames other → bytes ≡ other

-- bytes are the packing of one list of frames of a length
abbrev pub OneUnpacking : Type 0
OneUnpacking =
    (frames other bytes : List ℕ) → AreFrames frames → AreFrames other → length frames ≡ length other
    → Packs frames bytes → Packs other bytes → frames ≡ other

-- so many frames take so many bytes
abbrev pub PackedLength : Type 0
PackedLength = (frames bytes : List ℕ) → Packs frames bytes → length bytes ≡ packed_len (length frames)

-- every list of frames has a packing
abbrev pub HasPacking : Type 0
HasPacking = (frames : List ℕ) → AreFrames frames → (bytes : List ℕ) × Packs frames bytes × AreBytes bytes

-- and that is its packing
abbrev pub PackingIsGiven : Type 0
PackingIsGiven = (frames : List ℕ) → AreFrames frames → Packs frames (packing_of frames) × AreBytes (packing_of frames)

-- what is taken out of a packing is what was packed
abbrev pub UnpackingUndoes : Type 0
UnpackingUndoes = (frames bytes : List ℕ) → AreFrames frames → AreBytes bytes → Packs frames bytes → unpacked (length frames) bytes ≡ frames

-- the packing of a tape is a packed tape
abbrev pub TapesArePacked : Type 0
TapesArePacked = (tape bytes : List ℕ) → IsTape tape → AreBytes bytes → Packs tape bytes → IsPacked (length tape) bytes

-- a packed tape is the packing of a tape, of the frames that stand in it
abbrev pub PackedAreTapes : Type 0
PackedAreTapes =
    (frames : ℕ) (bytes : List ℕ) → IsPacked frames bytes
    → IsTape (unpacked frames bytes) × (length (unpacked frames bytes) ≡ frames) × Packs (unpacked frames bytes) bytes

-- packed tapes in which the same frames stand are as many frames in the same bytes
abbrev pub OnePacked : Type 0
OnePacked =
    (frames others : ℕ) (bytes other : List ℕ) → IsPacked frames bytes → IsPacked others other → unpacked frames bytes ≡ unpacked others other
    → (frames ≡ others) × (bytes ≡ other)
