-- A group of frames is packed in the bytes that the code writes, and frames are packed group by group.
use Rattle.std.proofs.Common.{◌≡◌, ℕ, ◌+◌, ◌*◌, ◌/◌, ◌%◌, min, List, [], ◌∷◌, ◌++◌, length, refl, ap, arith}
use Rattle.std.specs.Prelude.{slice_index}
use Rattle.tape_frames.specs.Frames.{AreFrames}
use Rattle.tape_frames.specs.Packing.{packing_of}

-- the bytes that the code writes of one to four frames
abbrev pub of_one : List ℕ → List ℕ
of_one xs = (slice_index xs 0 * 4) ∷ []

abbrev pub of_two : List ℕ → List ℕ
of_two xs = (slice_index xs 0 * 4 + slice_index xs 1 / 16) ∷ (slice_index xs 1 % 16 * 16) ∷ []

abbrev pub of_three : List ℕ → List ℕ
of_three xs = (slice_index xs 0 * 4 + slice_index xs 1 / 16) ∷ (slice_index xs 1 % 16 * 16 + slice_index xs 2 / 4) ∷ (slice_index xs 2 % 4 * 64) ∷ []

abbrev pub of_four : List ℕ → List ℕ
of_four xs = (slice_index xs 0 * 4 + slice_index xs 1 / 16) ∷ (slice_index xs 1 % 16 * 16 + slice_index xs 2 / 4) ∷ (slice_index xs 2 % 4 * 64 + slice_index xs 3) ∷ []

pub is_one : (xs : List ℕ) → length xs ≡ 1 → of_one xs ≡ packing_of xs
is_one [] l = absurd (omega (arith, l))
is_one (a ∷ []) l = refl
is_one (a ∷ b ∷ xs) l = absurd (omega (arith, l))

pub is_two : (xs : List ℕ) → length xs ≡ 2 → of_two xs ≡ packing_of xs
is_two [] l = absurd (omega (arith, l))
is_two (a ∷ []) l = absurd (omega (arith, l))
is_two (a ∷ b ∷ []) l = refl
is_two (a ∷ b ∷ c ∷ xs) l = absurd (omega (arith, l))

pub is_three : (xs : List ℕ) → length xs ≡ 3 → of_three xs ≡ packing_of xs
is_three [] l = absurd (omega (arith, l))
is_three (a ∷ []) l = absurd (omega (arith, l))
is_three (a ∷ b ∷ []) l = absurd (omega (arith, l))
is_three (a ∷ b ∷ c ∷ []) l = refl
is_three (a ∷ b ∷ c ∷ d ∷ xs) l = absurd (omega (arith, l))

pub is_four : (xs : List ℕ) → length xs ≡ 4 → of_four xs ≡ packing_of xs
is_four [] l = absurd (omega (arith, l))
is_four (a ∷ []) l = absurd (omega (arith, l))
is_four (a ∷ b ∷ []) l = absurd (omega (arith, l))
is_four (a ∷ b ∷ c ∷ []) l = absurd (omega (arith, l))
is_four (a ∷ b ∷ c ∷ d ∷ []) l = refl
is_four (a ∷ b ∷ c ∷ d ∷ e ∷ xs) l = absurd (omega (arith, l))

-- four frames, or all that are left, before what is behind them
pub packing_first : (all group rest : List ℕ) → all ≡ group ++ rest → length group ≡ min 4 (length all) → packing_of all ≡ packing_of group ++ packing_of rest
packing_first all [] rest parts size = ap packing_of parts
packing_first all (a ∷ []) [] parts size = ap packing_of parts
packing_first all (a ∷ []) (r ∷ rest) parts size = absurd (omega (arith, size, ap length parts))
packing_first all (a ∷ b ∷ []) [] parts size = ap packing_of parts
packing_first all (a ∷ b ∷ []) (r ∷ rest) parts size = absurd (omega (arith, size, ap length parts))
packing_first all (a ∷ b ∷ c ∷ []) [] parts size = ap packing_of parts
packing_first all (a ∷ b ∷ c ∷ []) (r ∷ rest) parts size = absurd (omega (arith, size, ap length parts))
packing_first all (a ∷ b ∷ c ∷ d ∷ []) rest parts size = ap packing_of parts
packing_first all (a ∷ b ∷ c ∷ d ∷ e ∷ group) rest parts size = absurd (omega (arith, size))

-- frames before and frames behind
pub frames_parts : (xs ys : List ℕ) → AreFrames (xs ++ ys) → AreFrames xs × AreFrames ys
frames_parts [] ys h = (tt, h)
frames_parts (x ∷ xs) ys h = let more = frames_parts xs ys h.1 in ((h.0, more.0), more.1)
