-- The frames of entries, and the bytes that they are packed in.
use Rattle.std.proofs.Common.{◌≡◌, ℕ, zero, suc, ◌≤◌, List, [], ◌∷◌, length, take, refl, arith}
use Rattle.tape_frames.specs.Frames.{most_frames, AreFrames}
use Rattle.tape_frames.specs.Packing.{AreBytes, packed_len, packing_of}
use Rattle.tape_frames.specs.Entries.{entry_frames, IsEntry}
use Rattle.protocol.specs.Entries.{Entry, Void, Taped}
use Rattle.packets.specs.Grammar.{IsBytes}

pub few_frames : (x : Entry) → IsEntry x → length (entry_frames x) ≤ most_frames
few_frames Void is = omega arith
few_frames (Taped tape) is = is.few

pub are_frames : (x : Entry) → IsEntry x → AreFrames (entry_frames x)
are_frames Void is = tt
are_frames (Taped tape) is = is.small

-- how many bytes frames are packed in
pub packing_length : (frames : List ℕ) → length (packing_of frames) ≡ packed_len (length frames)
packing_length [] = refl
packing_length (a ∷ []) = refl
packing_length (a ∷ b ∷ []) = refl
packing_length (a ∷ b ∷ c ∷ []) = refl
packing_length (a ∷ b ∷ c ∷ d ∷ frames) = let e = packing_length frames in omega (arith, e)

-- what holds a byte at each place is bytes
pub are_bytes : (bytes : List ℕ) → IsBytes bytes → AreBytes bytes
are_bytes [] h = tt
are_bytes (x ∷ bytes) h = (h 0, are_bytes bytes (λ i. h (suc i)))

pub bytes_taken : (n : ℕ) (bytes : List ℕ) → AreBytes bytes → AreBytes (take n bytes)
bytes_taken zero bytes h = tt
bytes_taken (suc n) [] h = tt
bytes_taken (suc n) (x ∷ bytes) h = (h.0, bytes_taken n bytes h.1)
