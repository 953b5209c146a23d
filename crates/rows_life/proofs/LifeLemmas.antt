-- What a file has after the writes that begin a life.
use Rattle.std.proofs.Common.{◌≡◌, ℕ, ◌+◌, ◌*◌, ◌<◌, ◌≤◌, List, length, ◌∷◌, [], sym, ap, ◌∙◌, arith}
use Rattle.std.specs.Prelude.{slice_index, take, min}
use Rattle.std.proofs.lemmas.List.{same_lists, get_or_default, get_or-take, length-take}
use Rattle.std.proofs.Math.Nat.{min_comm, min-le_right, min-eq_left}
use Rattle.sqlite_disk.specs.Disk.{Holds, Torn, Cut}
use Rattle.rows_life.specs.Lives.{IsAtRest, IsInUse}

same_bytes : (file bytes : List ℕ) → ((i : ℕ) → i < length bytes → slice_index file i ≡ slice_index bytes i) → length file ≡ length bytes → file ≡ bytes
same_bytes file bytes each same =
    same_lists file bytes same
    (λ k d below.
    let within : k < length bytes = omega (arith, same, below) in
    get_or_default file k d 0 below ∙ each k within ∙ get_or_default bytes k 0 d within)

-- a file that was cut to the length of what was written at its beginning is that
pub holds_cut : (mid new bytes : List ℕ) (n : ℕ) → length bytes ≡ n → Holds mid 0 bytes → Cut n mid new → length new ≡ n → new ≡ bytes
holds_cut mid new bytes n long h cut same =
    same_bytes new bytes
    (λ i below.
    let here : i ≡ 0 + i = omega arith in
    let kept : slice_index new i ≡ slice_index mid i = cut.below i (omega (arith, h.within, below)) (omega (arith, below, long)) in
    kept ∙ ap (slice_index mid) here ∙ h.each i below)
    (same ∙ sym long)

-- what was read of a file from its beginning, so many bytes or as many as it has
pub read_front : (file bytes : List ℕ) (n : ℕ) → length bytes ≡ min (length file) n → (0 < length bytes → Holds file 0 bytes) → bytes ≡ take n file
read_front file bytes n long holds =
    same_lists bytes (take n file)
    (long ∙ min_comm (length file) n ∙ sym (length-take n file))
    (λ k d below.
    let some : 0 < length bytes = omega (arith, below) in
    let h : Holds file 0 bytes = holds some in
    let fits : k < length file = omega (arith, below, h.within) in
    let most : min (length file) n ≤ n = min-le_right (length file) n in
    let first : k < n = omega (arith, below, long, most) in
    let here : k ≡ 0 + k = omega arith in
    let same : slice_index file k ≡ slice_index bytes k = ap (slice_index file) here ∙ h.each k below in
    get_or_default bytes k d 0 below ∙ sym same ∙ get_or_default file k 0 d fits ∙ sym (get_or-take n file k d first))

-- the same of so many bytes
pub read_whole : (file bytes : List ℕ) (n : ℕ) → length bytes ≡ n → Holds file 0 bytes → bytes ≡ take n file
read_whole file bytes n long h =
    let fits : n ≤ length file = omega (arith, long, h.within) in
    read_front file bytes n (long ∙ sym (min_comm (length file) n ∙ min-eq_left fits)) (λ _. h)

pub rests : (new : List ℕ) → Holds new 60 (0xc0 ∷ []) → IsAtRest new
rests new h = record { long = omega (arith, h.within); first = h.each 0 (omega arith) }

-- the number's three bytes stand, and then the byte before them is written
pub uses : (mid new : List ℕ) (a b c number : ℕ) → a * 0x1_0000 + b * 0x100 + c ≡ number
    → Holds mid 61 (a ∷ b ∷ c ∷ []) → Torn 60 1 mid new → Holds new 60 (0xc1 ∷ []) → IsInUse number new
uses mid new a b c number sum low torn first =
    let long : 63 < length mid = omega (arith, low.within) in
    let one : slice_index new 61 ≡ a = torn.above 61 (omega (arith, long)) (omega arith) ∙ low.each 0 (omega arith) in
    let two : slice_index new 62 ≡ b = torn.above 62 (omega (arith, long)) (omega arith) ∙ low.each 1 (omega arith) in
    let three : slice_index new 63 ≡ c = torn.above 63 (omega (arith, long)) (omega arith) ∙ low.each 2 (omega arith) in
    record {
      long = omega (arith, long, torn.no_shorter);
      first = first.each 0 (omega arith);
      number = rw (one, two, three) sum;
    }
