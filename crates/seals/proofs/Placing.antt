-- A part in its place, and bytes by their parts.
use Rattle.std.proofs.Common.{◌≡◌, ◌≢◌, ℕ, ◌+◌, ◌-◌, ◌*◌, ◌/◌, ◌%◌, ◌<◌, ◌≤◌, inl, inr, List, [], ◌++◌, length, take, drop, get_or, sym, ap, ◌∙◌, arith}
use Rattle.std.proofs.lemmas.List.{length-take-le, length-drop, length-append, take_at, take_all, take-append-le, take-take, drop_at, drop_all, drop-append-le, drop-drop, drop-take, append-nil, append_assoc, get_or-take, get_or-drop, ext_get_or}
use Rattle.std.proofs.Math.Seq.{drop-append-add}
use Rattle.std.proofs.lemmas.Bool.{cases_lt, cases_order}
use Rattle.seals.specs.Sealing.{count_of, part_of, part_len}
use Rattle.seals.specs.Parts.{placed}

-- the bytes stay as many
pub length-placed : (bytes : List ℕ) (index : ℕ) (part : List ℕ) → 1192 * index + length part ≤ length bytes → length (placed bytes index part) ≡ length bytes
length-placed bytes index part fits =
    let at = 1192 * index in
    let front = length-take-le at bytes (omega arith) in
    let back = length-drop (at + length part) bytes in
    let rest = length-append part (drop (at + length part) bytes) in
    length-append (take at bytes) (part ++ drop (at + length part) bytes) ∙ omega arith

-- it stands in its place
pub part_of-placed_same : (bytes : List ℕ) (index : ℕ) (part : List ℕ) → index < count_of (length bytes) → length part ≡ part_len (length bytes) index → part_of (placed bytes index part) index ≡ part
part_of-placed_same bytes index part low long =
    let at = 1192 * index in
    let rest = drop (at + length part) bytes in
    let front : length (take at bytes) ≡ at = length-take-le at bytes (omega arith) in
    let cut : drop at (placed bytes index part) ≡ part ++ rest = drop_at (take at bytes) (part ++ rest) at front in
    let fills : take 1192 (part ++ rest) ≡ part = elim (cases_lt (length part) 1192) as (λ _. take 1192 (part ++ rest) ≡ part) [
      | inl short ↦
          let none : rest ≡ [] = drop_all (at + length part) bytes (omega arith) in
          ap (λ (l : List ℕ). take 1192 (part ++ l)) none ∙ ap (λ (l : List ℕ). take 1192 l) (append-nil part) ∙ take_all 1192 part (omega arith)
      | inr full ↦ take_at part rest 1192 (omega arith)
    ] in
    ap (λ (l : List ℕ). take 1192 l) cut ∙ fills

-- a part before it stands as it stood
part_before : (bytes more : List ℕ) (at k : ℕ) → at ≤ length bytes → 1192 * k + 1192 ≤ at → part_of (take at bytes ++ more) k ≡ part_of bytes k
part_before bytes more at k inside before =
    let n = 1192 * k in
    let front = take at bytes in
    let long : length front ≡ at = length-take-le at bytes inside in
    let rest = length-drop n front in
    ap (λ (l : List ℕ). take 1192 l) (drop-append-le n front more (omega arith))
    ∙ take-append-le 1192 (drop n front) more (omega arith)
    ∙ sym (drop-take n 1192 front)
    ∙ ap (λ (l : List ℕ). drop n l) (take-take (n + 1192) at bytes before)
    ∙ drop-take n 1192 bytes

-- and a part behind it
part_behind : (bytes part : List ℕ) (at k : ℕ) → at + length part ≤ length bytes → at + length part ≤ 1192 * k → part_of (take at bytes ++ (part ++ drop (at + length part) bytes)) k ≡ part_of bytes k
part_behind bytes part at k inside behind =
    let front = take at bytes ++ part in
    let back = drop (at + length part) bytes in
    let d = 1192 * k - (at + length part) in
    let cut : length (take at bytes) ≡ at = length-take-le at bytes (omega arith) in
    let long : length front ≡ at + length part = length-append (take at bytes) part ∙ omega arith in
    let here : 1192 * k ≡ length front + d = omega arith in
    let there : at + length part + d ≡ 1192 * k = omega arith in
    ap (λ (l : List ℕ). part_of l k) (sym (append_assoc (take at bytes) part back))
    ∙ ap (λ (n : ℕ). take 1192 (drop n (front ++ back))) here
    ∙ ap (λ (l : List ℕ). take 1192 l) (drop-append-add front back d ∙ drop-drop d (at + length part) bytes)
    ∙ ap (λ (n : ℕ). take 1192 (drop n bytes)) there

-- so the others stand as they stood
pub part_of-placed_other : (bytes : List ℕ) (index : ℕ) (part : List ℕ) (k : ℕ) → index < count_of (length bytes) → length part ≡ part_len (length bytes) index → k < count_of (length bytes) → k ≢ index
    → part_of (placed bytes index part) k ≡ part_of bytes k
part_of-placed_other bytes index part k low long k_low other = elim (cases_order k index) as (λ _. part_of (placed bytes index part) k ≡ part_of bytes k) [
  | inl same ↦ absurd (other same)
  | inr (inl before) ↦ part_before bytes (part ++ drop (1192 * index + length part) bytes) (1192 * index) k (omega arith) (omega arith)
  | inr (inr behind) ↦ part_behind bytes part (1192 * index) k (omega arith) (omega arith)
]

-- bytes of one length are the same where each part is
pub same_from_parts : (xs ys : List ℕ) → length xs ≡ length ys → ((k : ℕ) → k < count_of (length ys) → part_of xs k ≡ part_of ys k) → xs ≡ ys
same_from_parts xs ys long each = ext_get_or 0 xs ys long (λ i lt.
    let k = i / 1192 in
    let r = i % 1192 in
    let place : 1192 * k + r ≡ i = omega arith in
    let small : r < 1192 = omega arith in
    let low : k < count_of (length ys) = omega arith in
    let left = get_or-take 1192 (drop (1192 * k) xs) r 0 small ∙ get_or-drop (1192 * k) xs r 0 ∙ ap (λ (n : ℕ). get_or xs n 0) place in
    let right = get_or-take 1192 (drop (1192 * k) ys) r 0 small ∙ get_or-drop (1192 * k) ys r 0 ∙ ap (λ (n : ℕ). get_or ys n 0) place in
    sym left ∙ ap (λ (l : List ℕ). get_or l r 0) (each k low) ∙ right)
