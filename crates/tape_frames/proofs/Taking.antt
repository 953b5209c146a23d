-- A frame is where the code looks for it.
use Rattle.std.proofs.Common.{◌≡◌, ℕ, zero, suc, ◌+◌, ◌*◌, ◌/◌, ◌%◌, ◌<◌, ◌≤◌, List, [], ◌∷◌, length, take, drop, Some, refl, sym, ap, ◌∙◌, arith}
use Rattle.std.specs.Prelude.{slice_index_or, slice_get}
use Rattle.tape_frames.specs.Packing.{frames_in, unpacked, IsPacked}

-- the frame at a place, each four of them out of three bytes
frame_in : ℕ → List ℕ → ℕ
frame_in zero bs = slice_index_or bs 0 0 / 4
frame_in (suc zero) bs = slice_index_or bs 0 0 % 4 * 16 + slice_index_or bs 1 0 / 16
frame_in (suc (suc zero)) bs = slice_index_or bs 1 0 % 16 * 4 + slice_index_or bs 2 0 / 64
frame_in (suc (suc (suc zero))) bs = slice_index_or bs 2 0 % 64
frame_in (suc (suc (suc (suc i)))) bs = frame_in i (drop 3 bs)

got : (bytes : List ℕ) (i : ℕ) → i < length (frames_in bytes) → slice_get (frames_in bytes) i ≡ Some (frame_in i bytes)
unfolding frame_in
got [] i l = absurd (omega (arith, l))
got (x ∷ []) zero l = refl
got (x ∷ []) (suc i) l = absurd (omega (arith, l))
got (x ∷ y ∷ []) zero l = refl
got (x ∷ y ∷ []) (suc zero) l = refl
got (x ∷ y ∷ []) (suc (suc i)) l = absurd (omega (arith, l))
got (x ∷ y ∷ z ∷ bs) zero l = refl
got (x ∷ y ∷ z ∷ bs) (suc zero) l = refl
got (x ∷ y ∷ z ∷ bs) (suc (suc zero)) l = refl
got (x ∷ y ∷ z ∷ bs) (suc (suc (suc zero))) l = refl
got (x ∷ y ∷ z ∷ bs) (suc (suc (suc (suc i)))) l = got bs i (omega (arith, l))

-- how many frames stand in bytes
many : (bytes : List ℕ) → 4 * length bytes ≤ 3 * length (frames_in bytes) + 2
many [] = omega arith
many (x ∷ []) = omega arith
many (x ∷ y ∷ []) = omega arith
many (x ∷ y ∷ z ∷ bs) = let m = many bs in omega (arith, m)

kept : (n : ℕ) (xs : List ℕ) (i : ℕ) → i < n → slice_get (take n xs) i ≡ slice_get xs i
kept zero xs i l = absurd (omega (arith, l))
kept (suc n) [] i l = refl
kept (suc n) (x ∷ xs) zero l = refl
kept (suc n) (x ∷ xs) (suc i) l = kept n xs i (omega (arith, l))

past : (bs : List ℕ) (k : ℕ) → slice_index_or (drop 3 bs) k 0 ≡ slice_index_or bs (suc (suc (suc k))) 0
past [] k = refl
past (x ∷ []) k = refl
past (x ∷ y ∷ []) k = refl
past (x ∷ y ∷ z ∷ bs) k = refl

next : (bs : List ℕ) (i k : ℕ) → slice_index_or (drop 3 bs) (i / 4 * 3 + k) 0 ≡ slice_index_or bs (suc (suc (suc (suc i))) / 4 * 3 + k) 0
next bs i k = let at : suc (suc (suc (i / 4 * 3 + k))) ≡ suc (suc (suc (suc i))) / 4 * 3 + k = omega arith in past bs (i / 4 * 3 + k) ∙ ap (λ (j : ℕ). slice_index_or bs j 0) at

first : (i : ℕ) (bs : List ℕ) → i % 4 ≡ 0 → frame_in i bs ≡ slice_index_or bs (i / 4 * 3 + 0) 0 / 4
unfolding frame_in
first zero bs e = refl
first (suc zero) bs e = absurd (omega (arith, e))
first (suc (suc zero)) bs e = absurd (omega (arith, e))
first (suc (suc (suc zero))) bs e = absurd (omega (arith, e))
first (suc (suc (suc (suc i)))) bs e = first i (drop 3 bs) (omega (arith, e)) ∙ ap (λ (x : ℕ). x / 4) (next bs i 0)

second : (i : ℕ) (bs : List ℕ) → i % 4 ≡ 1 → frame_in i bs ≡ slice_index_or bs (i / 4 * 3 + 0) 0 % 4 * 16 + slice_index_or bs (i / 4 * 3 + 1) 0 / 16
unfolding frame_in
second zero bs e = absurd (omega (arith, e))
second (suc zero) bs e = refl
second (suc (suc zero)) bs e = absurd (omega (arith, e))
second (suc (suc (suc zero))) bs e = absurd (omega (arith, e))
second (suc (suc (suc (suc i)))) bs e = second i (drop 3 bs) (omega (arith, e)) ∙ (λ j. next bs i 0 j % 4 * 16 + next bs i 1 j / 16)

third : (i : ℕ) (bs : List ℕ) → i % 4 ≡ 2 → frame_in i bs ≡ slice_index_or bs (i / 4 * 3 + 1) 0 % 16 * 4 + slice_index_or bs (i / 4 * 3 + 2) 0 / 64
unfolding frame_in
third zero bs e = absurd (omega (arith, e))
third (suc zero) bs e = absurd (omega (arith, e))
third (suc (suc zero)) bs e = refl
third (suc (suc (suc zero))) bs e = absurd (omega (arith, e))
third (suc (suc (suc (suc i)))) bs e = third i (drop 3 bs) (omega (arith, e)) ∙ (λ j. next bs i 1 j % 16 * 4 + next bs i 2 j / 64)

fourth : (i : ℕ) (bs : List ℕ) → i % 4 ≡ 3 → frame_in i bs ≡ slice_index_or bs (i / 4 * 3 + 2) 0 % 64
unfolding frame_in
fourth zero bs e = absurd (omega (arith, e))
fourth (suc zero) bs e = absurd (omega (arith, e))
fourth (suc (suc zero)) bs e = absurd (omega (arith, e))
fourth (suc (suc (suc zero))) bs e = refl
fourth (suc (suc (suc (suc i)))) bs e = fourth i (drop 3 bs) (omega (arith, e)) ∙ ap (λ (x : ℕ). x % 64) (next bs i 2)

module _ (bytes : List ℕ) (n i : ℕ) (p : IsPacked n bytes) (l : i < n) where
  found : Some (frame_in i bytes) ≡ slice_get (unpacked n bytes) i
  found =
      let whole = p.whole in
      let all = many bytes in
      sym (kept n (frames_in bytes) i l ∙ got bytes i (omega (arith, l, whole, all)))

  none_more : i / 4 * 3 + 0 ≡ i / 4 * 3
  none_more = omega arith

  pub is_first : i % 4 ≡ 0 → Some (slice_index_or bytes (i / 4 * 3) 0 / 4) ≡ slice_get (unpacked n bytes) i
  is_first e = ap Some (sym (first i bytes e ∙ ap (λ (j : ℕ). slice_index_or bytes j 0 / 4) none_more)) ∙ found

  pub is_second : i % 4 ≡ 1 → Some (slice_index_or bytes (i / 4 * 3) 0 % 4 * 16 + slice_index_or bytes (i / 4 * 3 + 1) 0 / 16) ≡ slice_get (unpacked n bytes) i
  is_second e = ap Some (sym (second i bytes e ∙ ap (λ (j : ℕ). slice_index_or bytes j 0 % 4 * 16 + slice_index_or bytes (i / 4 * 3 + 1) 0 / 16) none_more)) ∙ found

  pub is_third : i % 4 ≡ 2 → Some (slice_index_or bytes (i / 4 * 3 + 1) 0 % 16 * 4 + slice_index_or bytes (i / 4 * 3 + 2) 0 / 64) ≡ slice_get (unpacked n bytes) i
  is_third e = ap Some (sym (third i bytes e)) ∙ found

  pub is_fourth : i % 4 ≡ 3 → Some (slice_index_or bytes (i / 4 * 3 + 2) 0 % 64) ≡ slice_get (unpacked n bytes) i
  is_fourth e = ap Some (sym (fourth i bytes e)) ∙ found
