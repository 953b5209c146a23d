-- The frames that stand in bytes are those of the first three bytes, and those of the bytes behind them;
-- and frames are taken one by one.
use Rattle.std.proofs.Common.{◌≡◌, ℕ, suc, ◌+◌, ◌<◌, min, List, [], ◌∷◌, ◌++◌, length, take, Some, None, sym, ap, ◌∙◌, arith}
use Rattle.std.specs.Prelude.{get_or, slice_get}
use Rattle.std.proofs.Math.Seq.{take-suc}
use Rattle.std.proofs.lemmas.Option.{slice_get_within, get_or_from_slice_get, slice_get-get_or}
use Rattle.tape_frames.specs.Packing.{frames_in}

-- three bytes, or all that are left, before what is behind them
pub frames_first : (all group rest : List ℕ) → all ≡ group ++ rest → length group ≡ min 3 (length all) → frames_in all ≡ frames_in group ++ frames_in rest
frames_first all [] rest parts size = ap frames_in parts
frames_first all (x ∷ []) [] parts size = ap frames_in parts
frames_first all (x ∷ []) (r ∷ rest) parts size = absurd (omega (arith, size, ap length parts))
frames_first all (x ∷ y ∷ []) [] parts size = ap frames_in parts
frames_first all (x ∷ y ∷ []) (r ∷ rest) parts size = absurd (omega (arith, size, ap length parts))
frames_first all (x ∷ y ∷ z ∷ []) rest parts size = ap frames_in parts
frames_first all (x ∷ y ∷ z ∷ e ∷ group) rest parts size = absurd (omega (arith, size))

-- one frame more
pub one_more : (xs : List ℕ) (i x : ℕ) → slice_get xs i ≡ Some x → take (i + 1) xs ≡ take i xs ++ x ∷ []
one_more xs i x e =
    let next : i + 1 ≡ suc i = omega arith in
    ap (λ (k : ℕ). take k xs) next ∙ take-suc xs i 0 (slice_get_within xs i x e) ∙ ap (λ (y : ℕ). take i xs ++ y ∷ []) (get_or_from_slice_get xs i x 0 e)

-- there is a frame at each place before the end
pub has_frame : (xs : List ℕ) (i : ℕ) → i < length xs → slice_get xs i ≡ None → ⊥
has_frame xs i l e = let no : Some (get_or xs i 0) ≡ None = sym (slice_get-get_or xs i 0 l) ∙ e in cc
