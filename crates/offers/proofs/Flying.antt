-- The numbers under way, one more and one less.
use Rattle.std.proofs.Common.{◌≡◌, ◌≢◌, ℕ, ◌<◌, ◌≤◌, ◌==◌, ◌++◌, List, [], ◌∷◌, true, false, Option, Some, None, IfSome, length, get_or, cond, nat_lt, arith}
use Rattle.std.specs.List.{position, position_or_len}
use Rattle.std.proofs.lemmas.Bool.Decides.{nat_tests}
use Rattle.std.proofs.lemmas.List.Folds.{list_any_at}
use Rattle.std.proofs.lemmas.List.Edits.{length-remove}
use Rattle.std.proofs.lemmas.List.Quantifiers.{all_pairs_push, all_pairs_remove}
use Rattle.pace.specs.UnderWay.{without, without_at}
use Rattle.offers.specs.Rules.{AreApart, is_under_way}

-- one that is under way stands nowhere where none of the number is
other_there : (w : List ℕ) (n k : ℕ) → is_under_way n w ≡ false → k < length w → (d : ℕ) → get_or w k d ≢ n
other_there w n k none within d = λ e.
    let found : is_under_way n w ≡ true = list_any_at (λ m. m == n) w k d within (grind (arith, nat_tests)) in
    cc

-- one more, of another number
pub apart_more : (w : List ℕ) (n : ℕ) → AreApart w → is_under_way n w ≡ false → AreApart (w ++ n ∷ [])
apart_more w n apart none = all_pairs_push (λ m k. m ≢ k) w n apart (λ k d within. other_there w n k none within d)

within_if : (a n : ℕ) → IfSome (cond (nat_lt a n) (Some a) None) (λ i. i < n)
within_if a n = grind (arith, nat_tests)

-- the place of a number is within
pub position_within : (n : ℕ) (w : List ℕ) → IfSome (position (λ m. m == n) w) (λ i. i < length w)
position_within n w = within_if (position_or_len (λ m. m == n) w) (length w)

apart_at : (w : List ℕ) (x : Option ℕ) → IfSome x (λ i. i < length w) → AreApart w → AreApart (without_at x w)
apart_at w None within apart = apart
apart_at w (Some i) within apart = all_pairs_remove (λ m k. m ≢ k) w i within apart

fewer_at : (w : List ℕ) (x : Option ℕ) → IfSome x (λ i. i < length w) → length (without_at x w) ≤ length w
fewer_at w None within = omega arith
fewer_at w (Some i) within = let one_less = length-remove w i within in omega arith

-- one less
pub apart_fewer : (n : ℕ) (w : List ℕ) → AreApart w → AreApart (without n w)
apart_fewer n w apart = apart_at w (position (λ m. m == n) w) (position_within n w) apart

pub length_fewer : (n : ℕ) (w : List ℕ) → length (without n w) ≤ length w
length_fewer n w = fewer_at w (position (λ m. m == n) w) (position_within n w)

-- where it is left to see for which the station may be asked, it was not seen of all
pub left : true ≡ false → ⊥
left e = cc
