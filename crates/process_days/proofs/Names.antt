-- The names of files: each stands for one number and one kind.
use Rattle.std.proofs.Common.{◌≡◌, ◌<◌, ◌^◌, ◌++◌, ℕ, List, [], ◌∷◌, arith, decimal}
use Rattle.std.specs.Str.Parse.{AllDigits}
use Rattle.std.proofs.lemmas.Str.Parse.{digit_from_value}
use Rattle.std.proofs.lemmas.Fmt.{decimal_is_IsNumeral, decimal_injective}
use Rattle.station.specs.Readiness.{IsNumber}
use Rattle.run_command.specs.ReleaseFiles.{file_name}

-- digits that end at a dot end there in one way
split :
    (xs ys a b : List ℕ) → AllDigits 10 xs → AllDigits 10 ys → xs ++ (46 ∷ a) ≡ ys ++ (46 ∷ b) → (xs ≡ ys) × (a ≡ b)
split [] [] a b p q e = (cc, cc)
split [] (y ∷ ys) a b p q e = let same : 46 ≡ y = cc in absurd (omega (arith, digit_from_value y q.0, same))
split (x ∷ xs) [] a b p q e = let same : x ≡ 46 = cc in absurd (omega (arith, digit_from_value x p.0, same))
split (x ∷ xs) (y ∷ ys) a b p q e =
    let first : x ≡ y = cc in
    let rest : xs ++ (46 ∷ a) ≡ ys ++ (46 ∷ b) = cc in
    let more = split xs ys a b p.1 q.1 rest in (cc, more.1)

pub one_name :
    (m n : ℕ) (a b : List ℕ) → IsNumber m → IsNumber n → file_name m (46 ∷ a) ≡ file_name n (46 ∷ b) → (m ≡ n) × (a ≡ b)
one_name m n a b p q e =
    let small : m < 2 ^ 64 = omega (arith, p.1) in
    let low : n < 2 ^ 64 = omega (arith, q.1) in
    let both = split (decimal m) (decimal n) a b (decimal_is_IsNumeral m small).0.1 (decimal_is_IsNumeral n low).0.1 e in
    (decimal_injective m n small low both.0, both.1)
