-- Numbers that were told one after another.
use Rattle.std.proofs.Common.{◌≡◌, ℕ, zero, suc, ◌+◌, List, Option, refl, subst, arith}
use Rattle.std.specs.List.{range_with_len}
use Rattle.protocol.specs.Limits.{last_number}
use Rattle.plant_log.specs.Telling.{TellsEach, TellsIf}
use Rattle.catch_up_log.specs.Missed.{all_numbers}

module _ (P : ℕ → Type 0) (text : ℕ → List ℕ) where
  -- one more was told behind the others
  pub number_more :
      (start count number : ℕ) (a b c : Option (List ℕ)) → start + count ≡ number → TellsEach P text (range_with_len start count) a b
      → TellsIf (P number) (text number) b c → TellsEach P text (range_with_len start (suc count)) a c
  number_more start zero number a b c is p q =
      let same : number ≡ start = omega (arith, is) in
      (c, subst (λ n. TellsIf (P n) (text n) a c) same (subst (λ z. TellsIf (P number) (text number) z c) p q), refl)
  number_more start (suc count) number a b c is p q = (p.0, p.1, number_more (start + 1) count number p.0 b c (omega (arith, is)) p.2 q)

  -- all were told
  pub all_told : (count : ℕ) (a b : Option (List ℕ)) → count ≡ last_number → TellsEach P text (range_with_len 1 count) a b → TellsEach P text all_numbers a b
  unfolding all_numbers
  all_told count a b is p = subst (λ n. TellsEach P text (range_with_len 1 n) a b) is p
