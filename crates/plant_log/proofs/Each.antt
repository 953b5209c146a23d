-- Lines that were told one after another.
use Rattle.std.proofs.Common.{◌≡◌, ℕ, ◌+◌, ◌<◌, List, [], ◌∷◌, ◌++◌, length, take, get_or, Option, refl, sym, subst}
use Rattle.std.proofs.lemmas.List.{take_more}
use Rattle.plant_log.specs.Telling.{TellsEach, TellsIf, WasTold}

-- one more was told behind the others
pub each_behind : {A : Type 0} (P : A → Type 0) (text : A → List ℕ) (xs : List A) (x : A) (a b c : Option (List ℕ))
    → TellsEach P text xs a b → TellsIf (P x) (text x) b c → TellsEach P text (xs ++ (x ∷ [])) a c
each_behind P text [] x a b c p q = (c, subst (λ z. TellsIf (P x) (text x) z c) p q, refl)
each_behind P text (y ∷ ys) x a b c p q = (p.0, p.1, each_behind P text ys x p.0 b c p.2 q)

-- the next of a list was told behind those before it
pub each_more : {A : Type 0} (P : A → Type 0) (text : A → List ℕ) (xs : List A) (i : ℕ) (d x : A) (a b c : Option (List ℕ)) → i < length xs → x ≡ get_or xs i d
    → TellsEach P text (take i xs) a b → TellsIf (P x) (text x) b c → TellsEach P text (take (i + 1) xs) a c
each_more P text xs i d x a b c lt is p q =
    let more = subst (λ y. TellsIf (P y) (text y) b c) is q in
    subst (λ ys. TellsEach P text ys a c) (sym (take_more xs i d lt)) (each_behind P text (take i xs) (get_or xs i d) a b c p more)

-- a line that is told whatever holds
pub told_so : {P : Type 0} (text : List ℕ) (a b : Option (List ℕ)) → P → WasTold text a b → TellsIf P text a b
told_so text a b p w = ((λ _. w), (λ no. absurd (no p)))
