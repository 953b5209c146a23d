-- What went out has no case, and so is never wanted.
use Rattle.std.proofs.Common.{◌≡◌, ℕ, Bool, true, false, List, [], ◌∷◌, None, refl, sym, ap, ◌∙◌, eqb}
use Rattle.std.specs.Prelude.{◌||◌}
use Rattle.std.proofs.lemmas.Bool.{eqb-true}
use Rattle.std.proofs.lemmas.Option.{none-some}
use Rattle.gone_out.specs.Numbers.{has}
use Rattle.healing.specs.declared.case.LackedNumber.{LackedNumber}
use Rattle.healing.specs.Lists.{is_among}
use Rattle.healing.specs.Healing.{HealingValue, IsHealing, case_in, IsDueIn, AreDueIn}

not_due : (cases : List (ℕ × LackedNumber)) (now n : ℕ) → case_in cases n ≡ None → ¬ IsDueIn cases now n
not_due cases now n none due = none-some _ (sym none ∙ due.1)

same_due : (cases : List (ℕ × LackedNumber)) (now m n : ℕ) → eqb m n ≡ true → case_in cases n ≡ None → ¬ IsDueIn cases now m
same_due cases now m n same none = not_due cases now m (ap (case_in cases) (eqb-true m n same) ∙ none)

-- what has no case is not among those that are due
pub not_among : (cases : List (ℕ × LackedNumber)) (now n : ℕ) (batch : List ℕ) → case_in cases n ≡ None → AreDueIn cases now batch → is_among batch n ≡ false
not_among cases now n [] none due = refl
not_among cases now n (m ∷ ms) none due = go (eqb m n) refl (not_among cases now n ms none due.1)
  where
    go : (b : Bool) → eqb m n ≡ b → is_among ms n ≡ false → (b || is_among ms n) ≡ false
    go true same rest = absurd (same_due cases now m n same none due.0)
    go false other rest = rest

pub none_out : (h : HealingValue) (now : ℕ) (batch : List ℕ) → IsHealing h → AreDueIn h.cases now batch → (n : ℕ) → has h.gone n ≡ true → is_among batch n ≡ false
none_out h now batch healing due n out = not_among h.cases now n batch (healing.gone n out) due
