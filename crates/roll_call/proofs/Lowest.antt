-- The lowest page that a member is asked for, as one member more is looked at.
use Rattle.std.proofs.Common.{◌≡◌, ℕ, ◌+◌, ◌<◌, ◌≤◌, true, false, List, Option, Some, None, IfSome, sym, ap, subst, ◌∙◌, inl, inr, arith, true≢false}
use Rattle.std.proofs.lemmas.Bool.{cases_eq, ltb-true, ltb-false}
use Rattle.gone_out.specs.declared.origin.Origin.{Origin}
use Rattle.roll_call.specs.Tellers.{TellerValue}
use Rattle.roll_call.specs.Asks.{page_due_at, is_lower, IsLowestDue}

-- a member has a page that is not lower
pub no_lower :
    (own : Origin) (now : ℕ) (ts : List TellerValue) (place page : ℕ) (lowest : Option (ℕ × ℕ)) → page_due_at own now ts place ≡ Some page
    → is_lower page lowest ≡ false → IsLowestDue own now ts place lowest → IsLowestDue own now ts (place + 1) lowest
no_lower own now ts place page None some not_so before = absurd (true≢false not_so)
no_lower own now ts place page (Some (j, low)) some not_so before =
    let high : low ≤ page = ltb-false page low not_so in (
      omega (arith, before.0),
      before.1,
      λ k l. elim (cases_eq k place) [
        | inl here ↦ subst (λ (o : Option ℕ). IfSome o (λ other. low ≤ other)) (sym (ap (page_due_at own now ts) here ∙ some)) high
        | inr other ↦ before.2 k (omega (arith, l, other))
      ],
    )

at_least : (low page : ℕ) (o : Option ℕ) → page < low → IfSome o (λ other. low ≤ other) → IfSome o (λ other. page ≤ other)
at_least low page None less all = tt
at_least low page (Some other) less all = omega (arith, less, all)

none_least : (page : ℕ) (o : Option ℕ) → o ≡ None → IfSome o (λ other. page ≤ other)
none_least page o none = subst (λ (o : Option ℕ). IfSome o (λ other. page ≤ other)) (sym none) tt

-- a member has a lower page
pub lower_here :
    (own : Origin) (now : ℕ) (ts : List TellerValue) (place page : ℕ) (lowest : Option (ℕ × ℕ)) → page_due_at own now ts place ≡ Some page
    → is_lower page lowest ≡ true → IsLowestDue own now ts place lowest → IsLowestDue own now ts (place + 1) (Some (place, page))
lower_here own now ts place page lowest some so before = (
  omega arith,
  some,
  λ k l. elim (cases_eq k place) [
    | inl here ↦ subst (λ (o : Option ℕ). IfSome o (λ other. page ≤ other)) (sym (ap (page_due_at own now ts) here ∙ some)) (omega arith)
    | inr other ↦ go lowest so before k (omega (arith, l, other))
  ],
)
  where
    go : (lowest : Option (ℕ × ℕ)) → is_lower page lowest ≡ true → IsLowestDue own now ts place lowest → (k : ℕ) → k < place → IfSome (page_due_at own now ts k) (λ other. page ≤ other)
    go None so before k l = none_least page (page_due_at own now ts k) (before k l)
    go (Some (j, low)) so before k l = at_least low page (page_due_at own now ts k) (ltb-true page low so) (before.2 k l)
