-- The order of ballots, as facts.
use Rattle.std.proofs.Common.{◌≡◌, ℕ, ◌⊎◌, inl, inr, refl, subst, arith}
use Rattle.protocol.specs.Ballots.{Ballot, IsBelow, IsAtMost}

pub below_trans : (a b c : Ballot) → IsBelow a b → IsBelow b c → IsBelow a c
below_trans a b c h k = grind arith

pub at_most_below : (a b c : Ballot) → IsAtMost a b → IsBelow b c → IsBelow a c
at_most_below a b c h k = grind arith

pub below_at_most : (a b c : Ballot) → IsBelow a b → IsAtMost b c → IsBelow a c
below_at_most a b c h k = grind arith

pub at_most_trans : (a b c : Ballot) → IsAtMost a b → IsAtMost b c → IsAtMost a c
at_most_trans a b c h k = grind arith

pub at_most_refl : (a : Ballot) → IsAtMost a a
at_most_refl a = grind arith

pub below_weaken : (a b : Ballot) → IsBelow a b → IsAtMost a b
below_weaken a b h = grind arith

pub not_both : (a b : Ballot) → IsBelow a b → IsAtMost b a → ⊥
not_both a b h k = omega arith

pub below_irrefl : (a : Ballot) → IsBelow a a → ⊥
below_irrefl a h = omega arith

pub same_ballot : (a b : Ballot) → a.round ≡ b.round → a.owner ≡ b.owner → a ≡ b
same_ballot a b h k = λ i. record { round = h i; owner = k i }

pub at_most_cases : (a b : Ballot) → IsAtMost a b → (a ≡ b) ⊎ IsBelow a b
at_most_cases a b h = go (a.owner) (b.owner) refl refl h
  where
    go : (x y : ℕ) → a.owner ≡ x → b.owner ≡ y → IsAtMost a b → (a ≡ b) ⊎ IsBelow a b
    go x y e f (inl l) = inr (inl l)
    go x y e f (inr h) = grind (arith, same_ballot)

pub compare_ballots : (a b : Ballot) → IsBelow a b ⊎ ((a ≡ b) ⊎ IsBelow b a)
compare_ballots a b = grind (arith, same_ballot)

pub both_at_most : (a b : Ballot) → IsAtMost a b → IsAtMost b a → a ≡ b
both_at_most a b h k = elim (at_most_cases a b h) [ inl e ↦ e | inr l ↦ absurd (not_both a b l k) ]

pub at_most_otherwise : (a b : Ballot) → ¬ IsBelow a b → IsAtMost b a
at_most_otherwise a b h = elim (compare_ballots a b) [
  | inl l ↦ absurd (h l)
  | inr r ↦ elim r [ inl e ↦ subst (λ (x : Ballot). IsAtMost x a) e (at_most_refl a) | inr l ↦ below_weaken b a l ]
]
