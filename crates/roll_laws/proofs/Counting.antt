-- Where each number that passes at first passes later, no fewer pass later, and as many are the same.
use Rattle.std.proofs.Common.{◌≡◌, ℕ, ◌≤◌, inl, inr, refl, sym, ap, ◌∙◌, arith, List, [], ◌∷◌, Bool, true, false, cond}
use Rattle.std.specs.List.{count_by}
use Rattle.protocol.specs.Lists.{IsAmong}
use Rattle.protocol_laws.proofs.Majorities.{one_more}
use Rattle.roll_laws.specs.Votes.{has_vote}
use Rattle.roll_laws.specs.Rolls.{CountsNeverFall, EqualCountsAreSameVotes}
use Rattle.roll_laws.proofs.Voting.{votes_stay}

-- what a number adds to a count
abbrev weight : Bool → ℕ
weight b = cond b 1 0

module _ (p q : ℕ → Bool) (stays : (x : ℕ) → p x ≡ true → q x ≡ true) where
  one_rises : (a b : Bool) → (a ≡ true → b ≡ true) → weight a ≤ weight b
  one_rises true true f = omega arith
  one_rises true false f = let no : false ≡ true = f refl in cc
  one_rises false true f = omega arith
  one_rises false false f = omega arith

  one_same : (a b : Bool) → weight a ≡ weight b → a ≡ b
  one_same true true e = refl
  one_same true false e = absurd (omega arith)
  one_same false true e = absurd (omega arith)
  one_same false false e = refl

  pub count_rises : (xs : List ℕ) → count_by p xs ≤ count_by q xs
  count_rises [] = omega arith
  count_rises (x ∷ xs) = omega (arith, one_more p x xs, one_more q x xs, one_rises (p x) (q x) (stays x), count_rises xs)

  pub same_count : (xs : List ℕ) → count_by p xs ≡ count_by q xs → (x : ℕ) → IsAmong xs x → p x ≡ q x
  same_count [] e x i = absurd i
  same_count (y ∷ xs) e x i = elim i [
    | inl same ↦ (let here : weight (p y) ≡ weight (q y) = omega (arith, e, one_more p y xs, one_more q y xs, one_rises (p y) (q y) (stays y), count_rises xs) in
        ap p same ∙ one_same (p y) (q y) here ∙ sym (ap q same))
    | inr j ↦ (let rest : count_by p xs ≡ count_by q xs = omega (arith, e, one_more p y xs, one_more q y xs, one_rises (p y) (q y) (stays y), count_rises xs) in
        same_count xs rest x j)
  ]

pub counts_never_fall : {D G F : Type 0} → CountsNeverFall D G F
counts_never_fall z w v h k g m numbers = count_rises (has_vote w m) (has_vote v m) (λ n e. votes_stay z w v h k g m n e) numbers

pub equal_counts_are_same_votes : {D G F : Type 0} → EqualCountsAreSameVotes D G F
equal_counts_are_same_votes z w v h k g m numbers e n i = same_count (has_vote w m) (has_vote v m) (λ j f. votes_stay z w v h k g m j f) numbers e n i
