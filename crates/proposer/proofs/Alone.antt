-- Slots of which one alone is counted.
use Rattle.std.proofs.Common.{◌≡◌, ℕ, zero, suc, ◌-◌, refl, ◌∙◌, [], ◌∷◌, Option, Some, None, length, set, arith}
use Rattle.std.proofs.lemmas.List.{length-map, length-set, length-append}
use Rattle.protocol.specs.Ballots.{members}
use Rattle.protocol.specs.Rows.{Vote}
use Rattle.proposer.specs.Slots.{nothing_counted}

length_members : (c : ℕ) → length (members c) ≡ c
length_members zero = refl
length_members (suc c) = let front = length_members c in let all = length-append (members c) (suc c ∷ []) in omega (arith, front, all)

-- there are as many slots as members
pub alone_many : (c me : ℕ) (own : Option Vote) → length (set (nothing_counted c) (me - 1) (Some own)) ≡ c
alone_many c me own =
    length-set (nothing_counted c) (me - 1) (Some own) ∙ length-map (members c) (λ (m : ℕ). let r : Option (Option Vote) = None in r) ∙ length_members c
