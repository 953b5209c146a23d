-- Where so few slots have a vote that all of them are no majority, none is ripe.
use Rattle.std.proofs.Common.{◌≡◌, ◌≤◌, ◌<◌, ◌+◌, ◌*◌, ℕ, refl, sym, ◌∙◌, List, [], ◌∷◌, Option, Some, None, Bool, true, false, length, cond, arith}
use Rattle.std.proofs.lemmas.Bool.Decides.{nat_tests}
use Rattle.std.proofs.lemmas.List.Sums.{sum_by-cons}
use Rattle.std.specs.Prelude.{find, count_by, is_some, IsTrue, ◌↔◌}
use Rattle.protocol.specs.Ballots.{Ballot}
use Rattle.protocol.specs.Rows.{Vote}
use Rattle.protocol.specs.Learner.{votes_at}
use Rattle.learner.specs.Slots.{votes_in, is_ripe_in, ripe_in}

-- a slot with a vote at a ballot has a vote
at_most_one : (b : Ballot) (o : Option Vote) → cond (votes_at b o) 1 0 ≤ cond (is_some o) 1 0
at_most_one b None = omega arith
at_most_one b (Some v) = go (votes_at b (Some v))
  where
    go : (t : Bool) → cond t 1 0 ≤ 1
    go true = omega arith
    go false = omega arith

at_most : (b : Ballot) (slots : List (Option Vote)) → count_by (votes_at b) slots ≤ count_by is_some slots
at_most b [] = omega arith
at_most b (o ∷ slots) =
    let one = at_most_one b o in
    let more = at_most b slots in
    let l : count_by (votes_at b) (o ∷ slots) ≡ cond (votes_at b o) 1 0 + count_by (votes_at b) slots = sum_by-cons (λ y. cond (votes_at b y) 1 0) o slots in
    let r : count_by is_some (o ∷ slots) ≡ cond (is_some o) 1 0 + count_by is_some slots = sum_by-cons (λ (y : Option Vote). cond (is_some y) 1 0) o slots in
    omega (arith, one, more, l, r)

-- what nothing passes finds nothing
none_found : (p : Vote → Bool) → ((v : Vote) → p v ≡ false) → (vs : List Vote) → find p vs ≡ None
none_found p fails [] = refl
none_found p fails (v ∷ vs) = rw (fails v) (none_found p fails vs)

unripe : (slots : List (Option Vote)) → (length slots < 2 * count_by is_some slots → ⊥) → (v : Vote) → is_ripe_in slots v ≡ false
unripe slots few v =
    let most = at_most v.ballot slots in
    let l : length slots < 2 * count_by (votes_at v.ballot) slots → ⊥ = (λ k. few (omega (arith, most, k))) in
    grind (arith, nat_tests)

pub too_few : (slots : List (Option Vote)) (count : ℕ) (r : Bool) → (IsTrue r ↔ (length slots < 2 * count)) → count ≡ count_by is_some slots → r ≡ false → ripe_in slots ≡ None
too_few slots count r h e f = none_found (is_ripe_in slots) (unripe slots (λ k. (let t : IsTrue r = h.1 (let c = e in omega (arith, c, k)) in let bad : true ≡ false = sym t ∙ f in cc))) (votes_in slots)
