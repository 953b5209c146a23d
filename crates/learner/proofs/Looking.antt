-- Looking through the slots for a vote, in rising order of members.
use Rattle.std.proofs.Common.{◌≡◌, ℕ, zero, suc, ◌+◌, ◌*◌, ◌<◌, refl, sym, ap, ◌∙◌, List, [], ◌∷◌, ◌++◌, Option, Some, None, Bool, true, false, length, take, get_or, arith, add-one}
use Rattle.std.proofs.Math.ListN.{get_or-map}
use Rattle.std.specs.Prelude.{find, count_by, nat_lt, IsTrue, ◌↔◌, is_some}
use Rattle.std.proofs.lemmas.Bool.Decides.{nat_tests}
use Rattle.std.specs.Option.{option_or}
use Rattle.std.proofs.lemmas.List.{take_more, map-append}
use Rattle.std.proofs.lemmas.List.Elements.{filter_map-append}
use Rattle.std.proofs.lemmas.List.Folds.{find-append}
use Rattle.protocol.specs.Ballots.{Ballot, is_same, members}
use Rattle.protocol.specs.Rows.{Vote}
use Rattle.protocol.specs.Learner.{votes_at}
use Rattle.learner.specs.Slots.{nothing_heard, votes_in, is_ripe_in, ripe_in, least_in}

-- as `ripe_in`, looked for in the first i slots
abbrev pub ripe_before : List (Option Vote) → ℕ → Option Vote
ripe_before slots i = find (is_ripe_in slots) (votes_in (take i slots))

module _ (p : Vote → Bool) where
  abbrev first_in : List (Option Vote) → Option Vote
  first_in slots = find p (votes_in slots)

  -- looking through one list and then another
  joined : (front rest : List (Option Vote)) → first_in (front ++ rest) ≡ option_or (first_in front) (first_in rest)
  joined front rest = ap (find p) (filter_map-append (λ (o : Option Vote). o) front rest) ∙ find-append p (votes_in front) (votes_in rest)

  -- the first slot that passes decides
  pub found : (slots : List (Option Vote)) (i : ℕ) (v : Vote) → i < length slots → first_in (take i slots) ≡ None → get_or slots i None ≡ Some v → p v ≡ true → first_in slots ≡ Some v
  found [] i v l none e t = absurd (omega arith)
  found (o ∷ slots) zero v l none e t = let e' : o ≡ Some v = e in rw (e', t) refl
  found (None ∷ slots) (suc i) v l none e t = found slots i v (omega arith) none e t
  found (Some u ∷ slots) (suc i) v l none e t = go (p u) refl none (λ k. found slots i v (omega arith) k e t)
    where
      go : (b : Bool) → p u ≡ b → first_in (take (suc i) (Some u ∷ slots)) ≡ None → (first_in (take i slots) ≡ None → first_in slots ≡ Some v) → first_in (Some u ∷ slots) ≡ Some v
      go true h k rest = absurd (let g : Some u ≡ None = rw h at k in cc)
      go false h k rest = rw h (rest (rw h at k))

  -- a slot that doesn't pass is passed over
  pub passed : (slots : List (Option Vote)) (i : ℕ) (o : Option Vote) → i < length slots → first_in (take i slots) ≡ None → get_or slots i None ≡ o → first_in (o ∷ []) ≡ None → first_in (take (i + 1) slots) ≡ None
  passed slots i o l none e f = ap first_in (take_more slots i None l) ∙ joined (take i slots) (get_or slots i None ∷ []) ∙ rw (none, e) f

-- the first slot whose vote is ripe decides, and the others are passed over
pub first_ripe : (slots : List (Option Vote)) (i : ℕ) (v : Vote) → i < length slots → ripe_before slots i ≡ None → get_or slots i None ≡ Some v → is_ripe_in slots v ≡ true → ripe_in slots ≡ Some v
first_ripe slots = found (is_ripe_in slots) slots

-- the first slot with a vote at b decides, and the others are passed over
pub first_least : (b : Ballot) (slots : List (Option Vote)) (i : ℕ) (o : Option Vote) → i < length slots → least_in b (take i slots) ≡ None → get_or slots i None ≡ o → votes_at b o ≡ true → o ≡ least_in b slots
first_least b slots i None l none e t = absurd cc
first_least b slots i (Some v) l none e t = sym (found (λ (v : Vote). is_same v.ballot b) slots i v l none e t)

pub no_least : (b : Ballot) (slots : List (Option Vote)) (i : ℕ) (o : Option Vote) → i < length slots → least_in b (take i slots) ≡ None → get_or slots i None ≡ o → votes_at b o ≡ false → least_in b (take (i + 1) slots) ≡ None
no_least b slots i None l none e t = passed (λ (v : Vote). is_same v.ballot b) slots i None l none e refl
no_least b slots i (Some v) l none e t = passed (λ (v : Vote). is_same v.ballot b) slots i (Some v) l none e (rw t refl)

pub no_ripe : (slots : List (Option Vote)) (i : ℕ) (v : Vote) → i < length slots → ripe_before slots i ≡ None → get_or slots i None ≡ Some v → is_ripe_in slots v ≡ false → ripe_before slots (i + 1) ≡ None
no_ripe slots i v l none e t = passed (is_ripe_in slots) slots i (Some v) l none e (rw t refl)

pub empty_slot : (slots : List (Option Vote)) (i : ℕ) → i < length slots → ripe_before slots i ≡ None → get_or slots i None ≡ None → ripe_before slots (i + 1) ≡ None
empty_slot slots i l none e = passed (is_ripe_in slots) slots i None l none e refl

-- the slot that a loop reads
pub read : (slots : List (Option Vote)) (i : ℕ) (x o : Option Vote) → i < length slots → x ≡ get_or slots i x → x ≡ o → get_or slots i None ≡ o
read [] i x o l e f = absurd (omega arith)
read (s ∷ slots) zero x o l e f = sym e ∙ f
read (s ∷ slots) (suc i) x o l e f = read slots i x o (omega arith) e f

-- a slot that has a vote is none of the slots before anything is heard
pub not_empty : (slots : List (Option Vote)) (i : ℕ) (o : Option Vote) → get_or slots i None ≡ o → is_some o ≡ true → slots ≡ nothing_heard (length slots) → ⊥
not_empty slots i o e some all =
    let none : get_or slots i None ≡ None = ap (λ (xs : List (Option Vote)). get_or xs i None) all ∙ get_or-map (λ (m : ℕ). None) (members (length slots)) i 0 in
    let bad : false ≡ true = ap (λ (x : Option Vote). is_some x) (sym none ∙ e) ∙ some in cc

nothing_more : (i : ℕ) → nothing_heard i ++ None ∷ [] ≡ nothing_heard (i + 1)
nothing_more i = rw (add-one i) (sym (map-append (λ (m : ℕ). None) (members i) (suc i ∷ [])))

pub empty_more : (slots : List (Option Vote)) (i : ℕ) (o : Option Vote) → i < length slots → take i slots ≡ nothing_heard i → get_or slots i None ≡ o → is_some o ≡ false → take (i + 1) slots ≡ nothing_heard (i + 1)
empty_more slots i None l front e none = take_more slots i None l ∙ rw (front, e) (nothing_more i)
empty_more slots i (Some v) l front e none = let bad : true ≡ false = none in absurd cc

-- a test of numbers is the test of the definition
pub tested : (a b : ℕ) (r : Bool) → (IsTrue r ↔ (a < b)) → r ≡ nat_lt a b
tested a b true h = let l : a < b = h.0 refl in sym (grind (arith, nat_tests))
tested a b false h = let l : (a < b) → ⊥ = (λ k. let f : false ≡ true = h.1 k in absurd cc) in sym (grind (arith, nat_tests))

pub tested_ripe : (slots : List (Option Vote)) (v : Vote) (b : Ballot) (count : ℕ) (r : Bool) → (IsTrue r ↔ (length slots < 2 * count)) → count ≡ count_by (votes_at b) slots → b ≡ v.ballot → is_ripe_in slots v ≡ r
tested_ripe slots v b count r h e f = ap (λ (a : Ballot). nat_lt (length slots) (2 * count_by (votes_at a) slots)) (sym f) ∙ ap (λ i. nat_lt (length slots) (2 * i)) (sym e) ∙ sym (tested (length slots) (2 * count) r h)
