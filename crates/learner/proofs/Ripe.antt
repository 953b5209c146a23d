-- What is ripe is the least vote at its ballot.
use Rattle.std.proofs.Common.{◌≡◌, ℕ, refl, sym, ap, ◌∙◌, List, [], ◌∷◌, Option, Some, Bool, true, false, arith}
use Rattle.std.specs.Prelude.{filter_map, find}
use Rattle.std.proofs.lemmas.Bool.Decides.{nat_tests}
use Rattle.protocol.specs.Ballots.{Ballot, is_same, is_majority, members}
use Rattle.protocol.specs.Rows.{Vote}
use Rattle.protocol.specs.Learner.{votes_at}
use Rattle.learner.specs.Latest.{least_at, ripe_of}

is_same-true : (a b : Ballot) → is_same a b ≡ true → a ≡ b
is_same-true a b h = grind (arith, nat_tests)

is_same-self : (a : Ballot) → is_same a a ≡ true
is_same-self a = grind (arith, nat_tests)

module _ (q : Ballot → Bool) where
  abbrev passes : Vote → Bool
  passes v = q v.ballot

  -- what is found passes
  found_passes : (vs : List Vote) (v : Vote) → find passes vs ≡ Some v → q v.ballot ≡ true
  found_passes [] v e = absurd cc
  found_passes (u ∷ vs) v e = go (q u.ballot) refl (λ f. found_passes vs v f)
    where
      go : (b : Bool) → q u.ballot ≡ b → (find passes vs ≡ Some v → q v.ballot ≡ true) → q v.ballot ≡ true
      go true t rest = let same : Some u ≡ Some v = rw t at e in let u_is : u ≡ v = cc in ap (λ (w : Vote). q w.ballot) (sym u_is) ∙ t
      go false t rest = rest (rw t at e)

  -- the first that passes is the first at its ballot
  pub first_at_its_ballot : (vs : List Vote) (v : Vote) → find passes vs ≡ Some v → find (λ (u : Vote). is_same u.ballot v.ballot) vs ≡ Some v
  first_at_its_ballot [] v e = absurd cc
  first_at_its_ballot (u ∷ vs) v e = go (q u.ballot) refl (is_same u.ballot v.ballot) refl (λ f. first_at_its_ballot vs v f)
    where
      here : Some u ≡ Some v → is_same u.ballot v.ballot ≡ false → ⊥
      here same s = let u_is : u ≡ v = cc in let f : true ≡ false = sym (is_same-self v.ballot) ∙ ap (λ (w : Vote). is_same w.ballot v.ballot) (sym u_is) ∙ s in cc

      not_here : q u.ballot ≡ false → find passes vs ≡ Some v → is_same u.ballot v.ballot ≡ true → ⊥
      not_here t f s = let g : false ≡ true = sym t ∙ ap q (is_same-true u.ballot v.ballot s) ∙ found_passes vs v f in cc

      go : (b : Bool) → q u.ballot ≡ b → (s : Bool) → is_same u.ballot v.ballot ≡ s → (find passes vs ≡ Some v → find (λ (w : Vote). is_same w.ballot v.ballot) vs ≡ Some v) → find (λ (w : Vote). is_same w.ballot v.ballot) (u ∷ vs) ≡ Some v
      go true t true s rest = let same : Some u ≡ Some v = rw t at e in rw s same
      go true t false s rest = absurd (here (rw t at e) s)
      go false t true s rest = absurd (not_here t (rw t at e) s)
      go false t false s rest = rw s (rest (rw t at e))

-- what is ripe is the least at its ballot
pub ripe_least : (c : ℕ) (latest : ℕ → Option Vote) (b : Ballot) (v : Vote) → ripe_of c latest ≡ Some v → b ≡ v.ballot → least_at c b latest ≡ Some v
ripe_least c latest b v e f = ap (λ (a : Ballot). least_at c a latest) f ∙ first_at_its_ballot (λ (a : Ballot). is_majority c (λ m. votes_at a (latest m))) (filter_map latest (members c)) v e
