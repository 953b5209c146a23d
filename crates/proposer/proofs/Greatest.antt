-- The greatest of the members' reports: it is one, it grows member by member, and it is the one of the definitions.
use Rattle.std.proofs.Common.{◌≡◌, ℕ, ◌+◌, ◌≤◌, ◌⊎◌, inl, inr, refl, sym, ap, ◌∙◌, Option, Some, None, Bool, true, false, arith}
use Rattle.std.specs.Prelude.{◌||◌, ◌&&◌, ◌==◌}
use Rattle.std.proofs.lemmas.Bool.{eqb-true, eqb-false}
use Rattle.std.proofs.lemmas.Bool.Decides.{nat_tests}
use Rattle.protocol.specs.Ballots.{Ballot, is_below, is_same, IsMember}
use Rattle.protocol.specs.Rows.{Vote}
use Rattle.protocol.specs.Proposals.{vote_above}
use Rattle.proposer.specs.Greatest.{is_over, IsGreatest, nothing, reported_by}

not_over_self : (a : Ballot) (k : ℕ) → is_over a k a k ≡ false
not_over_self a k = grind (arith, nat_tests)

same_member : (a b : Ballot) (k m : ℕ) → is_over a k b m ≡ false → is_over b m a k ≡ false → k ≡ m
same_member a b k m h l = grind (arith, nat_tests)

-- a greater ballot is above all that the one before it was above
above_those : (a b d : Ballot) (k m i : ℕ) → is_below b a ≡ true → is_over d m b k ≡ false → is_over d m a i ≡ false
above_those a b d k m i h l = grind (arith, nat_tests)

not_above_later : (a b : Ballot) (k i : ℕ) → is_below b a ≡ false → k ≤ i → is_over a i b k ≡ false
not_above_later a b k i h l = grind (arith, nat_tests)

or_and_false : (p q : Bool) {r : Bool} → (p || (q && false)) ≡ r → p ≡ r
or_and_false true q h = h
or_and_false false true h = h
or_and_false false false h = h

module _ (reports : ℕ → Option Vote) where
  -- there is one greatest
  pub one_greatest : (i : ℕ) (o r : Option Vote) → IsGreatest reports i o → IsGreatest reports i r → o ≡ r
  one_greatest i o r (nothing h e) (nothing l f) = e ∙ sym f
  one_greatest i o r (nothing h e) (reported_by k v m g l f) = let bad : None ≡ Some v = sym (h k m) ∙ g in absurd cc
  one_greatest i o r (reported_by k v m g l f) (nothing h e) = let bad : None ≡ Some v = sym (h k m) ∙ g in absurd cc
  one_greatest i o r (reported_by k v m g l f) (reported_by j u n h s t) =
      let same : k ≡ j = same_member v.ballot u.ballot k j (s k v m g) (l j u n h) in
      f ∙ sym g ∙ ap reports same ∙ h ∙ sym t

  none_yet : IsGreatest reports 0 None
  none_yet = nothing (λ m h. absurd (omega arith)) refl

  module _ (i : ℕ) where
    earlier : (m : ℕ) → IsMember (i + 1) m → IsMember i m ⊎ (m ≡ i + 1)
    earlier m h = go (m == i + 1) refl
      where
        go : (b : Bool) → (m == i + 1) ≡ b → IsMember i m ⊎ (m ≡ i + 1)
        go true e = inr (eqb-true m (i + 1) e)
        go false e = let other : m ≡ i + 1 → ⊥ = eqb-false m (i + 1) e in let high : m ≤ i + 1 = h.1 in inl (h.0, omega arith)

    later : (k : ℕ) → IsMember i k → IsMember (i + 1) k
    later k h = (h.0, omega arith)

    here : (v u : Vote) (m : ℕ) → m ≡ i + 1 → reports (i + 1) ≡ Some v → reports m ≡ Some u → is_over u.ballot m v.ballot (i + 1) ≡ false
    here v u m l e s =
        let both : Some u ≡ Some v = sym s ∙ ap reports l ∙ e in
        let same : u ≡ v = cc in
        ap (λ (w : Vote). is_over w.ballot m v.ballot (i + 1)) same ∙ ap (λ j. is_over v.ballot j v.ballot (i + 1)) l ∙ not_over_self v.ballot (i + 1)

    none_here : (u : Vote) (m : ℕ) → IsMember i m → ((j : ℕ) → IsMember i j → reports j ≡ None) → reports m ≡ Some u → ⊥
    none_here u m l h s = let bad : None ≡ Some u = sym (h m l) ∙ s in cc

    last : IsMember (i + 1) (i + 1)
    last = (omega arith, omega arith)

    -- the next member's report is above
    pub takes : (o r : Option Vote) → IsGreatest reports i o → reports (i + 1) ≡ r → vote_above r o false ≡ true → IsGreatest reports (i + 1) r
    takes o None g e t = absurd cc
    takes o (Some v) (nothing h f) e t =
        reported_by (i + 1) v last e (λ m u n s. elim (earlier m n) [ inl l ↦ absurd (none_here u m l h s) | inr l ↦ here v u m l e s ]) refl
    takes o (Some v) (reported_by k w m g l f) e t =
        let above : is_below w.ballot v.ballot ≡ true = or_and_false (is_below w.ballot v.ballot) (is_same w.ballot v.ballot) (rw f at t) in
        reported_by (i + 1) v last e (λ j u n s. elim (earlier j n) [ inl b ↦ above_those v.ballot w.ballot u.ballot k j (i + 1) above (l j u b s) | inr b ↦ here v u j b e s ]) refl

    -- it isn't
    pub stays : (o r : Option Vote) → IsGreatest reports i o → reports (i + 1) ≡ r → vote_above r o false ≡ false → IsGreatest reports (i + 1) o
    stays o None (nothing h f) e t = nothing (λ m n. elim (earlier m n) [ inl l ↦ h m l | inr l ↦ ap reports l ∙ e ]) f
    stays o (Some v) (nothing h f) e t = absurd (let bad : true ≡ false = rw f at t in cc)
    stays o None (reported_by k w m g l f) e t =
        reported_by k w (later k m) g (λ j u n s. elim (earlier j n) [ inl b ↦ l j u b s | inr b ↦ absurd (let bad : None ≡ Some u = sym e ∙ ap reports (sym b) ∙ s in cc) ]) f
    stays o (Some v) (reported_by k w m g l f) e t =
        let below : is_below w.ballot v.ballot ≡ false = or_and_false (is_below w.ballot v.ballot) (is_same w.ballot v.ballot) (rw f at t) in
        reported_by k w (later k m) g (λ j u n s. elim (earlier j n) [ inl b ↦ l j u b s | inr b ↦ not_above_here v w u j k m b e s below ]) f
      where
        not_above_here : (v w u : Vote) (j k : ℕ) → IsMember i k → j ≡ i + 1 → reports (i + 1) ≡ Some v → reports j ≡ Some u → is_below w.ballot v.ballot ≡ false → is_over u.ballot j w.ballot k ≡ false
        not_above_here v w u j k m b e s below =
            let both : Some u ≡ Some v = sym s ∙ ap reports b ∙ e in
            let same : u ≡ v = cc in
            ap (λ (x : Vote). is_over x.ballot j w.ballot k) same ∙ not_above_later v.ballot w.ballot k j below (omega arith)
