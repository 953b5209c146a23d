-- Marks of one number change nothing that is read of another.
use Rattle.std.proofs.Common.{◌≡◌, ℕ, refl, sym, ap, subst, ◌∙◌, List, [], ◌∷◌, ◌++◌, Option, Some, None, false}
use Rattle.std.specs.Prelude.{◌==◌}
use Rattle.protocol.specs.Marks.{Mark, Began, Promised, Proposed, Denied, Heard, Closed, Released, begins, closes, releases}
use Rattle.protocol.specs.Proposals.{was_released, open_proposal, opening_of}
use Rattle.learner.specs.Latest.{hears, OtherMarksPass as OtherVotesPass}
use Rattle.proposer.specs.InHand.{InHand, concerns, OtherMarksPass as OtherProposalsPass}
use Rattle.node_core.specs.declared.instance.Instance.{Instance}
use Rattle.node_core.specs.Standing.{InstanceStands, ProposalStands, marked_number, AreAbout, Grows}

-- the mark says nothing of k
record SaysNothing (k : ℕ) (x : Mark) : Type 0 where
  releases : releases k x ≡ false
  closes : closes k x ≡ false
  begins : begins k x ≡ false
  opens : opening_of k x ≡ None
  hears : hears k x ≡ false
  concerns : concerns k x ≡ false

says_nothing : (k : ℕ) (x : Mark) → (marked_number x == k) ≡ false → SaysNothing k x
says_nothing k (Began j b own report now) e = record { releases = refl; closes = refl; begins = e; opens = rw e refl; hears = refl; concerns = e }
says_nothing k (Promised j m b report) e = record { releases = refl; closes = refl; begins = refl; opens = refl; hears = refl; concerns = e }
says_nothing k (Proposed j b now) e = record { releases = refl; closes = refl; begins = refl; opens = refl; hears = refl; concerns = e }
says_nothing k (Denied j b) e = record { releases = refl; closes = refl; begins = refl; opens = refl; hears = refl; concerns = e }
says_nothing k (Heard j m b t) e = record { releases = refl; closes = refl; begins = refl; opens = refl; hears = e; concerns = refl }
says_nothing k (Closed j) e = record { releases = refl; closes = e; begins = refl; opens = refl; hears = refl; concerns = e }
says_nothing k (Released j t) e = record { releases = e; closes = refl; begins = refl; opens = refl; hears = refl; concerns = e }

same_release : (k : ℕ) (x : Mark) (marks : List Mark) → SaysNothing k x → was_released k (x ∷ marks) ≡ was_released k marks
same_release k x marks h = let r : releases k x ≡ false = h.releases in rw r refl

same_proposal : (k : ℕ) (x : Mark) (marks : List Mark) → SaysNothing k x → open_proposal k (x ∷ marks) ≡ open_proposal k marks
same_proposal k x marks h =
    let r : releases k x ≡ false = h.releases in
    let c : closes k x ≡ false = h.closes in
    let b : begins k x ≡ false = h.begins in
    let o : opening_of k x ≡ None = h.opens in
    rw (r, b, c, o) refl

module _ (votes : OtherVotesPass) (proposals : OtherProposalsPass) where
  stands_by : (p : Option InHand) (k : ℕ) (x : Mark) (marks : List Mark) → SaysNothing k x → ProposalStands p k marks → ProposalStands p k (x ∷ marks)
  stands_by None k x marks h s = same_proposal k x marks h ∙ s
  stands_by (Some p) k x marks h s = proposals p k x marks h.concerns s

  instance_stands_by : (d : Instance) (x : Mark) (marks : List Mark) → SaysNothing d.number x → InstanceStands d marks → InstanceStands d (x ∷ marks)
  instance_stands_by d x marks h s = record {
    unreleased = same_release d.number x marks h ∙ s.unreleased;
    proposal = stands_by d.proposal d.number x marks h s.proposal;
    heard = votes d.heard d.number x marks h.hears s.heard;
  }

  module _ (n k : ℕ) (other : (n == k) ≡ false) where
    about_other : (x : Mark) → marked_number x ≡ n → SaysNothing k x
    about_other x e = says_nothing k x (ap (λ j. j == k) e ∙ other)

    released_after : (new marks : List Mark) → AreAbout n new → was_released k (new ++ marks) ≡ was_released k marks
    released_after [] marks a = refl
    released_after (x ∷ new) marks a = same_release k x (new ++ marks) (about_other x a.0) ∙ released_after new marks a.1

    instance_after : (d : Instance) (new marks : List Mark) → d.number ≡ k → AreAbout n new → InstanceStands d marks → InstanceStands d (new ++ marks)
    instance_after d [] marks e a s = s
    instance_after d (x ∷ new) marks e a s = instance_stands_by d x (new ++ marks) (subst (λ j. SaysNothing j x) (sym e) (about_other x a.0)) (instance_after d new marks e a.1 s)

    pub other_released : (before after : List Mark) → Grows n before after → was_released k after ≡ was_released k before
    other_released before after g = ap (was_released k) g.is ∙ released_after g.new before g.about

    pub other_instance : (d : Instance) (before after : List Mark) → d.number ≡ k → Grows n before after → InstanceStands d before → InstanceStands d after
    other_instance d before after e g s = subst (InstanceStands d) (sym g.is) (instance_after d g.new before e g.about s)
