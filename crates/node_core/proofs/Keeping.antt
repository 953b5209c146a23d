-- A core goes on to stand for the marks once what is in hand of one number was acted on.
use Rattle.std.proofs.Common.{◌≡◌, ◌⊎◌, inl, inr, ℕ, refl, sym, ap, subst, ◌∙◌, List, [], Option, Some, None, Bool, true, false}
use Rattle.std.specs.Prelude.{is_some, ◌==◌, if◌then◌else◌}
use Rattle.std.proofs.lemmas.Bool.{eqb-true, eq-eqb}
use Rattle.std.specs.Ordering.{nat_cmp}
use Rattle.std.specs.BTreeMap.{BTreeMap, get, is_at, WritesThrough}
use Rattle.std.proofs.lemmas.Map.Lookups.{exact_unsigned}
use Rattle.std.proofs.lemmas.Map.Views.{tells_apart}
use Rattle.protocol.specs.Marks.{Mark}
use Rattle.protocol.specs.Proposals.{was_released, open_proposal, open_ballot}
use Rattle.learner.specs.Latest.{LatestVotes, latest_votes, OtherMarksPass as OtherVotesPass}
use Rattle.proposer.specs.InHand.{InHand, OtherMarksPass as OtherProposalsPass}
use Rattle.node_core.specs.declared.instance.Instance.{Instance}
use Rattle.node_core.specs.Standing.{Core, StandsFor, InstanceStands, ProposalStands, InHandStands, IsLeft, Answers, Grows, Kept, Moves, Settles, fresh, instance_in, instance_at, is_noted}
use Rattle.node_core.specs.declared.turn.Turn.{Turn}
use Rattle.node_core.specs.Handling.{IsTurnAlone}
use Rattle.node_core.specs.Turns.{Stirs, is_quiet}
use Rattle.protocol.specs.Rows.{Row}
use Rattle.tape_frames.specs.declared.entry.Entry.{Entry}
use Rattle.protocol.specs.Turn as said
use Rattle.std.specs.List.{list_any}
use Rattle.std.specs.Map.{set_value}
use Rattle.std.proofs.lemmas.Map.Steps.{set_value_same}
use Rattle.node_core.proofs.Passing.{other_released, other_instance}

module _ (votes : OtherVotesPass) (proposals : OtherProposalsPass) (n : ℕ) (marks after : List Mark) (g : Grows n marks after) where
  -- of another number the same stands
  other_in_hand : (c k : ℕ) → (n == k) ≡ false → (o : Option Instance) → InHandStands c k o marks → InHandStands c k o after
  other_in_hand c k other None h = λ u. other_instance votes proposals n k other (fresh c k) marks after refl g (h (sym (other_released votes proposals n k other marks after g) ∙ u))
  other_in_hand c k other (Some d) h = (h.0, other_instance votes proposals n k other d marks after h.0 g h.1)

  module _ (v w : Core) (h : StandsFor v marks) (u : was_released n marks ≡ false) where
    other_numbers : (o : Option Instance) (r : Bool) → Moves v n o r w → (k : ℕ) → (n == k) ≡ false → (is_noted w k ≡ was_released k after) × InHandStands w.members k (instance_at w k) after
    other_numbers o r m k other =
        let apart : k ≡ n → ⊥ = λ e. (let t : (n == k) ≡ true = eq-eqb n k (sym e) in let bad : true ≡ false = sym t ∙ other in absurd cc) in
        let same : instance_at w k ≡ instance_at v k = m.others k apart in
        let c : w.members ≡ v.members = m.members in (
          m.unnoted k (λ _ e. apart e) ∙ h.released k ∙ sym (other_released votes proposals n k other marks after g),
          rw (same, c) (other_in_hand v.members k other (instance_at v k) (h.in_hand k)),
        )

    pub moved : (o : Option Instance) (r : Bool) → Moves v n o r w → is_noted w n ≡ was_released n after → InHandStands w.members n o after → StandsFor w after
    moved o r m noted stands = record { unfailed = m.failed ∙ h.unfailed; released = λ k. (both k (n == k) refl).0; in_hand = λ k. (both k (n == k) refl).1 }
      where
        both : (k : ℕ) (t : Bool) → (n == k) ≡ t → (is_noted w k ≡ was_released k after) × InHandStands w.members k (instance_at w k) after
        both k true e =
            let is : n ≡ k = eqb-true n k e in
            subst (λ j. (is_noted w j ≡ was_released j after) × InHandStands w.members j (instance_at w j) after) is (noted, subst (λ (x : Option Instance). InHandStands w.members n x after) (sym m.here) stands)
        both k false e = other_numbers o r m k e

-- a number that is another is found elsewhere
apart_at : (n k : ℕ) → (k ≡ n → ⊥) → is_at (nat_cmp n) k ≡ false
apart_at n k apart = go (is_at (nat_cmp n) k) refl
  where
    go : (t : Bool) → is_at (nat_cmp n) k ≡ t → is_at (nat_cmp n) k ≡ false
    go true e = absurd (apart (sym (tells_apart exact_unsigned n k e)))
    go false e = e

-- what is in hand where what is in hand of n was acted on in place
pub record Written (m after : BTreeMap ℕ Instance) (n : ℕ) (d : Instance) : Type 0 where
  pub here : get nat_cmp after n ≡ Some d
  pub others : (k : ℕ) → (k ≡ n → ⊥) → get nat_cmp after k ≡ get nat_cmp m k

pub written : (m after : BTreeMap ℕ Instance) (n : ℕ) (old d : Instance) → Some old ≡ get nat_cmp m n → WritesThrough nat_cmp (nat_cmp n) m d after → Written m after n d
written m after n old d e w =
    let u = w.3 (subst (λ (o : Option Instance). is_some o ≡ true) e refl) in
    record { here = u.1; others = λ k apart. u.2 k (apart_at n k apart) }

-- where it was left as it was, nothing changes
pub unwritten : (m after : BTreeMap ℕ Instance) (n : ℕ) (old d : Instance) → Some old ≡ get nat_cmp m n → WritesThrough nat_cmp (nat_cmp n) m d after → d ≡ old → after.entries ≡ m.entries
unwritten m after n old d e w same = w.0 ∙ ap (λ (x : Instance). set_value (is_at (nat_cmp n)) m.entries x) same ∙ set_value_same (is_at (nat_cmp n)) m.entries old (sym e)

-- what stands in hand, as the core shows it
pub stands_there : (c : Core) (m : BTreeMap ℕ Instance) (n : ℕ) (o : Option Instance) (marks : List Mark) → m.entries ≡ c.instances → o ≡ get nat_cmp m n → StandsFor c marks → InHandStands c.members n o marks
stands_there c m n o marks is e h = subst (λ (x : Option Instance). InHandStands c.members n x marks) (ap (λ (es : List (ℕ × Instance)). instance_in es n) (sym is) ∙ sym e) (h.in_hand n)

-- with nothing in hand of a number that was not released, a new instance stands
pub new_stands : (v : Core) (c n : ℕ) (d : Instance) (marks : List Mark) → instance_at v n ≡ None → c ≡ v.members → d ≡ fresh c n → StandsFor v marks → was_released n marks ≡ false → InstanceStands d marks
new_stands v c n d marks none of is h u =
    subst (λ (x : Instance). InstanceStands x marks) (sym (is ∙ ap (λ k. fresh k n) of)) (subst (λ (o : Option Instance). InHandStands v.members n o marks) none (h.in_hand n) u)

-- no proposal is open at an instance where nothing is in hand
pub fresh_closed : (c n : ℕ) (d : Instance) (marks : List Mark) → d ≡ fresh c n → InstanceStands d marks → open_proposal n marks ≡ None
fresh_closed c n d marks is s = (subst (λ (x : Instance). InstanceStands x marks) is s).proposal

-- there is one instance that stands and has nothing in hand
one_instance : (d : Instance) (marks : List Mark) → InstanceStands d marks → InstanceStands (fresh d.heard.members d.number) marks → d ≡ fresh d.heard.members d.number
one_instance d marks s f = go d.proposal refl
  where
    heard : d.heard ≡ latest_votes d.heard.members d.number []
    heard = s.heard ∙ sym f.heard

    go : (p : Option InHand) → d.proposal ≡ p → d ≡ fresh d.heard.members d.number
    go None e =
        ap (λ (q : LatestVotes). let x : Instance = record { number = d.number; proposal = d.proposal; heard = q } in x) heard
        ∙ ap (λ (p : Option InHand). let x : Instance = record { number = d.number; proposal = p; heard = latest_votes d.heard.members d.number [] } in x) e
    go (Some p) e =
        let there = subst (λ (o : Option InHand). ProposalStands o d.number marks) e s.proposal in
        let bad : None ≡ Some there.opening = sym f.proposal ∙ there.is_open in absurd cc

-- so where something is in hand then, and a quiet turn takes nothing in, the turn is not quiet
pub new_stirs :
    (c n : ℕ) (old d : Instance) (row : Row) (marks : List Mark) (t : said.Turn) (x : Turn) → old ≡ fresh c n → InstanceStands old marks → d.number ≡ n → d.heard.members ≡ c
    → (d ≡ fresh d.heard.members d.number → ⊥) → (is_quiet t.note ≡ true → t.marks ≡ marks) → Answers row t x d → Stirs t
new_stirs c n old d row marks t x is s number of holds keeps a = quiet (is_quiet t.note) refl
  where
    there : InstanceStands (fresh d.heard.members d.number) marks
    there = subst (λ k. InstanceStands (fresh k d.number) marks) (sym of) (subst (λ k. InstanceStands (fresh c k) marks) (sym number) (subst (λ (y : Instance). InstanceStands y marks) is s))

    go : (o : Option Entry) → IsLeft d o marks → ⊥
    go None left = holds (one_instance d marks left there)
    go (Some u) left = let bad : true ≡ false = sym left ∙ there.unreleased in cc

    quiet : (q : Bool) → is_quiet t.note ≡ q → is_quiet t.note ≡ false
    quiet true e = absurd (go x.release (subst (λ (ms : List Mark). IsLeft d x.release ms) (keeps e) a.left))
    quiet false e = e

-- an instance that was acted on in place is kept
pub in_place :
    (circuit me members : ℕ) (failed : Bool) (released : List ℕ) (m after : BTreeMap ℕ Instance) (n : ℕ) (d : Instance) → Written m after n d → d.number ≡ n
    → Kept (record { circuit = circuit; me = me; members = members; failed = failed; instances = m.entries; released = released }) d (record { circuit = circuit; me = me; members = members; failed = failed; instances = after.entries; released = released })
in_place circuit me members failed released m after n d w number =
    let there : Written m after d.number d = subst (λ i. Written m after i d) (sym number) w in
    record { failed = refl; members = refl; released = refl; here = inl there.here; others = there.others }

-- of an instance that was kept, with its number then settled
module _ (votes : OtherVotesPass) (proposals : OtherProposalsPass) (before mid : Core) (n : ℕ) (d : Instance) (kept : Kept before d mid) (number : d.number ≡ n) where
  moves : (o : Option Instance) (r : Bool) (after : Core) → Moves mid n o r after → Moves before n o r after
  moves o r after m = record {
    failed = m.failed ∙ kept.failed;
    members = m.members ∙ kept.members;
    here = m.here;
    others = λ k apart. m.others k apart ∙ kept.others k (λ e. apart (e ∙ number));
    noted = m.noted;
    unnoted = λ k apart. m.unnoted k apart ∙ ap (λ (ks : List ℕ). list_any (is_at (nat_cmp k)) ks) kept.released;
  }

  module _ (marks next : List Mark) (h : StandsFor before marks) (u : was_released n marks ≡ false) (g : Grows n marks next) (members : d.heard.members ≡ before.members) where
    settled : (release : Option Entry) (after : Core) → IsLeft d release next → Moves mid n (if is_some release then None else instance_at mid n) (is_some release) after → StandsFor after next
    settled None after left m =
        let unreleased : was_released n next ≡ false = subst (λ k. was_released k next ≡ false) number left.unreleased in
        let whole = moves (instance_at mid n) false after m in
        let stands = moved votes proposals n marks next g before after h u (instance_at mid n) false whole (whole.unnoted n (λ t. absurd cc) ∙ h.released n ∙ u ∙ sym unreleased) in
        let of = members ∙ sym whole.members in
        let here = subst (λ k. (instance_at mid k ≡ Some d) ⊎ ((instance_at mid k ≡ None) × (d ≡ fresh d.heard.members k))) number kept.here in
        elim here as (λ _. StandsFor after next) [
          | inl e ↦ stands (rw e (number, left))
          | inr e ↦ stands (rw e.0 (λ _. subst (λ c. InstanceStands (fresh c n) next) of (subst (λ (x : Instance). InstanceStands x next) e.1 left)))
        ]
    settled (Some t) after left m =
        let released : was_released n next ≡ true = subst (λ k. was_released k next ≡ true) number left in
        moved votes proposals n marks next g before after h u None true (moves None true after m) (m.noted refl ∙ sym released) (λ f. let bad : true ≡ false = sym released ∙ f in absurd cc)

  pub settles : (row : Row) (marks : List Mark) (t : said.Turn) (x : Turn) → StandsFor before marks → was_released n marks ≡ false → Grows n marks t.marks → d.heard.members ≡ before.members → Answers row t x d → Settles n row t x mid
  settles row marks t x h u g members a = record {
    is_turn = a.is_turn;
    settled = λ after m. settled marks t.marks h u g members x.release after a.left m;
  }

-- a turn that takes nothing in leaves a core as it was
pub settles_alone : (v : Core) (n : ℕ) (row : Row) (marks : List Mark) (t : said.Turn) (x : Turn) → StandsFor v marks → IsTurnAlone row marks t x → Settles n row t x v
settles_alone v n row marks t x h a = record {
  is_turn = a.is_turn;
  settled = λ after m. stays after (subst (λ (o : Option Entry). Moves v n (if is_some o then None else instance_at v n) (is_some o) after) a.releases_nothing m);
}
  where
    same_at : (after : Core) → Moves v n (instance_at v n) false after → (k : ℕ) (b : Bool) → (n == k) ≡ b → instance_at after k ≡ instance_at v k
    same_at after m k true e = let is : n ≡ k = eqb-true n k e in subst (λ j. instance_at after j ≡ instance_at v j) is m.here
    same_at after m k false e = m.others k (λ f. (let y : (n == k) ≡ true = eq-eqb n k (sym f) in let bad : true ≡ false = sym y ∙ e in cc))

    stays : (after : Core) → Moves v n (instance_at v n) false after → StandsFor after t.marks
    stays after m =
        subst (StandsFor after) (sym a.takes_nothing) (record {
          unfailed = m.failed ∙ h.unfailed;
          released = λ k. m.unnoted k (λ e. absurd cc) ∙ h.released k;
          in_hand = λ k. (let same : instance_at after k ≡ instance_at v k = same_at after m k (n == k) refl in let of : after.members ≡ v.members = m.members in rw (same, of) (h.in_hand k));
        })

-- with nothing in hand no proposal is open
pub none_open_in_hand : (c n : ℕ) (marks : List Mark) → InHandStands c n None marks → open_proposal n marks ≡ None
none_open_in_hand c n marks h = go (was_released n marks) refl
  where
    go : (t : Bool) → was_released n marks ≡ t → open_proposal n marks ≡ None
    go true e = rw e refl
    go false e = (h e).proposal

pub none_in_hand : (c n : ℕ) (marks : List Mark) → InHandStands c n None marks → None ≡ open_ballot n marks
none_in_hand c n marks h = let e : open_proposal n marks ≡ None = none_open_in_hand c n marks h in rw e refl
