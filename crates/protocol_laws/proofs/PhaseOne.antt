-- From a ballot that is begun to an entry that is proposed at it, and on: each member of the majority gets the Prepare and promises, and the proposer gets the Promise.
use Rattle.std.proofs.Common.{◌≡◌, ℕ, ◌*◌, ◌<◌, ◌≤◌, ◌⊎◌, inl, inr, refl, sym, ap, subst, ◌∙◌, arith, List, [], ◌∷◌, Option, Some, None, Bool, true, false}
use Rattle.std.specs.Prelude.{◌==◌, count_by, filter_map}
use Rattle.std.proofs.lemmas.Bool.{eqb-true, eq-eqb, le-ltb}
use Rattle.protocol.specs.Limits.{is_number}
use Rattle.protocol.specs.Lists.{IsAmong}
use Rattle.protocol.specs.Ballots.{Ballot, IsBelow, IsAtMost, last_round, IsMember, members, is_majority, is_same, Majority}
use Rattle.protocol.specs.Entries.{Entry}
use Rattle.protocol.specs.Rows.{Vote, vote_for, Row, raised, voted}
use Rattle.protocol.specs.Versions.{Version}
use Rattle.protocol.specs.Packets.{Packet, Prepare, Promise}
use Rattle.protocol.specs.Acceptor.{is_at, vote_is_at}
use Rattle.protocol.specs.Marks.{Mark, Promised, Proposed, Heard}
use Rattle.protocol.specs.Proposals.{was_released, since_began, gathering_at, Opening, Counted, promise_of, counted, is_counted, pick}
use Rattle.protocol.specs.Turn.{Turn, packet_to, proposal_to_others, propose, hear, packet_turn}
use Rattle.protocol.specs.Refusals.{names_stranger}
use Rattle.protocol.specs.Circuit.{Circuit, Datagram, Offer, State, Carries, seat_at, History}
use Rattle.protocol.specs.Fitting.{SpellsWhatFits}
use Rattle.protocol.specs.Progress.{round_of, IsBallotOf, BodyMaySay, MaySay, SpellsWhatMayBeSaid}
use Rattle.protocol_laws.proofs.Order.{irrefl}
use Rattle.protocol_laws.proofs.Majorities.{among_members, shared}
use Rattle.protocol.specs.Readings.{IsCounted, Picks, the_reported, the_own}
use Rattle.protocol_laws.proofs.Reading.{is_same-self, majority_of, no_majority_of, pick_is}
use Rattle.protocol_laws.proofs.Steps.{history_sound}
use Rattle.protocol_laws.proofs.OneStep.{Told, Stepped, Serves, still, Reaches, receive}
use Rattle.protocol_laws.proofs.Replying.{promises, counts, completes, picks, with_promise, unrefused, member_among, yes_no, apart, turned, packet_says, proposal_says}
use Rattle.protocol_laws.proofs.Voters.{was_held, voter_is_member}
use Rattle.protocol_laws.proofs.SavedBallots.{vote_rises}
use Rattle.protocol_laws.proofs.Agreements.{votes_are_offered}
use Rattle.protocol_laws.proofs.PhaseTwo.{Free, all_vote}
use Rattle.protocol_laws.proofs.PhaseTwo as phase_two

-- a member's own vote names no stranger
pub names_none : {D G F : Type 0} {z : Circuit D G F} {w : State G F} (h : History z w) (k n : ℕ) → names_stranger z.count (Promise (w.rows k n).vote) ≡ false
names_none {z = z} {w = w} h k n = go (w.rows k n).vote refl
  where
    go : (r : Option Vote) → (w.rows k n).vote ≡ r → names_stranger z.count (Promise r) ≡ false
    go None e = refl
    go (Some x) e =
        let i : IsMember z.count x.ballot.owner =
        voter_is_member z x.ballot.owner n x.ballot x.entry h ((history_sound h).sound.owned k n x.ballot x.entry (was_held h k n x.ballot x.entry e)) in
        le-ltb z.count x.ballot.owner i.1

-- a member's own vote may be reported, where it is below the ballot
pub report_says :
    {D G F : Type 0} {z : Circuit D G F} {n : ℕ} {entries : Entry → Type 0} {w : State G F} (h : Told z n entries w) (k m : ℕ) (b : Ballot) → b.owner ≡ m → b.round ≤ last_round
    → ((x : Vote) → (w.rows k n).vote ≡ Some x → IsBelow x.ballot b) → BodyMaySay z.count entries b k m (Promise (w.rows k n).vote)
report_says {z = z} {n = n} {entries = entries} {w = w} h k m b owner high under = go (w.rows k n).vote refl
  where
    not_above : (a b : Ballot) → IsBelow a b → b.round ≤ last_round → a.round ≤ last_round
    not_above a b l i = grind arith

    go : (r : Option Vote) → (w.rows k n).vote ≡ r → BodyMaySay z.count entries b k m (Promise r)
    go None e = owner
    go (Some x) e = (
      owner,
      record {
        round_low = vote_rises z h.history k n x e;
        round_high = not_above x.ballot b (under x e) high;
        owner =
            voter_is_member z x.ballot.owner n x.ballot x.entry h.history
            ((history_sound h.history).sound.owned k n x.ballot x.entry (was_held h.history k n x.ballot x.entry e));
      },
      under x e,
      h.offered x.entry (votes_are_offered z w h.history k n x.ballot x.entry (was_held h.history k n x.ballot x.entry e)),
    )

-- a row that is below b: it is not promised to b, and its vote is below
pub record Lower (b : Ballot) (row : Row) : Type 0 where
  pub unpromised : is_at row.promised b ≡ false
  pub under : (x : Vote) → row.vote ≡ Some x → IsBelow x.ballot b

-- a row that was promised to b may still vote at b
promised_free : (b : Ballot) (row : Row) → Free b row → Free b (raised row b)
promised_free b row f = record { unpromised = irrefl b; unvoted = f.unvoted }

-- who is counted with one promise more
module _ (n m k : ℕ) (b : Ballot) (report : Option Vote) (o : Opening) (at : o.ballot ≡ b) (since : List Mark) where
  more_counted :
      counted m n o (Promised n k b report ∷ since) ≡ record { member = m; report = o.report } ∷ record { member = k; report = report } ∷ filter_map
      (promise_of n o.ballot) since
  more_counted = let e : (n == n) ≡ true = eq-eqb n n refl in let f : is_same b o.ballot ≡ true = is_same-self b o.ballot (sym at) in rw (e, f) refl

  pub counted_now : is_counted (counted m n o (Promised n k b report ∷ since)) k ≡ true
  counted_now = subst (λ (l : List Counted). is_counted l k ≡ true) (sym more_counted) (go (m == k) refl)
    where
      go :
          (t : Bool) → (m == k) ≡ t
          → is_counted (record { member = m; report = o.report } ∷ record { member = k; report = report } ∷ filter_map (promise_of n o.ballot) since) k ≡ true
      go true e = rw e refl
      go false e = let f : (k == k) ≡ true = eq-eqb k k refl in rw (e, f) refl

  pub counted_still : (j : ℕ) → is_counted (counted m n o since) j ≡ true → is_counted (counted m n o (Promised n k b report ∷ since)) j ≡ true
  counted_still j t = subst (λ (l : List Counted). is_counted l j ≡ true) (sym more_counted) (go (m == j) (k == j) refl refl)
    where
      go :
          (x y : Bool) → (m == j) ≡ x → (k == j) ≡ y
          → is_counted (record { member = m; report = o.report } ∷ record { member = k; report = report } ∷ filter_map (promise_of n o.ballot) since) j ≡ true
      go true y e f = rw e refl
      go false true e f = rw (e, f) refl
      go false false e f = rw (e, f) (rw e at t)

  pub counted_else :
      (j : ℕ) → (k == j) ≡ false → is_counted (counted m n o since) j ≡ false → is_counted (counted m n o (Promised n k b report ∷ since)) j ≡ false
  counted_else j other t = subst (λ (l : List Counted). is_counted l j ≡ false) (sym more_counted) (go (m == j) refl)
    where
      go :
          (x : Bool) → (m == j) ≡ x
          → is_counted (record { member = m; report = o.report } ∷ record { member = k; report = report } ∷ filter_map (promise_of n o.ballot) since) j ≡ false
      go true e = let impossible : true ≡ false = rw e at t in cc
      go false e = rw (e, other) (rw e at t)

-- where the proposer has an own entry, or a majority has voted and each counted member of it has reported its vote, some entry is picked
pub finds :
    (c m n : ℕ) (b : Ballot) (o : Opening) (since : List Mark) (Voted : ℕ → Type 0) → o.ballot ≡ b → ((e : Entry) × (o.own ≡ Some e)) ⊎ Majority c Voted
    → is_majority c (is_counted (counted m n o since)) ≡ true
    → ((j : ℕ) → Voted j → is_counted (counted m n o since) j ≡ true → (u : Vote) × IsCounted m n b o.report since j (Some u))
    → (entry : Entry) × (pick o.own (counted m n o since) ≡ Some entry)
finds c m n b o since Voted at (inl (own, e)) many reported =
    let (entry, is) = picks own (counted m n o since) in (entry, ap (λ (x : Option Entry). pick x (counted m n o since)) e ∙ is)
finds c m n b o since Voted at (inr voted) many reported =
    let both = shared (majority_of c (is_counted (counted m n o since)) (λ j. is_counted (counted m n o since) j ≡ true) (λ j i t. t) many) voted in
    let r = reported both.0 both.3 both.2 in
    by (pick_is m n b o since at) r.0 both.0 r.1
  where
    by :
        Picks m n b o.own o.report since (pick o.own (counted m n o since)) → (u : Vote) (j : ℕ) → IsCounted m n b o.report since j (Some u)
        → (entry : Entry) × (pick o.own (counted m n o since) ≡ Some entry)
    by (the_reported k x i top is) u j h = (x.entry, is)
    by (the_own none is) u j h = absurd (none j u h)

module _
    {D G F : Type 0} (z : Circuit D G F) (fit : SpellsWhatFits z) (among again : ℕ → Bool) (v : Version) (m n : ℕ) (final : List Offer)
    (entries : Entry → Type 0) (speaks : SpellsWhatMayBeSaid z v entries) (limit : ℕ)
    (number : is_number n ≡ true) (b : Ballot) (at : IsBallotOf z.count b) (member : IsMember z.count m) (owner : b.owner ≡ m) (low : b.round ≤ limit)
    (many : z.count < 2 * count_by among (members z.count)) (in_it : among m ≡ true) (o : Opening) (at_b : o.ballot ≡ b)
    (Voted : ℕ → Type 0) (own_or_voted : ((e : Entry) × (o.own ≡ Some e)) ⊎ Majority z.count Voted) where
  abbrev Goal : State G F → Type 0
  Goal w = Reaches z among again v m n final limit w

  abbrev Leaves : ℕ → Row → List Mark → List Packet → State G F → State G F → Type 0
  Leaves k row marks out w after = Stepped z v n entries k row marks out w.offers w after

  -- whom the proposer has counted
  abbrev pub counts_in : State G F → ℕ → Bool
  counts_in w = is_counted (counted m n o (since_began n (w.marks m)))

  -- the proposer m gathers promises at b; each member of the set that it has not counted is promised below, and the Prepare for it was sent.
  -- Who voted before has a vote, or has reported one
  pub record Gathering (w : State G F) : Type 0 where
    pub known : Told z n entries w
    pub settled : w.offers ≡ final
    pub serves : Serves z among v n limit w
    pub unvoted : vote_is_at (w.rows m n).vote b ≡ false
    pub promised : is_at (w.rows m n).promised b ≡ true
    pub opens : gathering_at n b (w.marks m) ≡ Some o
    pub unreleased : was_released n (w.marks m) ≡ false
    pub heard_low : (j : ℕ) → IsMember z.count j → among j ≡ true → (a : Ballot) (u : Entry) → IsAmong (w.marks m) (Heard n j a u) → IsAtMost a b
    pub few : is_majority z.count (counts_in w) ≡ false
    pub free : (k : ℕ) → IsMember z.count k → among k ≡ true → (k == m) ≡ false → Free b (w.rows k n)
    pub lower : (k : ℕ) → IsMember z.count k → among k ≡ true → counts_in w k ≡ false → Lower b (w.rows k n)
    pub has_vote : (j : ℕ) → Voted j → counts_in w j ≡ false → (u : Vote) × ((w.rows j n).vote ≡ Some u)
    pub reported : (j : ℕ) → Voted j → counts_in w j ≡ true → (u : Vote) × IsCounted m n b o.report (since_began n (w.marks m)) j (Some u)
    pub asked : (k : ℕ) → IsMember z.count k → (k == m) ≡ false → (d : Datagram) × IsAmong w.sent d × Carries z v (packet_to (seat_at z m) n b Prepare k) d

  me_counted : (w : State G F) → counts_in w m ≡ true
  me_counted w = let e : (m == m) ≡ true = eq-eqb m m refl in rw e refl

  -- what is known after member k has promised
  record Answered (k : ℕ) (report : Option Vote) (w w1 : State G F) : Type 0 where
    known : Told z n entries w1
    settled : w1.offers ≡ final
    serves : Serves z among v n limit w1
    marks : w1.marks m ≡ w.marks m
    row : w1.rows m n ≡ w.rows m n
    raised_row : w1.rows k n ≡ raised (w.rows k n) b
    row_other : (j : ℕ) → (j == k) ≡ false → w1.rows j n ≡ w.rows j n
    sent : (d : Datagram) → IsAmong w.sent d → IsAmong w1.sent d
    answer : (d : Datagram) × IsAmong w1.sent d × Carries z v (packet_to (seat_at z k) n b (Promise report) m) d

  free_after :
      (k : ℕ) (report : Option Vote) (w w1 : State G F) → Gathering w → Answered k report w w1 → (j : ℕ) → IsMember z.count j → among j ≡ true
      → (j == m) ≡ false → Free b (w1.rows j n)
  free_after k report w w1 g a j i e other = go (j == k) refl
    where
      go : (t : Bool) → (j == k) ≡ t → Free b (w1.rows j n)
      go true f =
          let same : j ≡ k = eqb-true j k f in
          subst (λ (x : ℕ). Free b (w1.rows x n)) (sym same)
          (subst (λ (r : Row). Free b r) (sym a.raised_row) (promised_free b (w.rows k n) (subst (λ (x : ℕ). Free b (w.rows x n)) same (g.free j i e other))))
      go false f = subst (λ (r : Row). Free b r) (sym (a.row_other j f)) (g.free j i e other)

  -- the promise is counted
  counts_it :
      (w : State G F) → Gathering w → (k : ℕ) → IsMember z.count k → among k ≡ true → (k == m) ≡ false → counts_in w k ≡ false
      → (report : Option Vote) → names_stranger z.count (Promise report) ≡ false → (Voted k → (u : Vote) × (report ≡ Some u)) → (w1 : State G F)
      → Answered k report w w1
      → ((after : State G F) → Gathering after → counts_in after k ≡ true → ((j : ℕ) → counts_in w j ≡ true → counts_in after j ≡ true) → Goal after)
      → Goal w1
  counts_it w g k i e other uncounted report known reports w1 a rest =
      go (is_majority z.count (is_counted (with_promise (seat_at z m) (w1.marks m) q report o))) refl
    where
      q : Packet
      q = packet_to (seat_at z k) n b (Promise report) m

      -- each counted member that voted before has reported a vote
      reported :
          (j : ℕ) → Voted j → is_counted (counted m n o (Promised n k b report ∷ since_began n (w.marks m))) j ≡ true
          → (u : Vote) × IsCounted m n b o.report (Promised n k b report ∷ since_began n (w.marks m)) j (Some u)
      reported j voted t = go (k == j) refl (counts_in w j) refl
        where
          keep :
              (u : Vote) → IsCounted m n b o.report (since_began n (w.marks m)) j (Some u)
              → IsCounted m n b o.report (Promised n k b report ∷ since_began n (w.marks m)) j (Some u)
          keep u (inl x) = inl x
          keep u (inr x) = inr (inr x)

          go :
              (x : Bool) → (k == j) ≡ x → (y : Bool) → counts_in w j ≡ y
              → (u : Vote) × IsCounted m n b o.report (Promised n k b report ∷ since_began n (w.marks m)) j (Some u)
          go x f true h = let r = g.reported j voted h in (r.0, keep r.0 r.1)
          go true f false h =
              let same : k ≡ j = eqb-true k j f in
              let r = reports (subst (λ (x : ℕ). Voted x) (sym same) voted) in
              (r.0, inr (inl (ap (λ (x : ℕ). Promised n x b (Some r.0)) (sym same) ∙ ap (λ (x : Option Vote). Promised n k b x) (sym r.1))))
          go false f false h =
              absurd (yes_no (is_counted (counted m n o (Promised n k b report ∷ since_began n (w.marks m))) j) (counted_else n m k b report o at_b (since_began n (w.marks m)) j f h) t)

      promised : is_at (w1.rows m n).promised b ≡ true
      promised = subst (λ (r : Row). is_at r.promised b ≡ true) (sym a.row) g.promised

      opens : gathering_at n b (w1.marks m) ≡ Some o
      opens = subst (λ (l : List Mark). gathering_at n b l ≡ Some o) (sym a.marks) g.opens

      not_yet : is_counted (counted m n o (since_began n (w1.marks m))) k ≡ false
      not_yet = subst (λ (l : List Mark). is_counted (counted m n o (since_began n l)) k ≡ false) (sym a.marks) uncounted

      delivers : (t : Turn) → packet_turn (seat_at z m) 0 (w1.marks m) (w1.rows m n) q (Promise report) ≡ t → round_of t.row.promised ≤ limit
          → (((u : Vote) → t.row.vote ≡ Some u → ¬ (t.row ≡ w1.rows m n) → entries u.entry) → (x : Packet) → IsAmong t.out x → MaySay z entries x)
          → ((after : State G F) → Leaves m t.row t.marks t.out w1 after → (m ≡ m → t.release ≡ None) → Goal after) → Goal w1
      delivers t is under says on =
          let (d, sent, c) = a.answer in
          receive z fit among again v m n final entries speaks limit w1 a.known a.serves m q d t member in_it sent c refl refl
          (unrefused z.number z.count k m n b (Promise report) i.1 at.owner.1 known) is under a.settled says on

      changes : (entry : Entry) → ¬ (voted b entry ≡ w1.rows m n)
      changes entry e =
          yes_no (vote_is_at (w1.rows m n).vote b) (subst (λ (r : Row). vote_is_at r.vote b ≡ false) (sym a.row) g.unvoted)
          (subst (λ (r : Row). vote_is_at r.vote b ≡ true) e (is_same-self b b refl))

      goes_on_so :
          is_majority z.count (is_counted (with_promise (seat_at z m) (w1.marks m) q report o)) ≡ false → (after : State G F)
          → Leaves m (w1.rows m n) (Promised n k b report ∷ w1.marks m) [] w1 after → Goal after
      goes_on_so few after st =
          let marks : after.marks m ≡ Promised n k b report ∷ w.marks m = st.marks_are ∙ ap (λ (l : List Mark). Promised n k b report ∷ l) a.marks in
          let more : (j : ℕ) → counts_in w j ≡ true → counts_in after j ≡ true =
          λ j t. subst (λ (l : List Mark). is_counted (counted m n o (since_began n l)) j ≡ true) (sym marks) (counted_still n m k b report o at_b (since_began n (w.marks m)) j t) in
          let now : counts_in after k ≡ true =
          subst (λ (l : List Mark). is_counted (counted m n o (since_began n l)) k ≡ true) (sym marks)
          (counted_now n m k b report o at_b (since_began n (w.marks m))) in
          rest after
          (record {
            known = st.told;
            settled = st.offers_are ∙ a.settled;
            serves = still st a.serves (a.serves.rounds m member in_it);
            unvoted = subst (λ (r : Row). vote_is_at r.vote b ≡ false) (sym (st.row_is ∙ a.row)) g.unvoted;
            promised = subst (λ (r : Row). is_at r.promised b ≡ true) (sym st.row_is) promised;
            opens = subst (λ (l : List Mark). gathering_at n b l ≡ Some o) (sym marks) g.opens;
            unreleased = subst (λ (l : List Mark). was_released n l ≡ false) (sym marks) g.unreleased;
            heard_low = λ j i' e' x u h. heard_low j i' e' x u (subst (λ (l : List Mark). IsAmong l (Heard n j x u)) marks h);
            few = subst (λ (l : List Mark). is_majority z.count (is_counted (counted m n o (since_began n l))) ≡ false) (sym st.marks_are) few;
            free = λ j i' e' off. subst (λ (r : Row). Free b r) (sym (st.row_other j off)) (free_after k report w w1 g a j i' e' off);
            lower = λ j i' e' t.
                let off : (j == m) ≡ false =
                apart j m (λ f. yes_no (counts_in after j) t (subst (λ (x : ℕ). counts_in after x ≡ true) (sym f) (me_counted after))) in
                let far : (j == k) ≡ false = apart j k (λ f. yes_no (counts_in after j) t (subst (λ (x : ℕ). counts_in after x ≡ true) (sym f) now)) in
                subst (λ (r : Row). Lower b r) (sym (st.row_other j off ∙ a.row_other j far)) (g.lower j i' e' (before j after more t));
            has_vote = λ j voted t.
                let off : (j == m) ≡ false =
                apart j m (λ f. yes_no (counts_in after j) t (subst (λ (x : ℕ). counts_in after x ≡ true) (sym f) (me_counted after))) in
                let far : (j == k) ≡ false = apart j k (λ f. yes_no (counts_in after j) t (subst (λ (x : ℕ). counts_in after x ≡ true) (sym f) now)) in
                subst (λ (r : Row). (u : Vote) × (r.vote ≡ Some u)) (sym (st.row_other j off ∙ a.row_other j far)) (g.has_vote j voted (before j after more t));
            reported = λ j voted t.
                subst (λ (l : List Mark). (u : Vote) × IsCounted m n b o.report (since_began n l) j (Some u)) (sym marks)
                (reported j voted (subst (λ (l : List Mark). is_counted (counted m n o (since_began n l)) j ≡ true) marks t));
            asked = λ j i' off. let (d, s, c) = g.asked j i' off in (d, st.sent d (a.sent d s), c);
          })
          now more
        where
          heard_low :
              (j : ℕ) → IsMember z.count j → among j ≡ true → (x : Ballot) (u : Entry) → IsAmong (Promised n k b report ∷ w.marks m) (Heard n j x u)
              → IsAtMost x b
          heard_low j i' e' x u (inl f) = cc
          heard_low j i' e' x u (inr h) = g.heard_low j i' e' x u h

          before : (j : ℕ) (after : State G F) → ((j : ℕ) → counts_in w j ≡ true → counts_in after j ≡ true) → counts_in after j ≡ false → counts_in w j ≡ false
          before j after more t = go (counts_in w j) refl
            where
              go : (s : Bool) → counts_in w j ≡ s → counts_in w j ≡ false
              go true f = absurd (yes_no (counts_in after j) t (more j f))
              go false f = f

      proposes_so :
          (entry : Entry) (after : State G F)
          → Leaves m (voted b entry) (hear z.count n m b entry (Proposed n b 0 ∷ Promised n k b report ∷ w1.marks m)).marks (proposal_to_others (seat_at z m) n b entry) w1 after
          → (hear z.count n m b entry (Proposed n b 0 ∷ Promised n k b report ∷ w1.marks m)).release ≡ None → entries entry → Goal after
      proposes_so entry after st none said =
          let g2 = phase_two.proposed z fit among again v m n final entries speaks limit number b at member owner low 0 entry (Promised n k b report ∷ w1.marks m) w1 after w1.offers said a.settled a.serves st none in_it
          (subst (λ (l : List Mark). was_released n l ≡ false) (sym a.marks) g.unreleased) heard_low (free_after k report w w1 g a) in
          all_vote z fit among again v m n final entries speaks limit number b at member owner low many in_it entry (members z.count) after g2
          (λ j h. among_members z.count j h) (λ j i' e'. inr (member_among z.count j i'))
        where
          heard_low :
              (j : ℕ) → IsMember z.count j → among j ≡ true → (x : Ballot) (u : Entry) → IsAmong (Promised n k b report ∷ w1.marks m) (Heard n j x u)
              → IsAtMost x b
          heard_low j i' e' x u (inl f) = cc
          heard_low j i' e' x u (inr h) = g.heard_low j i' e' x u (subst (λ (l : List Mark). IsAmong l (Heard n j x u)) a.marks h)

      go : (t : Bool) → is_majority z.count (is_counted (with_promise (seat_at z m) (w1.marks m) q report o)) ≡ t → Goal w1
      go false t =
          delivers _ (counts (seat_at z m) (w1.marks m) (w1.rows m n) q report o opens promised not_yet t) (a.serves.rounds m member in_it)
          (λ voted x j. absurd j) (λ after st none. goes_on_so t after st)
      go true t =
          let all : List Counted = with_promise (seat_at z m) (w1.marks m) q report o in
          let at_w : all ≡ counted m n o (Promised n k b report ∷ since_began n (w.marks m)) =
          ap (λ (l : List Mark). with_promise (seat_at z m) l q report o) a.marks in
          let (entry, picked) =
          finds z.count m n b o (Promised n k b report ∷ since_began n (w.marks m)) Voted at_b own_or_voted
          (subst (λ (l : List Counted). is_majority z.count (is_counted l) ≡ true) at_w t) reported in
          let is : packet_turn (seat_at z m) 0 (w1.marks m) (w1.rows m n) q (Promise report)
          ≡ propose (seat_at z m) n b 0 (Promised n k b report ∷ w1.marks m) (w1.rows m n) (Some entry) =
          completes (seat_at z m) (w1.marks m) (w1.rows m n) q report o opens promised not_yet t
          ∙ ap (λ (x : Option Entry). propose (seat_at z m) n b 0 (Promised n k b report ∷ w1.marks m) (w1.rows m n) x) (ap (λ (l : List Counted). pick o.own l) at_w ∙ picked) in
          delivers _ is low
          (λ votes x j. proposal_says z entries m n b member number at owner entry (votes (vote_for b entry) refl (changes entry)) x j)
          (λ after st none. proposes_so entry after st (none refl) (st.told.offered entry (votes_are_offered z after st.told.history m n b entry (was_held st.told.history m n b entry (ap (λ (r : Row). r.vote) st.row_is)))))

  -- one member more promises, and is counted
  one_promises :
      (w : State G F) → Gathering w → (k : ℕ) → IsMember z.count k → among k ≡ true → counts_in w k ≡ false
      → ((after : State G F) → Gathering after → counts_in after k ≡ true → ((j : ℕ) → counts_in w j ≡ true → counts_in after j ≡ true) → Goal after)
      → Goal w
  one_promises w g k i e uncounted rest =
      let other : (k == m) ≡ false = apart k m (λ f. yes_no (counts_in w k) uncounted (subst (λ (j : ℕ). counts_in w j ≡ true) (sym f) (me_counted w))) in
      let back : (m == k) ≡ false = turned k m other in
      let p : Packet = packet_to (seat_at z m) n b Prepare k in
      let (d, sent, c) = g.asked k i other in
      receive z fit among again v m n final entries speaks limit w g.known g.serves k p d _ i e sent c refl refl
      (unrefused z.number z.count m k n b Prepare member.1 at.owner.1 refl)
      (promises (seat_at z k) (w.marks k) (w.rows k n) p (g.free k i e other).unpromised (g.lower k i e uncounted).unpromised)
      low g.settled
      (λ votes x j. elim j [
        | inl same ↦ subst (λ (q : Packet). MaySay z entries q) (sym same) (packet_says z entries k m n b (Promise (w.rows k n).vote) i member back number at (report_says g.known k m b owner at.round_high (g.lower k i e uncounted).under))
        | inr none ↦ absurd none
      ])
      (λ w1 st none. counts_it w g k i e other uncounted (w.rows k n).vote (names_none g.known.history k n) (λ x. g.has_vote k x uncounted) w1
      (record {
        known = st.told;
        settled = st.offers_are ∙ g.settled;
        serves = still st g.serves low;
        marks = st.marks_other m back;
        row = st.row_other m back;
        raised_row = st.row_is;
        row_other = st.row_other;
        sent = st.sent;
        answer = st.went (packet_to (seat_at z k) n b (Promise (w.rows k n).vote) m) (inl refl);
      })
      rest)

  -- all of them promise
  pub all_promise :
      (rest : List ℕ) (w : State G F) → Gathering w → ((k : ℕ) → IsAmong rest k → IsMember z.count k)
      → ((k : ℕ) → IsMember z.count k → among k ≡ true → (counts_in w k ≡ true) ⊎ IsAmong rest k) → Goal w
  all_promise [] w g inside left =
      absurd (no_majority_of z.count (counts_in w) (λ k. counts_in w k ≡ true) (λ k i t. t) g.few
      (record { has = among; many = many; each = λ k i e. elim (left k i e) [ inl t ↦ t | inr none ↦ absurd none ] }))
  all_promise (k ∷ rest) w g inside left = go (among k) refl (counts_in w k) refl (λ after x y. all_promise rest after x (λ j i. inside j (inr i)) y)
    where
      go : (s : Bool) → among k ≡ s → (t : Bool) → counts_in w k ≡ t
          → ((after : State G F) → Gathering after → ((j : ℕ) → IsMember z.count j → among j ≡ true → (counts_in after j ≡ true) ⊎ IsAmong rest j) → Goal after)
          → Goal w
      go false e t f on =
          on w g
          (λ j i x. elim (left j i x) [ inl y ↦ inl y | inr y ↦ elim y [ inl same ↦ absurd (yes_no (among k) e (subst (λ (q : ℕ). among q ≡ true) same x)) | inr h ↦ inr h ] ])
      go true e true f on =
          on w g
          (λ j i x. elim (left j i x) [ inl y ↦ inl y | inr y ↦ elim y [ inl same ↦ inl (subst (λ (q : ℕ). counts_in w q ≡ true) (sym same) f) | inr h ↦ inr h ] ])
      go true e false f on =
          one_promises w g k (inside k (inl refl)) e f
          (λ after x now more. on after x (λ j i y. elim (left j i y) [ inl t ↦ inl (more j t) | inr t ↦ elim t [ inl same ↦ inl (subst (λ (q : ℕ). counts_in after q ≡ true) (sym same) now) | inr h ↦ inr h ] ]))
