-- From an entry that is proposed to its release: each member of the majority gets the Accept and votes, and the proposer gets the news.
use Rattle.std.proofs.Common.{◌≡◌, ℕ, ◌*◌, ◌<◌, ◌≤◌, ◌⊎◌, inl, inr, refl, sym, ap, subst, ◌∙◌, List, [], ◌∷◌, Option, Some, None, Bool, true, false}
use Rattle.std.specs.Prelude.{◌==◌, count_by, filter_map}
use Rattle.std.proofs.lemmas.Bool.{eq-eqb}
use Rattle.protocol.specs.Limits.{is_number}
use Rattle.protocol.specs.Lists.{IsAmong}
use Rattle.protocol.specs.Ballots.{Ballot, IsAtMost, IsMember, members, is_majority, is_below}
use Rattle.protocol.specs.Entries.{Entry}
use Rattle.protocol.specs.Rows.{Vote, vote_for, Row, voted}
use Rattle.protocol.specs.Versions.{Version}
use Rattle.protocol.specs.Packets.{Packet, Accept, Accepted}
use Rattle.protocol.specs.Acceptor.{is_above, vote_is_at}
use Rattle.protocol.specs.Marks.{Mark, Proposed, Heard}
use Rattle.protocol.specs.Proposals.{was_released}
use Rattle.protocol.specs.Learner.{vote_of, latest, votes_at, ripe}
use Rattle.protocol.specs.Turn.{packet_to, to_others, proposal_to_others, hear}
use Rattle.protocol.specs.Circuit.{Circuit, Datagram, Offer, State, Carries, seat_at}
use Rattle.protocol.specs.Fitting.{SpellsWhatFits}
use Rattle.protocol.specs.Progress.{IsBallotOf, SpellsWhatMayBeSaid}
use Rattle.protocol_laws.proofs.Below.{at_most_refl, at_most_otherwise, both_at_most}
use Rattle.protocol_laws.proofs.Places.{among_left, among_split}
use Rattle.protocol_laws.proofs.Looking.{filter_map_among, among_filter_map, IsTop, greatest_top, greatest_none}
use Rattle.protocol_laws.proofs.Reading.{is_same-self, is_same-true, below-is, vote_speaks, vote_order, no_majority_of, NoMember, FoundAs, found_member, stands_at, at_ballot, is_ripe}
use Rattle.protocol_laws.proofs.OneStep.{Told, Stepped, Serves, still, Reaches, receive}
use Rattle.protocol_laws.proofs.Replying.{votes, waits, goes_to, unrefused, yes_no, apart, turned, others_say}

-- a row that may vote at b: it is not promised above, and has no vote there
pub record Free (b : Ballot) (row : Row) : Type 0 where
  pub unpromised : is_above row.promised b ≡ false
  pub unvoted : vote_is_at row.vote b ≡ false

-- where no vote of a member that was heard is above b, one that was heard at b is read there
pub heard_tests :
    (n k : ℕ) (b : Ballot) (u : Entry) (marks : List Mark) → ((a : Ballot) (t : Entry) → IsAmong marks (Heard n k a t) → IsAtMost a b)
    → IsAmong marks (Heard n k b u) → votes_at b (latest n marks k) ≡ true
heard_tests n k b u marks only i = go (latest n marks k) refl
  where
    found : IsAmong (filter_map (vote_of n k) marks) (vote_for b u)
    found =
        filter_map_among (vote_of n k) marks (Heard n k b u) (vote_for b u) i
        (let e : (n == n) ≡ true = eq-eqb n n refl in let f : (k == k) ≡ true = eq-eqb k k refl in rw (e, f) refl)

    go : (r : Option Vote) → latest n marks k ≡ r → votes_at b (latest n marks k) ≡ true
    go None e = absurd (greatest_none (λ (v u : Vote). is_below u.ballot v.ballot) (filter_map (vote_of n k) marks) (vote_for b u) e found)
    go (Some x) e =
        let top : IsTop (λ (v u : Vote). is_below u.ballot v.ballot) (filter_map (vote_of n k) marks) x =
        greatest_top (λ (v u : Vote). is_below u.ballot v.ballot) vote_order (filter_map (vote_of n k) marks) x e in
        let (y, j, f) = among_filter_map (vote_of n k) marks x top.is_among in
        let low : IsAtMost x.ballot b = only x.ballot x.entry (subst (λ (q : Mark). IsAmong marks q) (vote_speaks n k y x f) j) in
        let high : IsAtMost b x.ballot = at_most_otherwise x.ballot b (λ l. top.none_above (vote_for b u) found (below-is x.ballot b l)) in
        rw e (is_same-self x.ballot b (both_at_most x.ballot b low high))

-- it stays so with one vote more
pub heard_more :
    (n k j : ℕ) (b : Ballot) (u : Entry) (marks : List Mark) → ((a : Ballot) (t : Entry) → IsAmong (Heard n k b u ∷ marks) (Heard n j a t) → IsAtMost a b)
    → votes_at b (latest n marks j) ≡ true → votes_at b (latest n (Heard n k b u ∷ marks) j) ≡ true
heard_more n k j b u marks only e =
    let l = at_ballot n j marks b e in
    heard_tests n j b l.0 (Heard n k b u ∷ marks) only (inr (among_split marks l.1.after l.1.before (Heard n j b l.0) l.1.heard))

module _
    {D G F : Type 0} (z : Circuit D G F) (fit : SpellsWhatFits z) (among again : ℕ → Bool) (v : Version) (m n : ℕ) (final : List Offer)
    (entries : Entry → Type 0) (speaks : SpellsWhatMayBeSaid z v entries) (limit : ℕ)
    (number : is_number n ≡ true) (b : Ballot) (at : IsBallotOf z.count b) (member : IsMember z.count m) (owner : b.owner ≡ m) (low : b.round ≤ limit) where
  abbrev Goal : State G F → Type 0
  Goal w = Reaches z among again v m n final limit w

  abbrev Leaves : ℕ → Row → List Mark → List Packet → State G F → State G F → Type 0
  Leaves k row marks out w after = Stepped z v n entries k row marks out w.offers w after

  -- the proposer m has heard its own vote; each member of the set that it has not heard is free to vote, and the Accept for it was sent
  pub record Voting (entry : Entry) (w : State G F) : Type 0 where
    pub known : Told z n entries w
    pub settled : w.offers ≡ final
    pub said : entries entry
    pub serves : Serves z among v n limit w
    pub unreleased : was_released n (w.marks m) ≡ false
    pub only : (j : ℕ) → IsMember z.count j → among j ≡ true → (a : Ballot) (u : Entry) → IsAmong (w.marks m) (Heard n j a u) → IsAtMost a b
    pub unripe : ripe z.count n (w.marks m) ≡ None
    pub mine : votes_at b (latest n (w.marks m) m) ≡ true
    pub free : (k : ℕ) → IsMember z.count k → among k ≡ true → votes_at b (latest n (w.marks m) k) ≡ false → Free b (w.rows k n)
    pub told :
        (k : ℕ) → IsMember z.count k → (k == m) ≡ false
        → (d : Datagram) × IsAmong w.sent d × Carries z v (packet_to (seat_at z m) n b (Accept entry) k) d

  -- an entry is proposed
  pub proposed :
      (now : ℕ) (entry : Entry) (base : List Mark) (w after : State G F) (offers : List Offer) → entries entry → offers ≡ final → Serves z among v n limit w
      → Stepped z v n entries m (voted b entry) (hear z.count n m b entry (Proposed n b now ∷ base)).marks (proposal_to_others (seat_at z m) n b entry) offers w after
      → (hear z.count n m b entry (Proposed n b now ∷ base)).release ≡ None
      → among m ≡ true → was_released n base ≡ false
      → ((j : ℕ) → IsMember z.count j → among j ≡ true → (a : Ballot) (u : Entry) → IsAmong base (Heard n j a u) → IsAtMost a b)
      → ((k : ℕ) → IsMember z.count k → among k ≡ true → (k == m) ≡ false → Free b (w.rows k n))
      → Voting entry after
  proposed now entry base w after offers said settled serves st none in_it unreleased unheard free =
      let x = waits z.count n m b entry (Proposed n b now ∷ base) unreleased none in
      let marks : after.marks m ≡ Heard n m b entry ∷ Proposed n b now ∷ base = st.marks_are ∙ x.0 in
      record {
        known = st.told;
        settled = st.offers_are ∙ settled;
        said = said;
        serves = still st serves low;
        unreleased = subst (λ (l : List Mark). was_released n l ≡ false) (sym marks) unreleased;
        only = λ j i' e' a u i. only j i' e' a u (subst (λ (l : List Mark). IsAmong l (Heard n j a u)) marks i);
        unripe = subst (λ (l : List Mark). ripe z.count n l ≡ None) (sym marks) x.1;
        mine = subst (λ (l : List Mark). votes_at b (latest n l m) ≡ true) (sym marks) mine;
        free = λ k i e f.
            let other : (k == m) ≡ false =
            apart k m
            (λ g. yes_no (votes_at b (latest n (after.marks m) k)) f (subst (λ (j : ℕ). votes_at b (latest n (after.marks m) j) ≡ true) (sym g) (subst (λ (l : List Mark). votes_at b (latest n l m) ≡ true) (sym marks) mine))) in
            subst (λ (r : Row). Free b r) (sym (st.row_other k other)) (free k i e other);
        told = λ k i other.
            st.went (packet_to (seat_at z m) n b (Accept entry) k)
            (among_left (to_others (seat_at z m) n b (Accept entry)) (to_others (seat_at z m) n b (Accepted entry)) (packet_to (seat_at z m) n b (Accept entry) k) (goes_to (seat_at z m) n b (Accept entry) k i other));
      }
    where
      only :
          (j : ℕ) → IsMember z.count j → among j ≡ true → (a : Ballot) (u : Entry)
          → IsAmong (Heard n m b entry ∷ Proposed n b now ∷ base) (Heard n j a u) → IsAtMost a b
      only j i e a u (inl h) = let same : a ≡ b = cc in subst (λ (x : Ballot). IsAtMost x b) (sym same) (at_most_refl b)
      only j i e a u (inr (inl h)) = cc
      only j i e a u (inr (inr h)) = unheard j i e a u h

      mine : votes_at b (latest n (Heard n m b entry ∷ Proposed n b now ∷ base) m) ≡ true
      mine = heard_tests n m b entry (Heard n m b entry ∷ Proposed n b now ∷ base) (only m member in_it) (inl refl)

  -- not all votes of a majority were heard and none is ripe
  not_all :
      (many : z.count < 2 * count_by among (members z.count)) (entry : Entry) (w : State G F) → Voting entry w
      → ((k : ℕ) → IsMember z.count k → among k ≡ true → votes_at b (latest n (w.marks m) k) ≡ true) → ⊥
  not_all many entry w g all = by (latest n (w.marks m) m) refl
    where
      none : NoMember z.count (latest n (w.marks m)) (is_ripe z.count n (w.marks m))
      none =
          subst (FoundAs z.count (latest n (w.marks m)) (is_ripe z.count n (w.marks m))) g.unripe
          (found_member z.count (latest n (w.marks m)) (is_ripe z.count n (w.marks m)))

      majority : (t : Bool) → is_majority z.count (stands_at n (w.marks m) b) ≡ t → is_majority z.count (stands_at n (w.marks m) b) ≡ true
      majority true e = e
      majority false e =
          absurd (no_majority_of z.count (stands_at n (w.marks m) b) (λ k. stands_at n (w.marks m) b k ≡ true) (λ k i f. f) e (record { has = among; many = many; each = all }))

      by : (r : Option Vote) → latest n (w.marks m) m ≡ r → ⊥
      by None e = let no : false ≡ true = rw e at g.mine in cc
      by (Some x) e =
          let same : x.ballot ≡ b = is_same-true x.ballot b (rw e at g.mine) in
          none.no_one m x member e
          (subst (λ (a : Ballot). is_majority z.count (stands_at n (w.marks m) a) ≡ true) (sym same) (majority (is_majority z.count (stands_at n (w.marks m) b)) refl))

  -- one member more votes
  one_votes :
      (entry : Entry) (w : State G F) → Voting entry w → (k : ℕ) → IsMember z.count k → among k ≡ true → among m ≡ true → votes_at b (latest n (w.marks m) k) ≡ false
      → ((after : State G F) → Voting entry after → votes_at b (latest n (after.marks m) k) ≡ true
      → ((j : ℕ) → IsMember z.count j → among j ≡ true → votes_at b (latest n (w.marks m) j) ≡ true → votes_at b (latest n (after.marks m) j) ≡ true)
      → Goal after)
      → Goal w
  one_votes entry w g k i e in_it unheard rest =
      let other : (k == m) ≡ false =
      apart k m (λ f. yes_no (votes_at b (latest n (w.marks m) k)) unheard (subst (λ (j : ℕ). votes_at b (latest n (w.marks m) j) ≡ true) (sym f) g.mine)) in
      let p : Packet = packet_to (seat_at z m) n b (Accept entry) k in
      let (d, sent, c) = g.told k i other in
      let f = g.free k i e unheard in
      receive z fit among again v m n final entries speaks limit w g.known g.serves k p d _ i e sent c refl refl
      (unrefused z.number z.count m k n b (Accept entry) member.1 at.owner.1 refl)
      (votes (seat_at z k) (w.marks k) (w.rows k n) p entry f.unpromised f.unvoted)
      low g.settled
      (λ voted q j. others_say z entries k n b (Accepted entry) i number at (λ x. g.said) q j)
      (λ w1 st none. second other w1 st)
    where
      second :
          (k == m) ≡ false → (w1 : State G F)
          → Leaves k (voted b entry) (hear z.count n k b entry (w.marks k)).marks (to_others (seat_at z k) n b (Accepted entry)) w w1 → Goal w1
      second other w1 st =
          let back : (m == k) ≡ false = turned k m other in
          let q : Packet = packet_to (seat_at z k) n b (Accepted entry) m in
          let (d, sent, c) = st.went q (goes_to (seat_at z k) n b (Accepted entry) m member back) in
          let s1 = still st g.serves low in
          let same : w1.marks m ≡ w.marks m = st.marks_other m back in
          receive z fit among again v m n final entries speaks limit w1 st.told s1 m q d _ member in_it sent c refl refl
          (unrefused z.number z.count k m n b (Accepted entry) i.1 at.owner.1 refl)
          refl
          (s1.rounds m member in_it) (st.offers_are ∙ g.settled)
          (λ voted x j. absurd j)
          (λ w2 st2 none. third other w1 st same w2 st2 (none refl))
        where
          third :
              (k == m) ≡ false → (w1 : State G F)
              → Leaves k (voted b entry) (hear z.count n k b entry (w.marks k)).marks (to_others (seat_at z k) n b (Accepted entry)) w w1
              → w1.marks m ≡ w.marks m
              → (w2 : State G F) → Leaves m (w1.rows m n) (hear z.count n k b entry (w1.marks m)).marks [] w1 w2
              → (hear z.count n k b entry (w1.marks m)).release ≡ None → Goal w2
          third other w1 st same w2 st2 none =
              let x = waits z.count n k b entry (w1.marks m) (subst (λ (l : List Mark). was_released n l ≡ false) (sym same) g.unreleased) none in
              let marks : w2.marks m ≡ Heard n k b entry ∷ w.marks m = st2.marks_are ∙ x.0 ∙ ap (λ (l : List Mark). Heard n k b entry ∷ l) same in
              let more : (j : ℕ) → IsMember z.count j → among j ≡ true → votes_at b (latest n (w.marks m) j) ≡ true → votes_at b (latest n (w2.marks m) j) ≡ true =
              λ j i' e' t. subst (λ (l : List Mark). votes_at b (latest n l j) ≡ true) (sym marks) (heard_more n k j b entry (w.marks m) (only j i' e') t) in
              let now : votes_at b (latest n (w2.marks m) k) ≡ true =
              subst (λ (l : List Mark). votes_at b (latest n l k) ≡ true) (sym marks)
              (heard_tests n k b entry (Heard n k b entry ∷ w.marks m) (only k i e) (inl refl)) in
              rest w2
              (record {
                known = st2.told;
                settled = st2.offers_are ∙ st.offers_are ∙ g.settled;
                said = g.said;
                serves = still st2 (still st g.serves low) ((still st g.serves low).rounds m member in_it);
                unreleased = subst (λ (l : List Mark). was_released n l ≡ false) (sym marks) g.unreleased;
                only = λ j i' e' a u i. only j i' e' a u (subst (λ (l : List Mark). IsAmong l (Heard n j a u)) marks i);
                unripe = subst (λ (l : List Mark). ripe z.count n l ≡ None) (sym (st2.marks_are ∙ x.0)) x.1;
                mine = more m member in_it g.mine;
                free = λ j i' e' t. free w1 st w2 st2 more now j i' e' t;
                told = λ j i' t. let (d, s, c) = g.told j i' t in (d, st2.sent d (st.sent d s), c);
              })
              now more
            where
              only :
                  (j : ℕ) → IsMember z.count j → among j ≡ true → (a : Ballot) (u : Entry) → IsAmong (Heard n k b entry ∷ w.marks m) (Heard n j a u)
                  → IsAtMost a b
              only j i' e' a u (inl h) = let same : a ≡ b = cc in subst (λ (x : Ballot). IsAtMost x b) (sym same) (at_most_refl b)
              only j i' e' a u (inr h) = g.only j i' e' a u h

              free :
                  (w1 : State G F) → Leaves k (voted b entry) (hear z.count n k b entry (w.marks k)).marks (to_others (seat_at z k) n b (Accepted entry)) w w1
                  → (w2 : State G F) → Leaves m (w1.rows m n) (hear z.count n k b entry (w1.marks m)).marks [] w1 w2
                  → ((j : ℕ) → IsMember z.count j → among j ≡ true → votes_at b (latest n (w.marks m) j) ≡ true → votes_at b (latest n (w2.marks m) j) ≡ true)
                  → votes_at b (latest n (w2.marks m) k) ≡ true
                  → (j : ℕ) → IsMember z.count j → among j ≡ true → votes_at b (latest n (w2.marks m) j) ≡ false → Free b (w2.rows j n)
              free w1 st w2 st2 more now j i' e' t =
                  let far : (j == k) ≡ false =
                  apart j k
                  (λ f. yes_no (votes_at b (latest n (w2.marks m) j)) t (subst (λ (x : ℕ). votes_at b (latest n (w2.marks m) x) ≡ true) (sym f) now)) in
                  let off : (j == m) ≡ false =
                  apart j m
                  (λ f. yes_no (votes_at b (latest n (w2.marks m) j)) t (subst (λ (x : ℕ). votes_at b (latest n (w2.marks m) x) ≡ true) (sym f) (more m member in_it g.mine))) in
                  subst (λ (r : Row). Free b r) (sym (st2.row_other j off ∙ st.row_other j far))
                  (g.free j i' e' (go (votes_at b (latest n (w.marks m) j)) refl))
                where
                  go : (s : Bool) → votes_at b (latest n (w.marks m) j) ≡ s → votes_at b (latest n (w.marks m) j) ≡ false
                  go true f = absurd (yes_no (votes_at b (latest n (w2.marks m) j)) t (more j i' e' f))
                  go false f = f

  -- all of them vote
  pub all_vote :
      (many : z.count < 2 * count_by among (members z.count)) (in_it : among m ≡ true) (entry : Entry) (rest : List ℕ) (w : State G F) → Voting entry w
      → ((k : ℕ) → IsAmong rest k → IsMember z.count k)
      → ((k : ℕ) → IsMember z.count k → among k ≡ true → (votes_at b (latest n (w.marks m) k) ≡ true) ⊎ IsAmong rest k) → Goal w
  all_vote many in_it entry [] w g inside left = absurd (not_all many entry w g (λ k i e. elim (left k i e) [ inl t ↦ t | inr none ↦ absurd none ]))
  all_vote many in_it entry (k ∷ rest) w g inside left =
      go (among k) refl (votes_at b (latest n (w.marks m) k)) refl (λ after x y. all_vote many in_it entry rest after x (λ j i. inside j (inr i)) y)
    where
      go : (s : Bool) → among k ≡ s → (t : Bool) → votes_at b (latest n (w.marks m) k) ≡ t
          → ((after : State G F) → Voting entry after → ((j : ℕ) → IsMember z.count j → among j ≡ true → (votes_at b (latest n (after.marks m) j) ≡ true) ⊎ IsAmong rest j) → Goal after)
          → Goal w
      go false e t f on =
          on w g
          (λ j i x. elim (left j i x) [ inl y ↦ inl y | inr y ↦ elim y [ inl same ↦ absurd (yes_no (among k) e (subst (λ (q : ℕ). among q ≡ true) same x)) | inr z ↦ inr z ] ])
      go true e true f on =
          on w g
          (λ j i x. elim (left j i x) [ inl y ↦ inl y | inr y ↦ elim y [ inl same ↦ inl (subst (λ (q : ℕ). votes_at b (latest n (w.marks m) q) ≡ true) (sym same) f) | inr z ↦ inr z ] ])
      go true e false f on =
          one_votes entry w g k (inside k (inl refl)) e in_it f
          (λ after x now more. on after x (λ j i y. elim (left j i y) [ inl t ↦ inl (more j i y t) | inr t ↦ elim t [ inl same ↦ inl (subst (λ (q : ℕ). votes_at b (latest n (after.marks m) q) ≡ true) (sym same) now) | inr z ↦ inr z ] ]))
