-- From any state in which a majority can serve: those of it that are stopped start again; and from one in which no promise of theirs
-- is above that of a member that runs, to a ballot of this member, as it is offered an entry, or searches.
use Rattle.std.proofs.Common.{◌≡◌, ℕ, suc, ◌*◌, ◌<◌, ◌≤◌, ◌⊎◌, inl, inr, refl, sym, ap, subst, ◌∙◌, arith, List, [], ◌∷◌, ◌++◌, Option, Some, None, Bool, true, false}
use Rattle.std.specs.Prelude.{◌==◌, Ok, count_by}
use Rattle.std.proofs.lemmas.Bool.{eqb-true, eq-eqb}
use Rattle.protocol.specs.Limits.{is_number}
use Rattle.protocol.specs.Lists.{IsAmong}
use Rattle.protocol.specs.Ballots.{Ballot, IsAtMost, IsMember, Majority, members, is_majority, is_same, last_round, next}
use Rattle.protocol.specs.Entries.{Entry}
use Rattle.protocol.specs.Rows.{Vote, Row, raised, voted, vote_for}
use Rattle.protocol.specs.Versions.{Version, fits}
use Rattle.protocol.specs.Packets.{Prepare, Packet}
use Rattle.protocol.specs.Acceptor.{is_at, vote_is_at}
use Rattle.protocol.specs.Marks.{Mark, Began, Proposed, Heard}
use Rattle.protocol.specs.Readings.{IsCounted}
use Rattle.protocol.specs.Proposals.{was_released, open_proposal, since_began, gathering_at, Opening, counted, is_counted}
use Rattle.protocol.specs.Turn.{begin, Event, Offered, Sought, number_of, start_turn, Turn, Note_began, packet_to, to_others, proposal_to_others, propose, hear, turn}
use Rattle.protocol.specs.Refusals.{Call, Offering, Seeking, refusal, event_of}
use Rattle.protocol.specs.Circuit.{Circuit, Datagram, Offer, State, Step, IsTask, offers_with, Offers, Seeks, seat_at, setup_of}
use Rattle.protocol.specs.Fitting.{SpellsWhatFits}
use Rattle.protocol.specs.Progress.{IsBallotOf, MaySay, SpellsWhatMayBeSaid, round_of}
use Rattle.protocol_laws.proofs.Majorities.{among_members}
use Rattle.protocol_laws.proofs.Reading.{is_same-self, no_majority_of}
use Rattle.protocol_laws.proofs.Agreements.{votes_are_offered}
use Rattle.protocol_laws.proofs.OneStep.{Brings, Stepped, Serves, still, Reaches, take, restart, Told}
use Rattle.protocol_laws.proofs.Replying.{goes_to, member_among, yes_no, apart, others_say, proposal_says}
use Rattle.protocol_laws.proofs.PhaseTwo.{Free, all_vote}
use Rattle.protocol_laws.proofs.PhaseTwo as phase_two
use Rattle.protocol_laws.proofs.PhaseOne.{Lower, finds, all_promise}
use Rattle.protocol_laws.proofs.Voters.{was_held}
use Rattle.protocol_laws.proofs.Rounds.{few, next_is, above_none, not_at, vote_round, heard_round}

-- what the proposer is asked: it is offered an entry, or searches; and what offers there are then
pub record Asking {D G F : Type 0} (z : Circuit D G F) (v : Version) (m n : ℕ) (initial final : List Offer) (entries : Entry → Type 0) (own : Option Entry) : Type 0 where
  pub step : Step
  pub call : Call
  pub event : Event
  pub task : (sent : List Datagram) → IsTask sent step m call
  pub unrefused :
      (w : State G F) → w.is_stopped m ≡ false → was_released n (w.marks m) ≡ false → open_proposal n (w.marks m) ≡ None → w.version m ≡ v
      → refusal (setup_of z (w.version m) m) (w.is_stopped m) (w.marks m) call ≡ None
  pub brings_it : (u : Version) (marks : List Mark) → event_of (setup_of z u m) marks call ≡ Some event
  pub number : number_of event ≡ n
  pub turns : (marks : List Mark) (row : Row) → turn (seat_at z m) marks row event ≡ start_turn (seat_at z m) n own 0 marks row (next row.promised m)
  pub brings : Brings entries event
  pub settles : offers_with initial m event ≡ final

pub by_offer :
    {D G F : Type 0} (z : Circuit D G F) (v : Version) (m n : ℕ) (offers : List Offer) (entries : Entry → Type 0) (own : Entry) (slugs : G)
    → is_number n ≡ true → fits v own ≡ true → z.sets m own ≡ Ok slugs → entries own
    → Asking z v m n offers (offers ++ record { member = m; number = n; entry = own } ∷ []) entries (Some own)
by_offer z v m n offers entries own slugs number fit sets is_in = record {
  step = Offers m n own 0;
  call = Offering n own 0;
  event = Offered n own 0;
  task = λ sent. refl;
  unrefused = λ w going unreleased unopened version. rw (going, unopened, unreleased, number, version, fit, sets) refl;
  brings_it = λ u marks. refl;
  number = refl;
  turns = λ marks row. refl;
  brings = is_in;
  settles = refl;
}

pub by_search :
    {D G F : Type 0} (z : Circuit D G F) (v : Version) (m n : ℕ) (offers : List Offer) (entries : Entry → Type 0) → is_number n ≡ true → Asking z v m n offers offers entries None
by_search z v m n offers entries number = record {
  step = Seeks m n 0;
  call = Seeking n 0;
  event = Sought n 0;
  task = λ sent. refl;
  unrefused = λ w going unreleased unopened version. rw (going, unopened, unreleased, number) refl;
  brings_it = λ u marks. refl;
  number = refl;
  turns = λ marks row. refl;
  brings = tt;
  settles = refl;
}

-- the members of the set are at one version and unarmed, and no promise of theirs for n reaches the limit; they may be stopped
pub record Able {D G F : Type 0} (z : Circuit D G F) (among : ℕ → Bool) (v : Version) (n limit : ℕ) (w : State G F) : Type 0 where
  pub version : (k : ℕ) → IsMember z.count k → among k ≡ true → w.version k ≡ v
  pub unarmed : (k : ℕ) → IsMember z.count k → among k ≡ true → w.armed k ≡ None
  pub rounds : (k : ℕ) → IsMember z.count k → among k ≡ true → round_of (w.rows k n).promised < limit

module _
    {D G F : Type 0} (z : Circuit D G F) (fit : SpellsWhatFits z) (among again : ℕ → Bool) (v : Version) (m n : ℕ) (final : List Offer)
    (entries : Entry → Type 0) (speaks : SpellsWhatMayBeSaid z v entries) (limit : ℕ) (high : limit ≤ last_round)
    (number : is_number n ≡ true) (member : IsMember z.count m) (many : z.count < 2 * count_by among (members z.count)) (in_it : among m ≡ true)
    (initial : List Offer) (own : Option Entry) (asking : Asking z v m n initial final entries own)
    (Voted : ℕ → Type 0) (own_or_voted : ((e : Entry) × (own ≡ Some e)) ⊎ Majority z.count Voted) where
  abbrev Goal : State G F → Type 0
  Goal w = Reaches z among again v m n final limit w

  reach : {a : ℕ} → a ≤ limit → a ≤ last_round
  reach l = let h : limit ≤ last_round = high in omega arith

  under : {a r : ℕ} → r < limit → a ≤ r → a ≤ limit
  under l h = omega arith

  -- the proposer is one of the set, so there is a round
  pub some : (w : State G F) → Able z among v n limit w → 0 < limit
  some w able = let l : round_of (w.rows m n).promised < limit = able.rounds m member in_it in omega arith

  abbrev Leaves : ℕ → Row → List Mark → List Packet → State G F → State G F → Type 0
  Leaves k row marks out w after = Stepped z v n entries k row marks out w.offers w after

  abbrev Asked : Event → Row → List Mark → List Packet → State G F → State G F → Type 0
  Asked e row marks out w after = Stepped z v n entries m row marks out (offers_with w.offers m e) w after

  -- n is not released at the proposer m, and no promise of the set is of a round above r; who voted before has a vote
  pub record Set (r : ℕ) (w : State G F) : Type 0 where
    pub known : Told z n entries w
    pub serves : Serves z among v n limit w
    pub unreleased : was_released n (w.marks m) ≡ false
    pub has_vote : (j : ℕ) → Voted j → (u : Vote) × ((w.rows j n).vote ≡ Some u)
    pub rounds : (k : ℕ) → IsMember z.count k → among k ≡ true → round_of (w.rows k n).promised ≤ r

  -- nor is it open there, and it was not yet asked
  pub record Ready (r : ℕ) (w : State G F) : Type 0 where
    pub is_set : Set r w
    pub unopened : open_proposal n (w.marks m) ≡ None
    pub offers : w.offers ≡ initial

  -- a step by which m begins the ballot of round r + 1
  pub record Beginning (r : ℕ) (w : State G F) : Type 0 where
    pub step : Step
    pub call : Call
    pub event : Event
    pub now : ℕ
    pub task : IsTask w.sent step m call
    pub unrefused : refusal (setup_of z (w.version m) m) (w.is_stopped m) (w.marks m) call ≡ None
    pub brings_it : event_of (setup_of z (w.version m) m) (w.marks m) call ≡ Some event
    pub number_is : number_of event ≡ n
    pub turns :
        turn (seat_at z m) (w.marks m) (w.rows m n) event ≡ Some
        (begin (seat_at z m) n (record { round = suc r; owner = m }) own now (w.marks m) (w.rows m n))
    pub brings : Brings entries event
    pub settles : offers_with w.offers m event ≡ final

  -- as it is asked it begins the ballot above its own promise
  asked_begins : (r : ℕ) (w : State G F) → Ready r w → round_of (w.rows m n).promised ≡ r → r < limit → Beginning r w
  asked_begins r w g at_r below =
      let nexts : next (w.rows m n).promised m ≡ Some (record { round = suc r; owner = m }) = next_is m (w.rows m n).promised r at_r (reach below) in
      record {
        step = asking.step;
        call = asking.call;
        event = asking.event;
        now = 0;
        task = asking.task w.sent;
        unrefused = asking.unrefused w (g.is_set.serves.going m member in_it) g.is_set.unreleased g.unopened (g.is_set.serves.version m member in_it);
        brings_it = asking.brings_it (w.version m) (w.marks m);
        number_is = asking.number;
        turns = asking.turns (w.marks m) (w.rows m n) ∙ ap (λ (x : Option Ballot). start_turn (seat_at z m) n own 0 (w.marks m) (w.rows m n) x) nexts;
        brings = asking.brings;
        settles = ap (λ (l : List Offer). offers_with l m asking.event) g.offers ∙ asking.settles;
      }

  -- it begins that ballot, above all promises of the set
  pub goes_through : (r : ℕ) (w : State G F) → Set r w → Beginning r w → r < limit → Goal w
  goes_through r w g be below = go (z.count == 1) refl
    where
      b : Ballot
      b = record { round = suc r; owner = m }

      row : Row
      row = w.rows m n

      low : suc r ≤ limit
      low = omega arith

      at : IsBallotOf z.count b
      at = record { round_low = omega arith; round_high = reach low; owner = member }

      began : List Mark
      began = Began n b own row.vote be.now ∷ w.marks m

      free : (k : ℕ) → IsMember z.count k → among k ≡ true → Free b (w.rows k n)
      free k i e =
          let l = g.rounds k i e in
          record { unpromised = (above_none (w.rows k n).promised r m l).0; unvoted = not_at (w.rows k n).vote r m (λ x f. vote_round g.known.history k n r l x f) }

      changes : (entry : Entry) → ¬ (voted b entry ≡ row)
      changes entry e = yes_no (vote_is_at row.vote b) (free m member in_it).unvoted (subst (λ (x : Row). vote_is_at x.vote b ≡ true) e (is_same-self b b refl))

      heard_low : (j : ℕ) → IsMember z.count j → among j ≡ true → (a : Ballot) (u : Entry) → IsAmong began (Heard n j a u) → IsAtMost a b
      heard_low j i e a u (inl h) = cc
      heard_low j i e a u (inr h) = inl (less (heard_round g.known.history m n j r (g.rounds j i e) a u h))
        where
          less : {x : ℕ} → x ≤ r → x < suc r
          less l = omega arith

      o : Opening
      o = record { ballot = b; own = own; report = row.vote; now = be.now }

      ask : (t : Turn) → begin (seat_at z m) n b own be.now (w.marks m) (w.rows m n) ≡ t → round_of t.row.promised ≤ limit
          → (((u : Vote) → t.row.vote ≡ Some u → ¬ (t.row ≡ w.rows m n) → entries u.entry) → (p : Packet) → IsAmong t.out p → MaySay z entries p)
          → ((after : State G F) → Asked be.event t.row t.marks t.out w after → (m ≡ m → t.release ≡ None) → Goal after) → Goal w
      ask t is under says on =
          take z fit among again v m n final entries speaks limit w g.known g.serves be.step m be.call be.event t be.task member in_it be.unrefused be.brings_it be.number_is
          (be.turns ∙ ap Some is) under be.brings (λ u f. be.settles) says on

      -- the proposer that voted before reports its vote
      own_report : (since : List Mark) (j : ℕ) → Voted j → j ≡ m → (u : Vote) × IsCounted m n b o.report since j (Some u)
      own_report since j voted same =
          let x = g.has_vote m (subst (λ (k : ℕ). Voted k) same voted) in
          (x.0, inl (same, sym x.1))

      alone :
          (z.count == 1) ≡ true → (entry : Entry) (after : State G F)
          → Asked be.event (voted b entry) (hear z.count n m b entry (Proposed n b be.now ∷ began)).marks (proposal_to_others (seat_at z m) n b entry) w after
          → (hear z.count n m b entry (Proposed n b be.now ∷ began)).release ≡ None → entries entry → Goal after
      alone one entry after st none said =
          all_vote z fit among again v m n final entries speaks limit number b at member refl low many in_it entry (members z.count) after
          (phase_two.proposed z fit among again v m n final entries speaks limit number b at member refl low be.now entry began w after (offers_with w.offers m be.event) said be.settles g.serves st none in_it g.unreleased heard_low (λ k i e other. free k i e))
          (λ j h. among_members z.count j h) (λ j i' e'. inr (member_among z.count j i'))

      more : (z.count == 1) ≡ false → (after : State G F) → Asked be.event (raised row b) began (to_others (seat_at z m) n b Prepare) w after → Goal after
      more one after st =
          all_promise z fit among again v m n final entries speaks limit number b at member refl low many in_it o refl Voted own_or_voted
          (members z.count) after
          (record {
            known = st.told;
            settled = st.offers_are ∙ be.settles;
            serves = still st g.serves low;
            unvoted = subst (λ (x : Row). vote_is_at x.vote b ≡ false) (sym st.row_is) (free m member in_it).unvoted;
            promised = subst (λ (x : Row). is_at x.promised b ≡ true) (sym st.row_is) (is_same-self b b refl);
            opens = subst (λ (l : List Mark). gathering_at n b l ≡ Some o) (sym st.marks_are) opens;
            unreleased = subst (λ (l : List Mark). was_released n l ≡ false) (sym st.marks_are) g.unreleased;
            heard_low = λ j i e a u h. heard_low j i e a u (subst (λ (l : List Mark). IsAmong l (Heard n j a u)) st.marks_are h);
            few =
                subst (λ (l : List Mark). is_majority z.count (is_counted (counted m n o (since_began n l))) ≡ false) (sym st.marks_are)
                (few z.count m (is_counted (counted m n o (since_began n began))) some one only);
            free = λ k i e other. subst (λ (x : Row). Free b x) (sym (st.row_other k other)) (free k i e);
            lower = λ k i e t.
                subst (λ (x : Row). Lower b x) (sym (st.row_other k (far st k t)))
                (record { unpromised = (above_none (w.rows k n).promised r m (g.rounds k i e)).1; under = λ x f. inl (less x.ballot.round (vote_round g.known.history k n r (g.rounds k i e) x f)) });
            has_vote = λ j voted t. subst (λ (x : Row). (u : Vote) × (x.vote ≡ Some u)) (sym (st.row_other j (far st j t))) (g.has_vote j voted);
            reported = λ j voted t.
                own_report (since_began n (after.marks m)) j voted
                (only j (subst (λ (l : List Mark). is_counted (counted m n o (since_began n l)) j ≡ true) st.marks_are t));
            asked = λ k i other. st.went (packet_to (seat_at z m) n b Prepare k) (goes_to (seat_at z m) n b Prepare k i other);
          })
          (λ j h. among_members z.count j h) (λ j i' e'. inr (member_among z.count j i'))
        where
          less : (x : ℕ) → x ≤ r → x < suc r
          less x l = omega arith

          self : (n == n) ≡ true
          self = eq-eqb n n refl

          opens : gathering_at n b began ≡ Some o
          opens = let e : is_same b b ≡ true = is_same-self b b refl in rw (self, g.unreleased, e) refl

          some : 1 ≤ z.count
          some = let l : 1 ≤ m = member.0 in let h : m ≤ z.count = member.1 in omega arith

          only : (k : ℕ) → is_counted (counted m n o (since_began n began)) k ≡ true → k ≡ m
          only k e = go (m == k) refl
            where
              go : (t : Bool) → (m == k) ≡ t → k ≡ m
              go true f = sym (eqb-true m k f)
              go false f = let no : false ≡ true = rw f at (rw self at e) in cc

          me : (k : ℕ) → k ≡ m → is_counted (counted m n o (since_began n began)) k ≡ true
          me k e = let f : (m == k) ≡ true = eq-eqb m k (sym e) in rw (self, f) refl

          far :
              {after : State G F} → Asked be.event (raised row b) began (to_others (seat_at z m) n b Prepare) w after → (k : ℕ)
              → is_counted (counted m n o (since_began n (after.marks m))) k ≡ false → (k == m) ≡ false
          far {after = after} st k t =
              apart k m
              (λ f. yes_no (is_counted (counted m n o (since_began n (after.marks m))) k) t (subst (λ (l : List Mark). is_counted (counted m n o (since_began n l)) k ≡ true) (sym st.marks_are) (me k f)))

      counted_me : (j : ℕ) → is_counted (counted m n o []) j ≡ true → j ≡ m
      counted_me j e = go (m == j) refl
        where
          go : (t : Bool) → (m == j) ≡ t → j ≡ m
          go true f = sym (eqb-true m j f)
          go false f = let no : false ≡ true = rw f at e in cc

      -- of one member, itself is a majority
      all_counted : (z.count == 1) ≡ true → is_majority z.count (is_counted (counted m n o [])) ≡ true
      all_counted one = go (is_majority z.count (is_counted (counted m n o []))) refl
        where
          me : (k : ℕ) → k ≡ m → is_counted (counted m n o []) k ≡ true
          me k e = let f : (m == k) ≡ true = eq-eqb m k (sym e) in rw f refl

          only : (k : ℕ) → IsMember z.count k → k ≡ m
          only k i =
              let e : z.count ≡ 1 = eqb-true z.count 1 one in let a : 1 ≤ m = member.0 in let l : m ≤ z.count = member.1 in let c : 1 ≤ k = i.0 in let d : k ≤ z.count = i.1 in omega arith

          go : (t : Bool) → is_majority z.count (is_counted (counted m n o [])) ≡ t → is_majority z.count (is_counted (counted m n o [])) ≡ true
          go true e = e
          go false e =
              absurd (no_majority_of z.count (is_counted (counted m n o [])) (λ k. is_counted (counted m n o []) k ≡ true) (λ k i t. t) e (record { has = among; many = many; each = λ k i f. me k (only k i) }))

      go : (t : Bool) → (z.count == 1) ≡ t → Goal w
      go true one =
          let (entry, picked) = finds z.count m n b o [] Voted refl own_or_voted (all_counted one) (λ j voted t. own_report [] j voted (counted_me j t)) in
          ask (propose (seat_at z m) n b be.now began (raised row b) (Some entry)) (rw (one, picked) refl) low
          (λ votes p j. proposal_says z entries m n b member number at refl entry (votes (vote_for b entry) refl (changes entry)) p j)
          (λ after st none. alone one entry after st (none refl) (st.told.offered entry (votes_are_offered z after st.told.history m n b entry (was_held st.told.history m n b entry (ap (λ (x : Row). x.vote) st.row_is)))))
      go false one =
          ask (record { row = raised row b; marks = began; out = to_others (seat_at z m) n b Prepare; release = None; note = Note_began b }) (rw one refl) low
          (λ votes p j. others_say z entries m n b Prepare member number at (λ k. refl) p j)
          (λ after st none. more one after st)

  pub asks : (r : ℕ) (w : State G F) → Ready r w → round_of (w.rows m n).promised ≡ r → r < limit → Goal w
  asks r w g at_r below = goes_through r w g.is_set (asked_begins r w g at_r below) below

  -- the members of the set are being started again, those in the list still to come
  pub record Waking (r : ℕ) (rest : List ℕ) (w : State G F) : Type 0 where
    pub known : Told z n entries w
    pub offers : w.offers ≡ initial
    pub has_vote : (j : ℕ) → Voted j → (u : Vote) × ((w.rows j n).vote ≡ Some u)
    pub version : (k : ℕ) → IsMember z.count k → among k ≡ true → w.version k ≡ v
    pub unarmed : (k : ℕ) → IsMember z.count k → among k ≡ true → w.armed k ≡ None
    pub rounds : (k : ℕ) → IsMember z.count k → among k ≡ true → round_of (w.rows k n).promised ≤ r
    pub left : (k : ℕ) → IsMember z.count k → among k ≡ true → (w.is_stopped k ≡ false) ⊎ IsAmong rest k
    pub inside : (k : ℕ) → IsAmong rest k → IsMember z.count k

  -- all of them are awake
  pub awake : (r : ℕ) → r < limit → (w : State G F) → Waking r [] w → Serves z among v n limit w
  awake r below w x = record {
    version = x.version;
    unarmed = x.unarmed;
    going = λ k i e. elim (x.left k i e) [ inl t ↦ t | inr none ↦ absurd none ];
    rounds = λ k i e. under below (x.rounds k i e);
  }

  -- those that are stopped start again
  pub wakes :
      (r : ℕ) (rest : List ℕ) (w : State G F) → Waking r rest w
      → ((after : State G F) → Waking r [] after → (w.is_stopped m ≡ false → after.marks m ≡ w.marks m) → ((j : ℕ) → after.rows j n ≡ w.rows j n) → Goal after)
      → Goal w
  wakes r [] w g on = on w g (λ going. refl) (λ j. refl)
  wakes r (k ∷ rest) w g on = go (among k) refl (w.is_stopped k) refl (λ after x next. wakes r rest after x next)
    where
      skips : ((j : ℕ) → IsMember z.count j → among j ≡ true → j ≡ k → w.is_stopped j ≡ false) → Waking r rest w
      skips h = record {
        known = g.known;
        offers = g.offers;
        has_vote = g.has_vote;
        version = g.version;
        unarmed = g.unarmed;
        rounds = g.rounds;
        left = λ j i e. elim (g.left j i e) [ inl t ↦ inl t | inr t ↦ elim t [ inl same ↦ inl (h j i e same) | inr x ↦ inr x ] ];
        inside = λ j i. g.inside j (inr i);
      }

      go : (s : Bool) → among k ≡ s → (t : Bool) → w.is_stopped k ≡ t
          → ((after : State G F) → Waking r rest after
          → ((last : State G F) → Waking r [] last → (after.is_stopped m ≡ false → last.marks m ≡ after.marks m) → ((j : ℕ) → last.rows j n ≡ after.rows j n) → Goal last)
          → Goal after)
          → Goal w
      go false e t f next = next w (skips (λ j i x same. absurd (yes_no (among k) e (subst (λ (q : ℕ). among q ≡ true) same x)))) on
      go true e false f next = next w (skips (λ j i x same. subst (λ (q : ℕ). w.is_stopped q ≡ false) (sym same) f)) on
      go true e true f next =
          restart z fit among again v m n final entries speaks limit w g.known k (g.inside k (inl refl)) e (inl f)
          (λ after re. next after (record {
            known = re.told;
            offers = re.offers ∙ g.offers;
            has_vote = λ j voted. subst (λ (x : Row). (u : Vote) × (x.vote ≡ Some u)) (sym (re.rows j n)) (g.has_vote j voted);
            version = λ j i x. re.version j ∙ g.version j i x;
            unarmed = λ j i x. re.armed j ∙ g.unarmed j i x;
            rounds = λ j i x. subst (λ (q : Row). round_of q.promised ≤ r) (sym (re.rows j n)) (g.rounds j i x);
            left = λ j i x.
                elim (g.left j i x) [ inl t ↦ inl (re.goes_other j t) | inr t ↦ elim t [ inl same ↦ inl (subst (λ (q : ℕ). after.is_stopped q ≡ false) (sym same) re.goes) | inr y ↦ inr y ] ];
            inside = λ j i. g.inside j (inr i);
          })
          (λ last x marks rows. on last x
          (λ going. marks (re.goes_other m going) ∙ re.marks_other m (apart m k (λ same. yes_no (w.is_stopped k) (subst (λ (q : ℕ). w.is_stopped q ≡ false) same going) f)))
          (λ j. rows j ∙ re.rows j n)))

  pub waking :
      (r : ℕ) (w : State G F) → Told z n entries w → w.offers ≡ initial → ((j : ℕ) → Voted j → (u : Vote) × ((w.rows j n).vote ≡ Some u))
      → Able z among v n limit w → ((k : ℕ) → IsMember z.count k → among k ≡ true → round_of (w.rows k n).promised ≤ r) → Waking r (members z.count) w
  waking r w h offers has_vote able rounds = record {
    known = h;
    offers = offers;
    has_vote = has_vote;
    version = able.version;
    unarmed = able.unarmed;
    rounds = rounds;
    left = λ k i e. inr (member_among z.count k i);
    inside = λ k i. among_members z.count k i;
  }
