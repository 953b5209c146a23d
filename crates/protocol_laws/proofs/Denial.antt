-- Where others of the majority have higher promises, a proposer that runs need not start again: it is denied, falls due, and begins above them.
use Rattle.std.proofs.Common.{◌≡◌, ℕ, suc, ◌*◌, ◌<◌, ◌≤◌, ◌⊎◌, inl, inr, refl, sym, ap, subst, ◌∙◌, arith, List, [], ◌∷◌, Option, Some, None, Bool, true, false}
use Rattle.std.specs.Prelude.{if◌then◌else◌, ◌==◌, count_by}
use Rattle.std.proofs.lemmas.Bool.{le-leb, eqb-true, eq-eqb, le-ltb}
use Rattle.std.proofs.lemmas.Bool.Decides.{nat_tests}
use Rattle.protocol.specs.Limits.{is_number}
use Rattle.protocol.specs.Lists.{IsAmong}
use Rattle.protocol.specs.Ballots.{Ballot, is_below, IsMember, Majority, members, last_round, next}
use Rattle.protocol.specs.Entries.{Entry}
use Rattle.protocol.specs.Rows.{Vote, Row, raised, voted}
use Rattle.protocol.specs.Versions.{Version}
use Rattle.protocol.specs.Packets.{Prepare, Nack, Packet}
use Rattle.protocol.specs.Marks.{Mark, Denied, Began}
use Rattle.protocol.specs.Proposals.{begun, denied, due_moment, is_due, is_due_number, next_due, was_released, open_proposal, since_began, Opening}
use Rattle.protocol.specs.Turn.{Came_due, greater_ballot, next_ballot, due_turn, renew, stays, Note_idle, begin, Event, start_turn, Turn, Note_began, packet_to, to_others, turn}
use Rattle.protocol.specs.Refusals.{Falling_due, due_event}
use Rattle.protocol.specs.Circuit.{Falls_due, Circuit, Offer, State, offers_with, seat_at}
use Rattle.protocol.specs.Fitting.{SpellsWhatFits}
use Rattle.protocol.specs.Progress.{IsBallotOf, MaySay, SpellsWhatMayBeSaid, round_of}
use Rattle.protocol_laws.proofs.Majorities.{among_members}
use Rattle.protocol_laws.proofs.Reading.{is_same-self}
use Rattle.protocol_laws.proofs.OneStep.{receive, restart, Stepped, Serves, still, Reaches, take, Told}
use Rattle.protocol_laws.proofs.Replying.{turned, unrefused, nacks, denies, packet_says, goes_to, member_among, yes_no, apart, others_say}
use Rattle.protocol_laws.proofs.OneBallot.{opens_plain, opens_denied, begun_plain, begun_denied, denied_plain, denied_by_one, closed_plain, closed_denied, least_due}
use Rattle.protocol_laws.proofs.SavedBallots.{saved_promise_rises}
use Rattle.protocol_laws.proofs.Rounds.{next_is, greatest_of}
use Rattle.protocol_laws.proofs.Waking.{Asking, Able}
use Rattle.protocol_laws.proofs.Waking as waking

module _
    {D G F : Type 0} (z : Circuit D G F) (fit : SpellsWhatFits z) (among again : ℕ → Bool) (v : Version) (m n : ℕ) (final : List Offer)
    (entries : Entry → Type 0) (speaks : SpellsWhatMayBeSaid z v entries) (limit : ℕ) (high : limit ≤ last_round)
    (number : is_number n ≡ true) (member : IsMember z.count m) (many : z.count < 2 * count_by among (members z.count)) (in_it : among m ≡ true)
    (initial : List Offer) (own : Option Entry) (asking : Asking z v m n initial final entries own)
    (Voted : ℕ → Type 0) (own_or_voted : ((e : Entry) × (own ≡ Some e)) ⊎ Majority z.count Voted) where
  abbrev Goal : State G F → Type 0
  Goal w = Reaches z among again v m n final limit w

  -- what was said of this offer or search in the file on waking
  abbrev Set : ℕ → State G F → Type 0
  Set r w = waking.Set z fit among again v m n final entries speaks limit high number member many in_it initial own asking Voted own_or_voted r w

  abbrev Ready : ℕ → State G F → Type 0
  Ready r w = waking.Ready z fit among again v m n final entries speaks limit high number member many in_it initial own asking Voted own_or_voted r w

  abbrev Beginning : ℕ → State G F → Type 0
  Beginning r w = waking.Beginning z fit among again v m n final entries speaks limit high number member many in_it initial own asking Voted own_or_voted r w

  abbrev Waking : ℕ → List ℕ → State G F → Type 0
  Waking r rest w =
      waking.Waking z fit among again v m n final entries speaks limit high number member many in_it initial own asking Voted own_or_voted r rest w

  goes_through : (r : ℕ) (w : State G F) → Set r w → Beginning r w → r < limit → Goal w
  goes_through = waking.goes_through z fit among again v m n final entries speaks limit high number member many in_it initial own asking Voted own_or_voted

  asks : (r : ℕ) (w : State G F) → Ready r w → round_of (w.rows m n).promised ≡ r → r < limit → Goal w
  asks = waking.asks z fit among again v m n final entries speaks limit high number member many in_it initial own asking Voted own_or_voted

  awake : (r : ℕ) → r < limit → (w : State G F) → Waking r [] w → Serves z among v n limit w
  awake = waking.awake z fit among again v m n final entries speaks limit high number member many in_it initial own asking Voted own_or_voted

  wakes :
      (r : ℕ) (rest : List ℕ) (w : State G F) → Waking r rest w
      → ((after : State G F) → Waking r [] after → (w.is_stopped m ≡ false → after.marks m ≡ w.marks m)
      → ((j : ℕ) → after.rows j n ≡ w.rows j n) → Goal after)
      → Goal w
  wakes = waking.wakes z fit among again v m n final entries speaks limit high number member many in_it initial own asking Voted own_or_voted

  to_wake :
      (r : ℕ) (w : State G F) → Told z n entries w → w.offers ≡ initial
      → ((j : ℕ) → Voted j → (u : Vote) × ((w.rows j n).vote ≡ Some u)) → Able z among v n limit w
      → ((k : ℕ) → IsMember z.count k → among k ≡ true → round_of (w.rows k n).promised ≤ r) → Waking r (members z.count) w
  to_wake = waking.waking z fit among again v m n final entries speaks limit high number member many in_it initial own asking Voted own_or_voted

  some : (w : State G F) → Able z among v n limit w → 0 < limit
  some = waking.some z fit among again v m n final entries speaks limit high number member many in_it initial own asking Voted own_or_voted

  reach : {a : ℕ} → a ≤ limit → a ≤ last_round
  reach l = let h : limit ≤ last_round = high in omega arith

  under : {a r : ℕ} → r < limit → a ≤ r → a ≤ limit
  under l h = omega arith

  not_below : (j : ℕ) → j < n → (n == j) ≡ false
  not_below j l = apart n j (λ f. clash f)
    where
      clash : n ≡ j → ⊥
      clash f = omega arith

  abbrev Leaves : ℕ → Row → List Mark → List Packet → State G F → State G F → Type 0
  Leaves k row marks out w after = Stepped z v n entries k row marks out w.offers w after

  abbrev Asked : Event → Row → List Mark → List Packet → State G F → State G F → Type 0
  Asked e row marks out w after = Stepped z v n entries m row marks out (offers_with w.offers m e) w after

  -- it began round s + 1 as it was asked, and is denied at most by a promise of round r: as it falls due it begins round r + 1
  falls_due :
      (s r : ℕ) (w : State G F) (report : Option Vote) (marks : List Mark) (dn : Option Ballot) → Set r w → w.offers ≡ final
      → w.marks m ≡ marks
      → open_proposal n marks ≡ Some (record { ballot = record { round = suc s; owner = m }; own = own; report = report; now = 0 })
      → begun n marks ≡ 1 → denied n marks ≡ dn → ((j : ℕ) → j < n → open_proposal j marks ≡ None)
      → next (greater_ballot (w.rows m n).promised dn) m ≡ Some (record { round = suc r; owner = m })
      → Beginning r w
  falls_due s r w report marks dn g offers at_marks opens one denied_so closed nexts = record {
    step = Falls_due m now;
    call = Falling_due now;
    event = Came_due n now;
    now = now;
    task = refl;
    unrefused = rw (g.serves.going m member in_it) refl;
    brings_it = ap (λ (l : List Mark). due_event (next_due m now l) now) at_marks ∙ ap (λ (o : Option ℕ). due_event o now) (least_due m n now marks due closed);
    number_is = refl;
    turns =
        ap (λ (l : List Mark). turn (seat_at z m) l (w.rows m n) (Came_due n now)) at_marks ∙ taken
        ∙ ap (λ (l : List Mark). Some (begin (seat_at z m) n (record { round = suc r; owner = m }) own now l (w.rows m n))) (sym at_marks);
    brings = tt;
    settles = offers;
  }
    where
      o : Opening
      o = record { ballot = record { round = suc s; owner = m }; own = own; report = report; now = 0 }

      now : ℕ
      now = due_moment m n o (since_began n marks)

      is_now : is_due m n now (since_began n marks) (Some o) ≡ true
      is_now = le-leb now now (omega arith)

      due : is_due_number m now marks n ≡ true
      due = ap (λ (x : Option Opening). is_due m n now (since_began n marks) x) opens ∙ is_now

      next_is_so : next_ballot m n marks (w.rows m n) ≡ Some (record { round = suc r; owner = m })
      next_is_so = rw (one, denied_so) nexts

      taken :
          turn (seat_at z m) marks (w.rows m n) (Came_due n now) ≡ Some
          (begin (seat_at z m) n (record { round = suc r; owner = m }) own now marks (w.rows m n))
      taken =
          ap (λ (x : Option Opening). Some (due_turn (seat_at z m) n now marks (w.rows m n) x)) opens
          ∙ ap (λ (t : Bool). Some (if t then renew (seat_at z m) n now o marks (w.rows m n) (next_ballot m n marks (w.rows m n)) else stays (w.rows m n) marks Note_idle)) is_now
          ∙ ap (λ (x : Option Ballot). Some (renew (seat_at z m) n now o marks (w.rows m n) x)) next_is_so

  -- what a turn leaves of what is known, where the row keeps its vote
  set_on :
      (r k : ℕ) (row : Row) (marks : List Mark) (out : List Packet) (offers : List Offer) (w after : State G F) → Set r w → Stepped z v n entries k row marks out offers w after
      → r < limit → row.vote ≡ (w.rows k n).vote → round_of row.promised ≤ r → (k ≡ m → was_released n marks ≡ false) → Set r after
  set_on r k row marks out offers w after g st below same_vote low still_free = record {
    known = st.told;
    serves = still st g.serves (under below low);
    unreleased = free (m == k) refl;
    has_vote = λ j voted. votes j voted (j == k) refl;
    rounds = λ j i e. rounds j i e (j == k) refl;
  }
    where
      free : (t : Bool) → (m == k) ≡ t → was_released n (after.marks m) ≡ false
      free true e =
          let f : k ≡ m = sym (eqb-true m k e) in
          subst (λ (x : ℕ). was_released n (after.marks x) ≡ false) f (subst (λ (l : List Mark). was_released n l ≡ false) (sym st.marks_are) (still_free f))
      free false e = subst (λ (l : List Mark). was_released n l ≡ false) (sym (st.marks_other m e)) g.unreleased

      votes : (j : ℕ) → Voted j → (t : Bool) → (j == k) ≡ t → (u : Vote) × ((after.rows j n).vote ≡ Some u)
      votes j voted true e =
          let f : j ≡ k = eqb-true j k e in
          let x = g.has_vote k (subst (λ (y : ℕ). Voted y) f voted) in
          subst (λ (y : ℕ). (u : Vote) × ((after.rows y n).vote ≡ Some u)) (sym f) (x.0, ap (λ (q : Row). q.vote) st.row_is ∙ same_vote ∙ x.1)
      votes j voted false e = subst (λ (q : Row). (u : Vote) × (q.vote ≡ Some u)) (sym (st.row_other j e)) (g.has_vote j voted)

      rounds : (j : ℕ) → IsMember z.count j → among j ≡ true → (t : Bool) → (j == k) ≡ t → round_of (after.rows j n).promised ≤ r
      rounds j i f true e =
          subst (λ (y : ℕ). round_of (after.rows y n).promised ≤ r) (sym (eqb-true j k e)) (subst (λ (q : Row). round_of q.promised ≤ r) (sym st.row_is) low)
      rounds j i f false e = subst (λ (q : Row). round_of q.promised ≤ r) (sym (st.row_other j e)) (g.rounds j i f)

  -- one of the set, k, is promised at round r, above the proposer's own: that begins below, is denied by k where r leaves a round between,
  -- and as it falls due it begins above
  denied_goes :
      (s r k : ℕ) (w : State G F) → Ready r w → ((j : ℕ) → j < n → open_proposal j (w.marks m) ≡ None) → round_of (w.rows m n).promised ≡ s → s < r → r < limit
      → IsMember z.count k → among k ≡ true → round_of (w.rows k n).promised ≡ r → Goal w
  denied_goes s r k w g unopened at_s lower below i e at_r =
      take z fit among again v m n final entries speaks limit w g.is_set.known g.is_set.serves be.step m be.call be.event began be.task member in_it be.unrefused be.brings_it be.number_is
      (be.turns ∙ ap Some is_begun) first_low be.brings (λ u f. be.settles)
      (λ votes p j. others_say z entries m n b Prepare member number at (λ x. refl) p j)
      (λ w1 st none. begun_at w1 st)
    where
      b : Ballot
      b = record { round = suc s; owner = m }

      under_two : {a c : ℕ} → a < c → c < limit → suc a ≤ limit
      under_two h k = omega arith

      row : Row
      row = w.rows m n

      base : List Mark
      base = w.marks m

      be : Beginning s w
      be =
          let nexts : next (w.rows m n).promised m ≡ Some b = next_is m (w.rows m n).promised s at_s (reach (under_two lower below)) in
          record {
            step = asking.step;
            call = asking.call;
            event = asking.event;
            now = 0;
            task = asking.task w.sent;
            unrefused = asking.unrefused w (g.is_set.serves.going m member in_it) g.is_set.unreleased g.unopened (g.is_set.serves.version m member in_it);
            brings_it = asking.brings_it (w.version m) (w.marks m);
            number_is = asking.number;
            turns = asking.turns (w.marks m) (w.rows m n) ∙ ap (λ (x : Option Ballot). start_turn (seat_at z m) n own 0 (w.marks m) (w.rows m n) x) nexts;
            brings = asking.brings;
            settles = ap (λ (l : List Offer). offers_with l m asking.event) g.offers ∙ asking.settles;
          }

      first_low : b.round ≤ limit
      first_low = omega arith

      at : IsBallotOf z.count b
      at = record { round_low = omega arith; round_high = reach first_low; owner = member }

      other : (k == m) ≡ false
      other = apart k m (λ f. clash f)
        where
          clash : k ≡ m → ⊥
          clash f = let x : round_of (w.rows m n).promised ≡ r = subst (λ (j : ℕ). round_of (w.rows j n).promised ≡ r) f at_r in omega arith

      one : (z.count == 1) ≡ false
      one = apart z.count 1 (λ f. clash f)
        where
          same : z.count ≡ 1 → k ≡ m
          same f = let a : 1 ≤ m = member.0 in let l : m ≤ z.count = member.1 in let c : 1 ≤ k = i.0 in let d : k ≤ z.count = i.1 in omega arith

          clash : z.count ≡ 1 → ⊥
          clash f = yes_no (k == m) other (eq-eqb k m (same f))

      marks : List Mark
      marks = Began n b own row.vote 0 ∷ base

      began : Turn
      began = record { row = raised row b; marks = marks; out = to_others (seat_at z m) n b Prepare; release = None; note = Note_began b }

      is_begun : begin (seat_at z m) n b own 0 (w.marks m) (w.rows m n) ≡ began
      is_begun = rw one refl

      begun_at : (w1 : State G F) → Asked asking.event (raised row b) marks (to_others (seat_at z m) n b Prepare) w w1 → Goal w1
      begun_at w1 st = weigh (nat_cases r (suc s))
        where
          nat_cases : (a c : ℕ) → (a ≤ c) ⊎ (c < a)
          nat_cases a c = grind arith

          set1 : Set r w1
          set1 =
              set_on r m (raised row b) marks (to_others (seat_at z m) n b Prepare) (offers_with w.offers m asking.event) w w1 g.is_set st below refl
              (omega arith) (λ f. g.is_set.unreleased)

          settled : w1.offers ≡ final
          settled = st.offers_are ∙ be.settles

          promised : (w1.rows m n).promised ≡ Some b
          promised = ap (λ (q : Row). q.promised) st.row_is

          falls : r ≤ suc s → Goal w1
          falls l =
              goes_through r w1 set1
              (falls_due s r w1 row.vote marks None set1 settled st.marks_are
              (opens_plain n b own row.vote 0 base g.is_set.unreleased g.unopened)
              (begun_plain n b own row.vote 0 base g.is_set.unreleased g.unopened)
              (denied_plain n b own row.vote 0 base g.is_set.unreleased g.unopened)
              (λ j l. closed_plain n b own row.vote 0 base g.is_set.unreleased g.unopened j (not_below j l) (unopened j l))
              (subst (λ (q : Option Ballot). next (greater_ballot q None) m ≡ Some (record { round = suc r; owner = m })) (sym promised) (next_is m (Some b) r (omega arith) (reach below))))
              below

          denied_by : suc s < r → (a : Ballot) → (w.rows k n).promised ≡ Some a → Goal w1
          denied_by l a is =
              let p : Packet = packet_to (seat_at z m) n b Prepare k in
              let (d, sent, c) = st.went p (goes_to (seat_at z m) n b Prepare k i other) in
              receive z fit among again v m n final entries speaks limit w1 st.told set1.serves k p d _ i e sent c refl refl
              (unrefused z.number z.count m k n b Prepare member.1 at.owner.1 refl)
              (nacks (seat_at z k) (w1.marks k) (w1.rows k n) p a (ap (λ (q : Row). q.promised) (st.row_other k other) ∙ is) (above a higher))
              (set1.serves.rounds k i e) settled
              (λ votes x j. elim j [
                | inl it ↦ subst (λ (q : Packet). MaySay z entries q) (sym it) (packet_says z entries k m n b (Nack a) i member (turned k m other) number at (refl, ballot, inl higher))
                | inr none ↦ absurd none
              ])
              (λ w2 st2 none. told l a is w2 st2)
            where
              round : a.round ≡ r
              round = subst (λ (q : Option Ballot). round_of q ≡ r) is at_r

              higher : suc s < a.round
              higher = let x : a.round ≡ r = round in omega arith

              above : (a : Ballot) → suc s < a.round → is_below b a ≡ true
              above a l = grind (arith, nat_tests)

              good : (1 ≤ a.round) × IsMember z.count a.owner
              good = saved_promise_rises z g.is_set.known.history k n a is

              ballot : IsBallotOf z.count a
              ballot = record { round_low = good.0; round_high = reach (let x : a.round ≡ r = round in omega arith); owner = good.1 }

              told :
                  suc s < r → (a : Ballot) → (w.rows k n).promised ≡ Some a → (w2 : State G F)
                  → Leaves k (w1.rows k n) (w1.marks k) (packet_to (seat_at z k) n b (Nack a) m ∷ []) w1 w2 → Goal w2
              told l a is w2 st2 =
                  let back : (m == k) ≡ false = turned k m other in
                  let q : Packet = packet_to (seat_at z k) n b (Nack a) m in
                  let (d, sent, c) = st2.went q (inl refl) in
                  let marks2 : w2.marks m ≡ marks = st2.marks_other m back ∙ st.marks_are in
                  let set2 : Set r w2 =
                  set_on r k (w1.rows k n) (w1.marks k) (packet_to (seat_at z k) n b (Nack a) m ∷ []) w1.offers w1 w2 set1 st2 below refl
                  (set1.rounds k i e) (λ f. subst (λ (x : ℕ). was_released n (w1.marks x) ≡ false) (sym f) set1.unreleased) in
                  receive z fit among again v m n final entries speaks limit w2 st2.told set2.serves m q d _ member in_it sent c refl refl
                  (unrefused z.number z.count k m n b (Nack a) i.1 at.owner.1 (le-ltb z.count a.owner (saved_promise_rises z g.is_set.known.history k n a is).1.1))
                  (denies (seat_at z m) (w2.marks m) (w2.rows m n) q a (record { ballot = b; own = own; report = row.vote; now = 0 })
                  (ap (λ (x : List Mark). open_proposal n x) marks2 ∙ opens_plain n b own row.vote 0 base g.is_set.unreleased g.unopened)
                  (is_same-self b b refl))
                  (set2.serves.rounds m member in_it) (st2.offers_are ∙ settled)
                  (λ votes x j. absurd j)
                  (λ w3 st3 none. last l a is w2 st2 marks2 set2 w3 st3)
                where
                  last :
                      suc s < r → (a : Ballot) → (w.rows k n).promised ≡ Some a → (w2 : State G F)
                      → Leaves k (w1.rows k n) (w1.marks k) (packet_to (seat_at z k) n b (Nack a) m ∷ []) w1 w2
                      → w2.marks m ≡ marks → Set r w2 → (w3 : State G F) → Leaves m (w2.rows m n) (Denied n a ∷ w2.marks m) [] w2 w3 → Goal w3
                  last l a is w2 st2 marks2 set2 w3 st3 =
                      let marks3 : w3.marks m ≡ Denied n a ∷ marks = st3.marks_are ∙ ap (λ (x : List Mark). Denied n a ∷ x) marks2 in
                      let set3 : Set r w3 =
                      set_on r m (w2.rows m n) (Denied n a ∷ w2.marks m) [] w2.offers w2 w3 set2 st3 below refl (set2.rounds m member in_it)
                      (λ f. set2.unreleased) in
                      let promised3 : (w3.rows m n).promised ≡ Some b =
                      ap (λ (x : Row). x.promised) (st3.row_is ∙ st2.row_other m (turned k m other)) ∙ promised in
                      let above_b : is_below b a ≡ true = over a (subst (λ (x : Option Ballot). round_of x ≡ r) is at_r) in
                      goes_through r w3 set3
                      (falls_due s r w3 row.vote (Denied n a ∷ marks) (Some a) set3 (st3.offers_are ∙ st2.offers_are ∙ settled) marks3
                      (opens_denied n b own row.vote 0 base g.is_set.unreleased g.unopened a)
                      (begun_denied n b own row.vote 0 base g.is_set.unreleased g.unopened a)
                      (denied_by_one n b own row.vote 0 base g.is_set.unreleased g.unopened a)
                      (λ j l. closed_denied n b own row.vote 0 base g.is_set.unreleased g.unopened a j (not_below j l) (unopened j l))
                      (subst (λ (x : Option Ballot). next (greater_ballot x (Some a)) m ≡ Some (record { round = suc r; owner = m })) (sym promised3)
                      (rw above_b (next_is m (Some a) r (subst (λ (x : Option Ballot). round_of x ≡ r) is at_r) (reach below)))))
                      below
                    where
                      over : (a : Ballot) → a.round ≡ r → is_below b a ≡ true
                      over a f = grind (arith, nat_tests)

          by_promise : suc s < r → (q : Option Ballot) → (w.rows k n).promised ≡ q → Goal w1
          by_promise l None is = absurd (let x : round_of (w.rows k n).promised ≡ 0 = ap round_of is in omega arith)
          by_promise l (Some a) is = denied_by l a is

          weigh : (r ≤ suc s) ⊎ (suc s < r) → Goal w1
          weigh (inl l) = falls l
          weigh (inr l) = by_promise l (w.rows k n).promised refl

  -- from a state in which the proposer runs, neither n nor a lower number is open with it, and n not released
  pub leads_through :
      (w : State G F) → Told z n entries w → w.offers ≡ initial → ((j : ℕ) → Voted j → (u : Vote) × ((w.rows j n).vote ≡ Some u))
      → Able z among v n limit w → w.is_stopped m ≡ false → open_proposal n (w.marks m) ≡ None
      → ((j : ℕ) → j < n → open_proposal j (w.marks m) ≡ None) → was_released n (w.marks m) ≡ false → Goal w
  leads_through w h offers has_vote able going unopened lower unreleased =
      let (r, below, above, attained) = greatest_of (λ k. round_of (w.rows k n).promised) among limit (some w able) (members z.count)
      (λ k i e. able.rounds k (among_members z.count k i) e) in
      wakes r (members z.count) w (to_wake r w h offers has_vote able (λ k i e. above k (member_among z.count k i) e))
      (λ after x marks rows. by r below attained after x (marks going) rows (nat_cases r (round_of (w.rows m n).promised)))
    where
      nat_cases : (a c : ℕ) → (a ≤ c) ⊎ (c < a)
      nat_cases a c = grind arith

      by : (r : ℕ) → r < limit → (r ≡ 0) ⊎ ((k : ℕ) × IsAmong (members z.count) k × (among k ≡ true) × (round_of (w.rows k n).promised ≡ r))
          → (after : State G F) → Waking r [] after → after.marks m ≡ w.marks m → ((j : ℕ) → after.rows j n ≡ w.rows j n)
          → (r ≤ round_of (w.rows m n).promised) ⊎ (round_of (w.rows m n).promised < r) → Goal after
      by r below attained after x marks rows (inl l) =
          asks (round_of (w.rows m n).promised) after
          (record { is_set = made (λ k i e. higher (x.rounds k i e) l); unopened = subst (λ (y : List Mark). open_proposal n y ≡ None) (sym marks) unopened; offers = x.offers })
          (ap (λ (q : Row). round_of q.promised) (rows m))
          (able.rounds m member in_it)
        where
          higher : {a b c : ℕ} → a ≤ b → b ≤ c → a ≤ c
          higher h k = omega arith

          made : {t : ℕ} → ((k : ℕ) → IsMember z.count k → among k ≡ true → round_of (after.rows k n).promised ≤ t) → Set t after
          made rounds = record {
            known = x.known;
            serves = awake r below after x;
            unreleased = subst (λ (y : List Mark). was_released n y ≡ false) (sym marks) unreleased;
            has_vote = x.has_vote;
            rounds = rounds;
          }
      by r below (inl zero_so) after x marks rows (inr l) = absurd (omega arith)
      by r below (inr (k, i, e, f)) after x marks rows (inr l) =
          denied_goes (round_of (w.rows m n).promised) r k after
          (record {
            is_set = record {
              known = x.known;
              serves = awake r below after x;
              unreleased = subst (λ (y : List Mark). was_released n y ≡ false) (sym marks) unreleased;
              has_vote = x.has_vote;
              rounds = x.rounds;
            };
            unopened = subst (λ (y : List Mark). open_proposal n y ≡ None) (sym marks) unopened;
            offers = x.offers;
          })
          (λ j h. subst (λ (y : List Mark). open_proposal j y ≡ None) (sym marks) (lower j h))
          (ap (λ (q : Row). round_of q.promised) (rows m)) l below (among_members z.count k i) e (ap (λ (q : Row). round_of q.promised) (rows k) ∙ f)

  -- from any state, where the proposer may start again
  pub leads_on :
      again m ≡ true → (w : State G F) → Told z n entries w → w.offers ≡ initial → ((j : ℕ) → Voted j → (u : Vote) × ((w.rows j n).vote ≡ Some u))
      → Able z among v n limit w → Goal w
  leads_on may w h offers has_vote able =
      restart z fit among again v m n final entries speaks limit w h m member in_it (inr may)
      (λ after re. leads_through after re.told (re.offers ∙ offers)
      (λ j voted. subst (λ (x : Row). (u : Vote) × (x.vote ≡ Some u)) (sym (re.rows j n)) (has_vote j voted))
      (record {
        version = λ k i e. re.version k ∙ able.version k i e;
        unarmed = λ k i e. re.armed k ∙ able.unarmed k i e;
        rounds = λ k i e. subst (λ (x : Row). round_of x.promised < limit) (sym (re.rows k n)) (able.rounds k i e);
      })
      re.goes
      (subst (λ (l : List Mark). open_proposal n l ≡ None) (sym re.marks_are) refl)
      (λ j l. subst (λ (y : List Mark). open_proposal j y ≡ None) (sym re.marks_are) refl)
      (subst (λ (l : List Mark). was_released n l ≡ false) (sym re.marks_are) refl))
