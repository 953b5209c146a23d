-- A proposer that runs with numbers open: those below the asked number fall due first, each until it is given up, and so does the asked number
-- itself where it is open. Then it is asked, as one that runs with none of them open.
use Rattle.std.proofs.Common.{◌≡◌, ℕ, zero, suc, ◌+◌, ◌*◌, ◌<◌, ◌≤◌, ◌⊎◌, inl, inr, refl, sym, ap, subst, ◌∙◌, arith, List, [], ◌∷◌, ◌++◌, Option, Some, None, Bool, true, false}
use Rattle.std.specs.Prelude.{◌==◌, count_by, if◌then◌else◌}
use Rattle.std.specs.List.{AllZip}
use Rattle.std.proofs.lemmas.Bool.{le-leb, eqb-true, eqb-false, eq-eqb}
use Rattle.protocol.specs.Limits.{is_number}
use Rattle.protocol.specs.Lists.{IsAmong}
use Rattle.protocol.specs.Ballots.{Ballot, last_round, IsMember, members}
use Rattle.protocol.specs.Entries.{Entry}
use Rattle.protocol.specs.Rows.{Row, raised}
use Rattle.protocol.specs.Versions.{Version}
use Rattle.protocol.specs.Packets.{Prepare, Packet}
use Rattle.protocol.specs.Marks.{Mark, Began, Closed}
use Rattle.protocol.specs.Proposals.{Opening, was_released, open_proposal, since_began, begun, denied, due_moment, is_due, next_due}
use Rattle.protocol.specs.Turn.{Came_due, most_ballots, next_ballot, begin, due_turn, renew, stays, Note_idle, Note_gave_up, Note_began, Turn, to_others, turn}
use Rattle.protocol.specs.Refusals.{Falling_due, due_event, early_refusal, refusal, event_of}
use Rattle.protocol.specs.Circuit.{Circuit, Datagram, Offer, State, Falls_due, Done, Carries, seat_at, setup_of, with_at, saved, releases_with, StepsTo, is_done, goes_on}
use Rattle.protocol.specs.Fitting.{SpellsWhatFits, BodyFits}
use Rattle.protocol.specs.Progress.{takes_turn, release_of, CanRelease, round_of, IsBallotOf, MaySay, SpellsWhatMayBeSaid}
use Rattle.protocol_laws.proofs.Places.{with_at-same}
use Rattle.protocol_laws.proofs.Holding.{first_none, taken_fits, history_fits}
use Rattle.protocol_laws.proofs.OneStep.{same, Told, Reaches, spelled}
use Rattle.protocol_laws.proofs.OneBallot.{least_due}
use Rattle.protocol_laws.proofs.OpenMarks.{open_else_began, open_else_closed, closed_now, denied_else, begun_more, NextOf, Anew, begins_anew}
use Rattle.protocol_laws.proofs.OpenNumbers.{open_number}
use Rattle.protocol_laws.proofs.Replying.{others_say, apart}
use Rattle.protocol_laws.proofs.Waking.{Asking, Able}
use Rattle.protocol_laws.proofs.Denial.{leads_through}

none_some : {A : Type 0} {x : A} → None ≡ Some x → ⊥
none_some e = cc

module _
    {D G F : Type 0} (z : Circuit D G F) (fit : SpellsWhatFits z) (among again : ℕ → Bool) (v : Version) (m n : ℕ) (final : List Offer)
    (entries : Entry → Type 0) (speaks : SpellsWhatMayBeSaid z v entries) (limit : ℕ) (high : limit ≤ last_round)
    (number : is_number n ≡ true) (member : IsMember z.count m) (many : z.count < 2 * count_by among (members z.count)) (in_it : among m ≡ true)
    (initial : List Offer) (own : Option Entry) (asking : Asking z v m n initial final entries own) (has_own : (e : Entry) × (own ≡ Some e)) where
  abbrev Goal : State G F → Type 0
  Goal w = Reaches z among again v m n final limit w

  -- what a turn of the proposer about number j leaves
  record Fell (j : ℕ) (row : Row) (marks : List Mark) (w after : State G F) : Type 0 where
    told : Told z n entries after
    rows : (k i : ℕ) → after.rows k i ≡ saved w.rows m j row k i
    marks_are : after.marks m ≡ marks
    version : (k : ℕ) → after.version k ≡ w.version k
    armed : (k : ℕ) → after.armed k ≡ w.armed k
    is_stopped : (k : ℕ) → after.is_stopped k ≡ w.is_stopped k
    offers : after.offers ≡ w.offers

  -- number j of the proposer falls due, and it releases nothing
  falls :
      (w : State G F) → Told z n entries w → w.version m ≡ v → w.armed m ≡ None → w.is_stopped m ≡ false
      → (j now : ℕ) (t : Turn) → next_due m now (w.marks m) ≡ Some j
      → turn (seat_at z m) (w.marks m) (w.rows m j) (Came_due j now) ≡ Some t → t.release ≡ None
      → ((p : Packet) → IsAmong t.out p → MaySay z entries p)
      → ((after : State G F) → Fell j t.row t.marks w after → Goal after) → Goal w
  falls w told version unarmed going j now t due taken silent says rest = record {
    serves = reached.serves;
    can = record {
      after = to.after;
      leads = takes_turn (Falls_due m now) m (Falling_due now) t.note refl in_it step to.leads;
      entry = to.entry;
      on_the_way = to.on_the_way;
      are_theirs = to.are_theirs;
      offers_are = to.offers_are;
      released = to.released ∙ ap (λ (r : Option Entry). releases_with z w.releases m j r ++ to.on_the_way ++ release_of z m n to.entry ∷ []) silent;
    };
  }
    where
      free : refusal (setup_of z (w.version m) m) (w.is_stopped m) (w.marks m) (Falling_due now) ≡ None
      free = rw going refl

      event : event_of (setup_of z (w.version m) m) (w.marks m) (Falling_due now) ≡ Some (Came_due j now)
      event = ap (λ (o : Option ℕ). due_event o now) due

      fits : (p : Packet) → IsAmong t.out p → BodyFits v p.body
      fits p i =
          subst (λ (x : Version). BodyFits x p.body) version
          ((taken_fits z fit w (history_fits z fit told.history) m (Falling_due now) (Came_due j now) t member (first_none (early_refusal (setup_of z (w.version m) m) (w.is_stopped m) (w.marks m) (Falling_due now)) _ free) event taken).out p i)

      out : (out : List Datagram) × AllZip (Carries z v) t.out out
      out = spelled z fit among again v m n final entries speaks limit t.out says fits

      after : State G F
      after = record w {
        rows = saved w.rows m j t.row;
        marks = with_at w.marks m t.marks;
        sent = w.sent ++ out.0;
        offers = w.offers;
        releases = releases_with z w.releases m j t.release;
      }

      step : StepsTo z w (Falls_due m now) (Done t.note) after
      step =
          is_done m (Falling_due now) (Came_due j now) t out.0 refl member free event taken
          (subst (λ (x : Version). AllZip (Carries z x) t.out out.0) (sym version) out.1) (inl unarmed) refl (same after)

      fell : Fell j t.row t.marks w after
      fell = record {
        told = record { history = goes_on told.history (Falls_due m now) (Done t.note) step; offered = told.offered };
        rows = λ k i. refl;
        marks_are = with_at-same w.marks m t.marks;
        version = λ k. refl;
        armed = λ k. refl;
        is_stopped = λ k. refl;
        offers = refl;
      }

      reached : Goal after
      reached = rest after fell

      to : CanRelease z among again m n final after
      to = reached.can

  -- the proposer runs, and no number below j is open with it
  record Clear (j : ℕ) (w : State G F) : Type 0 where
    known : Told z n entries w
    offers : w.offers ≡ initial
    able : Able z among v n limit w
    going : w.is_stopped m ≡ false
    unreleased : was_released n (w.marks m) ≡ false
    lower : (i : ℕ) → i < j → open_proposal i (w.marks m) ≡ None

  -- so many rounds are left above its promise for n, and above what denied n
  abbrev Room : ℕ → State G F → Type 0
  Room f w = (round_of (w.rows m n).promised + f < limit) × (round_of (denied n (w.marks m)) + f < limit)

  -- where n is open, it may be given up
  abbrev MayGiveUp : State G F → Type 0
  MayGiveUp w = (o : Opening) → open_proposal n (w.marks m) ≡ Some o → Room most_ballots w

  -- what a turn about j leaves of the rows
  row_else : (j : ℕ) (row : Row) (marks : List Mark) (w after : State G F) → Fell j row marks w after → (j == n) ≡ false → (k : ℕ) → after.rows k n ≡ w.rows k n
  row_else j row marks w after x other k = x.rows k n ∙ go (k == m) refl
    where
      far : (n == j) ≡ false
      far = apart n j (λ f. eqb-false j n other (sym f))

      go : (t : Bool) → (k == m) ≡ t → saved w.rows m j row k n ≡ w.rows k n
      go true e = rw (e, far) (ap (λ (q : ℕ). w.rows q n) (sym (eqb-true k m e)))
      go false e = rw e refl

  able_after :
      (j : ℕ) (row : Row) (marks : List Mark) (w after : State G F) → Able z among v n limit w → Fell j row marks w after
      → ((j == n) ≡ true → round_of row.promised < limit) → Able z among v n limit after
  able_after j row marks w after a x low = record {
    version = λ k i e. x.version k ∙ a.version k i e;
    unarmed = λ k i e. x.armed k ∙ a.unarmed k i e;
    rounds = λ k i e. go k i e (j == n) refl;
  }
    where
      go : (k : ℕ) → IsMember z.count k → among k ≡ true → (t : Bool) → (j == n) ≡ t → round_of (after.rows k n).promised < limit
      go k i e false f = subst (λ (q : Row). round_of q.promised < limit) (sym (row_else j row marks w after x f k)) (a.rounds k i e)
      go k i e true f = subst (λ (q : Row). round_of q.promised < limit) (sym (x.rows k n)) (mine (k == m) refl)
        where
          here : (n == j) ≡ true
          here = eq-eqb n j (sym (eqb-true j n f))

          mine : (t : Bool) → (k == m) ≡ t → round_of (saved w.rows m j row k n).promised < limit
          mine true g = rw (g, here) (low f)
          mine false g = rw g (a.rounds k i e)

  -- j is the next that is due at some moment, and its turn is then the renewal
  record Due (w : State G F) (j : ℕ) (o : Opening) (b : Option Ballot) : Type 0 where
    now : ℕ
    next : next_due m now (w.marks m) ≡ Some j
    taken : turn (seat_at z m) (w.marks m) (w.rows m j) (Came_due j now) ≡ Some (renew (seat_at z m) j now o (w.marks m) (w.rows m j) b)

  is_due_next :
      (j : ℕ) (w : State G F) → Clear j w → (o : Opening) → open_proposal j (w.marks m) ≡ Some o → (b : Option Ballot)
      → next_ballot m j (w.marks m) (w.rows m j) ≡ b → Due w j o b
  is_due_next j w c o e b f = record {
    now = now;
    next = least_due m j now (w.marks m) (ap (λ (x : Option Opening). is_due m j now (since_began j (w.marks m)) x) e ∙ is_now) c.lower;
    taken =
        ap (λ (x : Option Opening). Some (due_turn (seat_at z m) j now (w.marks m) (w.rows m j) x)) e
        ∙ ap (λ (t : Bool). Some (if t then renew (seat_at z m) j now o (w.marks m) (w.rows m j) (next_ballot m j (w.marks m) (w.rows m j)) else stays (w.rows m j) (w.marks m) Note_idle)) is_now
        ∙ ap (λ (x : Option Ballot). Some (renew (seat_at z m) j now o (w.marks m) (w.rows m j) x)) f;
  }
    where
      now : ℕ
      now = due_moment m j o (since_began j (w.marks m))

      is_now : is_due m j now (since_began j (w.marks m)) (Some o) ≡ true
      is_now = le-leb now now (omega arith)

  -- what is known of n stays, where the turn is about another number
  may_after :
      (j : ℕ) (row : Row) (x : Mark) (w after : State G F) → Fell j row (x ∷ w.marks m) w after → (j == n) ≡ false
      → open_proposal n (x ∷ w.marks m) ≡ open_proposal n (w.marks m) → denied n (x ∷ w.marks m) ≡ denied n (w.marks m) → MayGiveUp w → MayGiveUp after
  may_after j row x w after f other opens denies may o e =
      let open_before : open_proposal n (w.marks m) ≡ Some o = sym opens ∙ subst (λ (l : List Mark). open_proposal n l ≡ Some o) f.marks_are e in
      let room : Room most_ballots w = may o open_before in (
        subst (λ (q : Row). round_of q.promised + most_ballots < limit) (sym (row_else j row (x ∷ w.marks m) w after f other m)) room.0,
        subst (λ (d : Option Ballot). round_of d + most_ballots < limit) (sym (ap (denied n) f.marks_are ∙ denies)) room.1,
      )

  below_or_same : (i j : ℕ) → i < suc j → (j == i) ≡ false → i < j
  below_or_same i j l other = let no : j ≡ i → ⊥ = eqb-false j i other in go (nat_cases j i)
    where
      nat_cases : (a c : ℕ) → (a ≤ c) ⊎ (c < a)
      nat_cases a c = grind arith

      go : (j ≤ i) ⊎ (i < j) → i < j
      go (inl h) = absurd (eqb-false j i other (omega arith))
      go (inr h) = h

  -- where j is not open, nothing is to be done
  passes :
      (j : ℕ) (w : State G F) → Clear j w → open_proposal j (w.marks m) ≡ None → ((j == n) ≡ false → MayGiveUp w)
      → ((after : State G F) → Clear (suc j) after → MayGiveUp after → Goal after) → Goal w
  passes j w c unopened others on =
      on w
      (record { known = c.known; offers = c.offers; able = c.able; going = c.going; unreleased = c.unreleased; lower = λ i l. lower i l (j == i) refl })
      (may (j == n) refl)
    where
      lower : (i : ℕ) → i < suc j → (t : Bool) → (j == i) ≡ t → open_proposal i (w.marks m) ≡ None
      lower i l true e = subst (λ (q : ℕ). open_proposal q (w.marks m) ≡ None) (eqb-true j i e) unopened
      lower i l false e = c.lower i (below_or_same i j l e)

      may : (t : Bool) → (j == n) ≡ t → MayGiveUp w
      may true e = λ o opens. absurd (none_some (sym (subst (λ (q : ℕ). open_proposal q (w.marks m) ≡ None) (eqb-true j n e) unopened) ∙ opens))
      may false e = others e

  -- j is given up
  gives_up :
      (j : ℕ) (w : State G F) → Clear j w → (o : Opening) → open_proposal j (w.marks m) ≡ Some o → next_ballot m j (w.marks m) (w.rows m j) ≡ None
      → ((j == n) ≡ false → MayGiveUp w) → ((after : State G F) → Clear (suc j) after → MayGiveUp after → Goal after) → Goal w
  gives_up j w c o opens spent others on =
      let d = is_due_next j w c o opens None spent in
      falls w c.known (c.able.version m member in_it) (c.able.unarmed m member in_it) c.going j d.now (stays (w.rows m j) marks (Note_gave_up o.ballot)) d.next d.taken refl
      (λ p i. absurd i) (λ after x. on after (clear after x) (may after x (j == n) refl))
    where
      marks : List Mark
      marks = Closed j ∷ w.marks m

      closed : (i : ℕ) → i < suc j → (t : Bool) → (j == i) ≡ t → open_proposal i marks ≡ None
      closed i l true e = subst (λ (q : ℕ). open_proposal q marks ≡ None) (eqb-true j i e) (closed_now j (w.marks m))
      closed i l false e = open_else_closed i j (w.marks m) e ∙ c.lower i (below_or_same i j l e)

      clear : (after : State G F) → Fell j (w.rows m j) marks w after → Clear (suc j) after
      clear after x = record {
        known = x.told;
        offers = x.offers ∙ c.offers;
        able = able_after j (w.rows m j) marks w after c.able x
            (λ same. subst (λ (q : ℕ). round_of (w.rows m q).promised < limit) (sym (eqb-true j n same)) (c.able.rounds m member in_it));
        going = x.is_stopped m ∙ c.going;
        unreleased = subst (λ (l : List Mark). was_released n l ≡ false) (sym x.marks_are) c.unreleased;
        lower = λ i l. subst (λ (y : List Mark). open_proposal i y ≡ None) (sym x.marks_are) (closed i l (j == i) refl);
      }

      may : (after : State G F) → Fell j (w.rows m j) marks w after → (t : Bool) → (j == n) ≡ t → MayGiveUp after
      may after x true e = λ p opened.
          absurd (none_some (sym (subst (λ (q : ℕ). open_proposal q marks ≡ None) (eqb-true j n e) (closed_now j (w.marks m))) ∙ subst (λ (y : List Mark). open_proposal n y ≡ Some p) x.marks_are opened))
      may after x false e =
          may_after j (w.rows m j) (Closed j) w after x e (open_else_closed n j (w.marks m) e) (denied_else n (Closed j) (w.marks m) e refl) (others e)

  -- j is begun anew: the others are asked at a next ballot
  renews :
      (j r : ℕ) (w : State G F) → Clear j w → (o : Opening) → open_proposal j (w.marks m) ≡ Some o → (b : Ballot)
      → next_ballot m j (w.marks m) (w.rows m j) ≡ Some b → NextOf m r b
      → ((now : ℕ) (after : State G F) → Fell j (raised (w.rows m j) b) (Began j b o.own (w.rows m j).vote now ∷ w.marks m) w after → Goal after)
      → Goal w
  renews j r w c o opens b next is_next on =
      let d = is_due_next j w c o opens (Some b) next in
      falls w c.known (c.able.version m member in_it) (c.able.unarmed m member in_it) c.going j d.now
      (record { row = raised (w.rows m j) b; marks = Began j b o.own (w.rows m j).vote d.now ∷ w.marks m; out = to_others (seat_at z m) j b Prepare; release = None; note = Note_began b })
      d.next (d.taken ∙ ap Some (is_begun d.now)) refl
      (λ p i. others_say z entries m j b Prepare member there.0 at (λ k. is_next.owner) p i)
      (λ after x. on d.now after x)
    where
      there : (is_number j ≡ true) × ((z.count == 1) ≡ false)
      there = open_number z c.known.history m j o opens

      at : IsBallotOf z.count b
      at =
          record { round_low = is_next.first; round_high = is_next.last; owner = subst (λ (q : ℕ). IsMember z.count q) (sym is_next.owner) member }

      is_begun :
          (now : ℕ)
          → begin (seat_at z m) j b o.own now (w.marks m) (w.rows m j) ≡ record {
            row = raised (w.rows m j) b;
            marks = Began j b o.own (w.rows m j).vote now ∷ w.marks m;
            out = to_others (seat_at z m) j b Prepare;
            release = None;
            note = Note_began b;
          }
      is_begun now = let one : (z.count == 1) ≡ false = there.1 in rw one refl

  -- a round that neither the proposer's promise for j nor what denied j is above
  record Under (j f : ℕ) (w : State G F) : Type 0 where
    top : ℕ
    promise : round_of (w.rows m j).promised ≤ top
    denial : round_of (denied j (w.marks m)) ≤ top
    room : (j == n) ≡ true → top + suc f < limit

  -- j was begun anew at b
  abbrev Begun : ℕ → Option Entry → Ballot → ℕ → State G F → State G F → Type 0
  Begun j own b now w after = Fell j (raised (w.rows m j) b) (Began j b own (w.rows m j).vote now ∷ w.marks m) w after

  -- it falls due until it is given up
  closes :
      (j f : ℕ) (w : State G F) → Clear j w → most_ballots ≤ begun j (w.marks m) + f
      → ((j == n) ≡ true → (o : Opening) → open_proposal j (w.marks m) ≡ Some o → Room f w) → ((j == n) ≡ false → MayGiveUp w)
      → ((after : State G F) → Clear (suc j) after → MayGiveUp after → Goal after) → Goal w
  closes j zero w c enough mine others on = go (open_proposal j (w.marks m)) refl (next_ballot m j (w.marks m) (w.rows m j)) refl
    where
      spent : (b : Ballot) → next_ballot m j (w.marks m) (w.rows m j) ≡ Some b → ⊥
      spent b f =
          let a : Anew m j (round_of (w.rows m j).promised + round_of (denied j (w.marks m))) (w.marks m) b =
          begins_anew m j (round_of (w.rows m j).promised + round_of (denied j (w.marks m))) (w.marks m) (w.rows m j) b f (omega arith) (omega arith) in
          let l : begun j (w.marks m) < most_ballots = a.few in
          omega arith

      go : (r : Option Opening) → open_proposal j (w.marks m) ≡ r → (q : Option Ballot) → next_ballot m j (w.marks m) (w.rows m j) ≡ q → Goal w
      go None e q g = passes j w c e others on
      go (Some o) e None g = gives_up j w c o e g others on
      go (Some o) e (Some b) g = absurd (spent b g)
  closes j (suc f) w c enough mine others on =
      go (open_proposal j (w.marks m)) refl (next_ballot m j (w.marks m) (w.rows m j)) refl (λ after c2 enough2 mine2 others2. closes j f after c2 enough2 mine2 others2 on)
    where
      nat_cases : (a c : ℕ) → (a ≤ c) ⊎ (c < a)
      nat_cases a c = grind arith

      under : (o : Opening) → open_proposal j (w.marks m) ≡ Some o → Under j f w
      under o e = by (nat_cases (round_of (w.rows m j).promised) (round_of (denied j (w.marks m))))
        where
          here : (j == n) ≡ true → (round_of (w.rows m j).promised + suc f < limit) × (round_of (denied j (w.marks m)) + suc f < limit)
          here same =
              subst (λ (q : ℕ). (round_of (w.rows m q).promised + suc f < limit) × (round_of (denied q (w.marks m)) + suc f < limit)) (sym (eqb-true j n same)) (mine same o e)

          by : (round_of (w.rows m j).promised ≤ round_of (denied j (w.marks m))) ⊎ (round_of (denied j (w.marks m)) < round_of (w.rows m j).promised) → Under j f w
          by (inl l) = record { top = round_of (denied j (w.marks m)); promise = l; denial = omega arith; room = λ same. (here same).1 }
          by (inr l) = record { top = round_of (w.rows m j).promised; promise = omega arith; denial = omega arith; room = λ same. (here same).0 }

      go : (r : Option Opening) → open_proposal j (w.marks m) ≡ r → (q : Option Ballot) → next_ballot m j (w.marks m) (w.rows m j) ≡ q
          → ((after : State G F) → Clear j after → most_ballots ≤ begun j (after.marks m) + f
          → ((j == n) ≡ true → (o : Opening) → open_proposal j (after.marks m) ≡ Some o → Room f after) → ((j == n) ≡ false → MayGiveUp after) → Goal after)
          → Goal w
      go None e q g more = passes j w c e others on
      go (Some o) e None g more = gives_up j w c o e g others on
      go (Some o) e (Some b) g more =
          renews j u.top w c o e b g a.is_next (λ now after x. more after (clear now after x) (enough2 now after x) (λ same p opened. mine2 now after x same) (λ other. others2 now after x other))
        where
          u : Under j f w
          u = under o e

          a : Anew m j u.top (w.marks m) b
          a = begins_anew m j u.top (w.marks m) (w.rows m j) b g u.promise u.denial

          fits_in : (j == n) ≡ true → b.round + f < limit
          fits_in same = let l : b.round ≤ suc u.top = a.is_next.low in let h : u.top + suc f < limit = u.room same in omega arith

          clear : (now : ℕ) (after : State G F) → Begun j o.own b now w after → Clear j after
          clear now after x = record {
            known = x.told;
            offers = x.offers ∙ c.offers;
            able = able_after j (raised (w.rows m j) b) (Began j b o.own (w.rows m j).vote now ∷ w.marks m) w after c.able x
                (λ same. let h : b.round + f < limit = fits_in same in omega arith);
            going = x.is_stopped m ∙ c.going;
            unreleased = subst (λ (l : List Mark). was_released n l ≡ false) (sym x.marks_are) c.unreleased;
            lower = λ i l.
                subst (λ (y : List Mark). open_proposal i y ≡ None) (sym x.marks_are)
                (open_else_began i j b o.own (w.rows m j).vote now (w.marks m) (apart j i (λ same. above i l same)) ∙ c.lower i l);
          }
            where
              above : (i : ℕ) → i < j → j ≡ i → ⊥
              above i l same = omega arith

          enough2 : (now : ℕ) (after : State G F) → Begun j o.own b now w after → most_ballots ≤ begun j (after.marks m) + f
          enough2 now after x =
              let more : begun j (after.marks m) ≡ suc (begun j (w.marks m)) = ap (begun j) x.marks_are ∙ begun_more j b o.own (w.rows m j).vote now (w.marks m) in
              omega arith

          mine2 : (now : ℕ) (after : State G F) → Begun j o.own b now w after → (j == n) ≡ true → Room f after
          mine2 now after x same =
              let self : (m == m) ≡ true = eq-eqb m m refl in
              let here : (n == j) ≡ true = eq-eqb n j (sym (eqb-true j n same)) in
              let row : after.rows m n ≡ raised (w.rows m j) b = x.rows m n ∙ rw (self, here) refl in
              let denies : denied n (after.marks m) ≡ denied n (w.marks m) =
              ap (denied n) x.marks_are ∙ denied_else n (Began j b o.own (w.rows m j).vote now) (w.marks m) refl refl in
              let room : round_of (denied n (w.marks m)) + suc f < limit = (mine same o e).1 in (
                subst (λ (q : Row). round_of q.promised + f < limit) (sym row) (fits_in same),
                subst (λ (q : Option Ballot). round_of q + f < limit) (sym denies) (omega arith),
              )

          others2 : (now : ℕ) (after : State G F) → Begun j o.own b now w after → (j == n) ≡ false → MayGiveUp after
          others2 now after x other =
              may_after j (raised (w.rows m j) b) (Began j b o.own (w.rows m j).vote now) w after x other
              (open_else_began n j b o.own (w.rows m j).vote now (w.marks m) other)
              (denied_else n (Began j b o.own (w.rows m j).vote now) (w.marks m) refl refl) (others other)

  -- all numbers up to n are given up, one after the other
  clears :
      (d j : ℕ) (w : State G F) → j + d ≡ suc n → Clear j w → MayGiveUp w → ((after : State G F) → Clear (suc n) after → Goal after) → Goal w
  clears zero j w e c may on = let same : j ≡ suc n = omega arith in on w (subst (λ (q : ℕ). Clear q w) same c)
  clears (suc d) j w e c may on =
      closes j most_ballots w c (omega arith) (λ same o opens. may o (subst (λ (q : ℕ). open_proposal q (w.marks m) ≡ Some o) (eqb-true j n same) opens)) (λ other. may)
      (λ after c2 may2. clears d (suc j) after (omega arith) c2 may2 on)

  -- from a state in which the proposer runs and n is not released with it
  pub leads_busily :
      (w : State G F) → Told z n entries w → w.offers ≡ initial → Able z among v n limit w → w.is_stopped m ≡ false → was_released n (w.marks m) ≡ false
      → ((o : Opening) → open_proposal n (w.marks m) ≡ Some o → (round_of (w.rows m n).promised + most_ballots < limit) × (round_of (denied n (w.marks m)) + most_ballots < limit))
      → Goal w
  leads_busily w h offers able going unreleased may =
      clears (suc n) 0 w (omega arith)
      (record { known = h; offers = offers; able = able; going = going; unreleased = unreleased; lower = λ i l. absurd (omega arith) }) may
      (λ after c. leads_through z fit among again v m n final entries speaks limit high number member many in_it initial own asking (λ j. ⊥) (inl has_own)
      after c.known c.offers (λ j none. absurd none) c.able c.going (c.lower n (omega arith)) (λ j l. c.lower j (omega arith)) c.unreleased)
