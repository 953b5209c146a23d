-- Each turn keeps a sound state sound.
use Rattle.std.proofs.Common.{◌≡◌, ℕ, suc, ◌⊎◌, inl, inr, refl, sym, ap, subst, ◌∙◌, arith, List, [], ◌∷◌, ◌++◌, Option, Some, None, Bool, true, false}
use Rattle.std.specs.Prelude.{nat_lt}
use Rattle.protocol.specs.Ballots.{Ballot, IsBelow, IsNoneOrBelow, IsNoneOrAtMost, Majority, IsMember, next, last_round}
use Rattle.protocol.specs.Entries.{Entry}
use Rattle.protocol.specs.Rows.{Vote, Row, raised, voted}
use Rattle.protocol.specs.Packets.{Packet, Body, Prepare, Promise, Accept, Accepted, Nack}
use Rattle.protocol.specs.Marks.{Mark, Began, Promised, Proposed, Denied, Closed}
use Rattle.protocol.specs.Lists.{IsAmong}
use Rattle.protocol.specs.Readings.{IsCounted}
use Rattle.protocol.specs.Turn.{Turn, stays, packet_to, to_others, others, Event, Offered, Sought, Came_due, Arrived, Recalled, number_of}
use Rattle.protocol.specs.Table.{VotedAt, Hears, Proposes, Begins, asks, alone, StartTurn, starts, IsGreater, DueTurn, is_idle, gives_up, begins_anew, PrepareTurn, promises, is_silent, AcceptTurn, votes_again, votes, PromiseTurn, is_overtaken, is_repeated, counts, completes, NackTurn, is_denied, AcceptedTurn, settles, hears, RecallTurn, is_blank, tells_again, hears_again, AnswerTurn, IsTurn}
use Rattle.protocol.specs.Circuit.{Offer, with_at}
use Rattle.protocol_laws.proofs.Below.{at_most_below}
use Rattle.protocol_laws.proofs.Sound.{Votes, Rows, PromiseHolds, IsOffered, BodyHolds, PacketHolds, NotProposed}
use Rattle.protocol_laws.proofs.Moves.{some_inj, below_to_at_most, WithVote, old, new, IsVote, vote}
use Rattle.protocol_laws.proofs.Places.{with_at-same, saved-same, saved_cases, among_split, among-map}
use Rattle.protocol_laws.proofs.Station.{Setting, At, rows_with, at_raise, at_mark, at_hear, at_begin, row_kept, marks_hold, promise_now}
use Rattle.protocol_laws.proofs.Proposing.{TurnSound, quiet, silent, Opened, propose_sound}
use Rattle.protocol.specs.Table as table

abbrev pub here : Setting → ℕ → Setting
here z n = record z { number = n }

next_above : (o : Option Ballot) (m : ℕ) (b : Ballot) → next o m ≡ Some b → IsNoneOrBelow o b × (b.owner ≡ m)
next_above None m b e = (tt, ap (λ x. x.owner) (sym (some_inj e)))
next_above (Some seen) m b e = go (nat_lt seen.round last_round) refl
  where
    go : (x : Bool) → nat_lt seen.round last_round ≡ x → IsBelow seen b × (b.owner ≡ m)
    go true h =
        let same : Some (record { round = suc seen.round; owner = m }) ≡ Some b = rw h at e in
        let is : record { round = suc seen.round; owner = m } ≡ b = some_inj same in
        let up : suc seen.round ≡ b.round = ap (λ x. x.round) is in
        (inl (omega arith), sym (ap (λ x. x.owner) is))
    go false h = let no : None ≡ Some b = rw h at e in cc

greater_below : (p q s : Option Ballot) (b : Ballot) → IsGreater p q s → IsNoneOrBelow s b → IsNoneOrBelow p b
greater_below p q None b g h = subst (λ (x : Option Ballot). IsNoneOrBelow x b) (sym g.0) tt
greater_below p q (Some s) b (inl g) h = subst (λ (x : Option Ballot). IsNoneOrBelow x b) (sym g.0) h
greater_below None q (Some s) b (inr g) h = tt
greater_below (Some p) q (Some s) b (inr g) h = at_most_below p s b g.1 h

-- one member of one is a majority
one_of_one : (c m n : ℕ) (b : Ballot) (report : Option Vote) → c ≡ 1 → IsMember c m → Majority c (λ k. (r : Option Vote) × IsCounted m n b report [] k r)
one_of_one c m n b report e i = record {
  has = λ k. true;
  many = rw e (omega arith);
  each = λ k j h. let same : k ≡ m = omega arith in (report, inl (same, refl));
}

begin_sound :
    {z : Setting} {V : Votes} {row : Row} {ms : List Mark} (b : Ballot) (own : Option Entry) (now : ℕ) (t : Turn)
    → At z V row ms → IsMember z.seat.members z.seat.me → IsNoneOrBelow row.promised b → b.owner ≡ z.seat.me
    → ((u : Entry) → own ≡ Some u → IsOffered z.offers z.number u)
    → Begins z.seat z.number b own now row ms t → TurnSound z V t
begin_sound {z = z} {V = V} {row = row} b own now t h member free owner offered (asks l e) =
    subst (λ (x : Turn). TurnSound z V x) (sym e) (quiet _ (at_begin b own now h free owner offered) out (λ u f. cc))
  where
    out : (p : Packet) → IsAmong (to_others z.seat z.number b Prepare) p → PacketHolds V (rows_with z (raised row b)) p
    out p i = let y = among-map (packet_to z.seat z.number b Prepare) (others z.seat) p i in subst (λ (q : Packet). PacketHolds V (rows_with z (raised row b)) q) (sym y.1) tt
begin_sound {z = z} {V = V} {row = row} {ms = ms} b own now t h member free owner offered (alone e proposing) =
    propose_sound now t (at_begin b own now h free owner offered) refl
    (record { now = now; before = ms; began = refl; unproposed = λ i x. x })
    (one_of_one z.seat.members z.seat.me z.number b row.vote e member) proposing

start_sound :
    {z : Setting} {V : Votes} {row : Row} {ms : List Mark} (own : Option Entry) (now : ℕ) (t : Turn)
    → At z V row ms → IsMember z.seat.members z.seat.me → ((u : Entry) → own ≡ Some u → IsOffered z.offers z.number u)
    → StartTurn z.seat z.number own now ms row t → TurnSound z V t
start_sound {z = z} {row = row} own now t h member offered (starts b e begins) =
    let up = next_above row.promised z.seat.me b e in begin_sound b own now t h member up.0 up.1 offered begins

due_sound :
    {z : Setting} {V : Votes} {row : Row} {ms : List Mark} (now : ℕ) (t : Turn)
    → At z V row ms → IsMember z.seat.members z.seat.me → DueTurn z.seat z.number now ms row t → TurnSound z V t
due_sound {z = z} {V = V} now t h member (is_idle i e) = subst (λ (x : Turn). TurnSound z V x) (sym e) (silent (stays _ _ _) refl refl h)
due_sound {z = z} {V = V} now t h member (gives_up b own denied seen due d g l e) =
    subst (λ (x : Turn). TurnSound z V x) (sym e) (silent (stays _ _ _) refl refl (at_mark (Closed z.number) h tt (λ n a w r i f. cc)))
due_sound {z = z} {V = V} {row = row} {ms = ms} now t h member (begins_anew b own denied seen a due d g l e begins) =
    let up = next_above seen z.seat.me a e in
    begin_sound a own now t h member (greater_below row.promised denied seen a g up.0) up.1 offered begins
  where
    offered : (u : Entry) → own ≡ Some u → IsOffered z.offers z.number u
    offered = (marks_hold (Began z.number b own due.report due.is_open.now) h (among_split ms due.since due.is_open.before (Began z.number b own due.report due.is_open.now) due.is_open.began)).2

one_packet : (V : Votes) (rows : Rows) (q p : Packet) → PacketHolds V rows q → IsAmong (q ∷ []) p → PacketHolds V rows p
one_packet V rows q p h (inl e) = subst (λ (x : Packet). PacketHolds V rows x) (sym e) h
one_packet V rows q p h (inr e) = absurd e

prepare_sound :
    (z : Setting) {V : Votes} {row : Row} {ms : List Mark} (p : Packet) (t : Turn)
    → At (here z p.number) V row ms → PrepareTurn z.seat ms row p t → TurnSound (here z p.number) V t
prepare_sound z {V = V} {row = row} p t h (promises free e) =
    subst (λ (x : Turn). TurnSound (here z p.number) V x) (sym e)
    (quiet _ (at_raise p.ballot h (below_to_at_most row.promised p.ballot free)) (λ q i. one_packet V (rows_with (here z p.number) (raised row p.ballot)) _ q (promise_now p.ballot h free) i) (λ u f. cc))
prepare_sound z {V = V} p t h (is_silent same e) = subst (λ (x : Turn). TurnSound (here z p.number) V x) (sym e) (silent (stays _ _ _) refl refl h)
prepare_sound z {V = V} {row = row} p t h (table.PrepareTurn.nacks a is up e) =
    subst (λ (x : Turn). TurnSound (here z p.number) V x) (sym e) (quiet _ h (λ q i. one_packet V (rows_with (here z p.number) row) _ q tt i) (λ u f. cc))

accept_sound :
    (z : Setting) {V : Votes} {row : Row} {ms : List Mark} (p : Packet) (entry : Entry) (t : Turn)
    → At (here z p.number) V row ms → V p.ballot.owner p.number p.ballot entry
    → AcceptTurn z.seat ms row p entry t → TurnSound (here z p.number) V t
accept_sound z {V = V} {row = row} p entry t h ours (table.AcceptTurn.nacks a is up e) =
    subst (λ (x : Turn). TurnSound (here z p.number) V x) (sym e) (quiet _ h (λ q i. one_packet V (rows_with (here z p.number) row) _ q tt i) (λ u f. cc))
accept_sound z {V = V} {row = row} p entry t h ours (votes_again own release after free at_it hearing e) =
    subst (λ (x : Turn). TurnSound (here z p.number) V x) (sym e) (quiet _ heard.0 out heard.1)
  where
    held : V z.seat.me p.number p.ballot own
    held = row_kept (record { ballot = p.ballot; entry = own }) h at_it

    heard : At (here z p.number) V row after × ((u : Entry) → release ≡ Some u → (a : Ballot) × Majority z.seat.members (λ m. V m p.number a u))
    heard = at_hear z.seat.me p.ballot own release after h held hearing

    out : (q : Packet) → IsAmong (to_others z.seat p.number p.ballot (Accepted own)) q → PacketHolds V (rows_with (here z p.number) row) q
    out q i = let y = among-map (packet_to z.seat p.number p.ballot (Accepted own)) (others z.seat) q i in subst (λ (x : Packet). PacketHolds V (rows_with (here z p.number) row) x) (sym y.1) held
accept_sound z {V = V} {row = row} {ms = ms} p entry t h ours (votes release after free unvoted hearing e) =
    subst (λ (x : Turn). TurnSound (here z p.number) V x) (sym e)
    (record { votes = W; stands = heard.0; grows = λ k j a u v. old v; held = helds; out = out; release = heard.1 })
  where
    W : Votes
    W = WithVote V z.seat.me p.number p.ballot entry

    before : Rows
    before = rows_with (here z p.number) row

    rows : Rows
    rows = rows_with (here z p.number) (voted p.ballot entry)

    ups : (k j : ℕ) → (rows k j ≡ before k j) ⊎ (k ≡ z.seat.me) × (j ≡ p.number) × (rows k j ≡ voted p.ballot entry)
    ups k j = elim (saved_cases z.rows z.seat.me p.number row (voted p.ballot entry) k j) [ inl f ↦ inl f | inr f ↦ inr (f.0, f.1, f.3) ]

    unopened :
        (own : Option Entry) (report : Option Vote) (now : ℕ) (since past : List Mark)
        → with_at z.marks z.seat.me ms z.seat.me ≡ since ++ Began p.number p.ballot own report now ∷ past → ¬ NotProposed since p.number p.ballot
    unopened own report now since past f np =
        let owner : p.ballot.owner ≡ z.seat.me = (marks_hold (Began p.number p.ballot own report now) h (among_split ms since past (Began p.number p.ballot own report now) (sym (with_at-same z.marks z.seat.me ms) ∙ f))).0 in
        (h.sound.gathering z.seat.me).unvoted p.number p.ballot own report now since past f np entry (subst (λ (x : ℕ). V x p.number p.ballot entry) owner ours)

    is_vote : IsVote V before (with_at z.marks z.seat.me ms) z.seat.me p.number p.ballot entry
    is_vote = record {
      free = subst (λ (x : Row). IsNoneOrAtMost x.promised p.ballot) (sym (saved-same z.rows z.seat.me p.number row)) free;
      unvoted = λ u f. unvoted u (ap (λ x. x.vote) (sym (saved-same z.rows z.seat.me p.number row)) ∙ f);
      owned = old ours;
      unopened = unopened;
    }

    has_voted : At (here z p.number) W (voted p.ballot entry) ms
    has_voted = record { sound = vote h.sound rows z.seat.me p.number p.ballot entry (saved-same z.rows z.seat.me p.number (voted p.ballot entry)) ups is_vote (h.sound.safe p.ballot.owner p.number p.ballot entry ours) (h.sound.offered p.ballot.owner p.number p.ballot entry ours) }

    heard : At (here z p.number) W (voted p.ballot entry) after × ((u : Entry) → release ≡ Some u → (a : Ballot) × Majority z.seat.members (λ m. W m p.number a u))
    heard = at_hear z.seat.me p.ballot entry release after has_voted (new refl refl refl refl) hearing

    helds : (k j : ℕ) (a : Ballot) (u : Entry) → W k j a u → V k j a u ⊎ VotedAt (rows k j) a u
    helds k j a u (old v) = inl v
    helds k j a u (new f g i l) = inr (rw (f, g, i, l) (ap (λ x. x.vote) (saved-same z.rows z.seat.me p.number (voted p.ballot entry))))

    out : (q : Packet) → IsAmong (to_others z.seat p.number p.ballot (Accepted entry)) q → PacketHolds W rows q
    out q i = let y = among-map (packet_to z.seat p.number p.ballot (Accepted entry)) (others z.seat) q i in subst (λ (x : Packet). PacketHolds W rows x) (sym y.1) (new refl refl refl refl)

promise_sound :
    (z : Setting) {V : Votes} {row : Row} {ms : List Mark} (now : ℕ) (p : Packet) (r : Option Vote) (t : Turn)
    → At (here z p.number) V row ms → PromiseHolds V (rows_with (here z p.number) row) p.from p.number p.ballot r
    → PromiseTurn z.seat now ms row p r t → TurnSound (here z p.number) V t
promise_sound z {V = V} now p r t h kept (table.PromiseTurn.is_stale i e) = subst (λ (x : Turn). TurnSound (here z p.number) V x) (sym e) (silent (stays _ _ _) refl refl h)
promise_sound z {V = V} now p r t h kept (is_overtaken own report since g i e) = subst (λ (x : Turn). TurnSound (here z p.number) V x) (sym e) (silent (stays _ _ _) refl refl h)
promise_sound z {V = V} now p r t h kept (is_repeated own report since s g i k e) = subst (λ (x : Turn). TurnSound (here z p.number) V x) (sym e) (silent (stays _ _ _) refl refl h)
promise_sound z {V = V} now p r t h kept (counts own report since g i k few e) =
    subst (λ (x : Turn). TurnSound (here z p.number) V x) (sym e)
    (silent (stays _ _ _) refl refl (at_mark (Promised p.number p.from p.ballot r) h kept (λ n a w q j f. cc)))
promise_sound z {V = V} {ms = ms} now p r t h kept (completes own report since g i k many proposing) =
    propose_sound now t (at_mark (Promised p.number p.from p.ballot r) h kept (λ n a w q j f. cc)) i grown many proposing
  where
    unproposed : (j : ℕ) → ¬ IsAmong (Promised p.number p.from p.ballot r ∷ since) (Proposed p.number p.ballot j)
    unproposed j (inl e) = cc
    unproposed j (inr e) = g.unproposed j e

    grown : Opened (Promised p.number p.from p.ballot r ∷ ms) p.number p.ballot own report (Promised p.number p.from p.ballot r ∷ since)
    grown = record { now = g.is_open.now; before = g.is_open.before; began = ap (λ l. Promised p.number p.from p.ballot r ∷ l) g.is_open.began; unproposed = unproposed }

nack_sound :
    (z : Setting) {V : Votes} {row : Row} {ms : List Mark} (p : Packet) (a : Ballot) (t : Turn)
    → At (here z p.number) V row ms → NackTurn ms row p a t → TurnSound (here z p.number) V t
nack_sound z {V = V} p a t h (table.NackTurn.is_stale i e) = subst (λ (x : Turn). TurnSound (here z p.number) V x) (sym e) (silent (stays _ _ _) refl refl h)
nack_sound z {V = V} p a t h (is_denied own report since g e) =
    subst (λ (x : Turn). TurnSound (here z p.number) V x) (sym e) (silent (stays _ _ _) refl refl (at_mark (Denied p.number a) h tt (λ n b w q j f. cc)))

accepted_sound :
    (z : Setting) {V : Votes} {row : Row} {ms : List Mark} (p : Packet) (entry : Entry) (t : Turn)
    → At (here z p.number) V row ms → V p.from p.number p.ballot entry
    → AcceptedTurn z.seat ms row p entry t → TurnSound (here z p.number) V t
accepted_sound z {V = V} p entry t h ours (settles released e) = subst (λ (x : Turn). TurnSound (here z p.number) V x) (sym e) (silent (stays _ _ _) refl refl h)
accepted_sound z {V = V} p entry t h ours (hears release after unreleased hearing e) =
    let heard = at_hear p.from p.ballot entry release after h ours hearing in
    subst (λ (x : Turn). TurnSound (here z p.number) V x) (sym e) (quiet _ heard.0 (λ q i. absurd i) heard.1)

answer_sound :
    (z : Setting) {V : Votes} {row : Row} {ms : List Mark} (now : ℕ) (p : Packet) (body : Body) (t : Turn)
    → At (here z p.number) V row ms → BodyHolds V (rows_with (here z p.number) row) p.from p.number p.ballot body
    → AnswerTurn z.seat now ms row p body t → TurnSound (here z p.number) V t
answer_sound z now p Prepare t h holds turn = prepare_sound z p t h turn
answer_sound z now p (Promise r) t h holds turn = promise_sound z now p r t h holds turn
answer_sound z now p (Accept entry) t h holds turn = accept_sound z p entry t h holds turn
answer_sound z now p (Accepted entry) t h holds turn = accepted_sound z p entry t h holds turn
answer_sound z now p (Nack a) t h holds turn = nack_sound z p a t h turn

recall_sound :
    {z : Setting} {V : Votes} {row : Row} {ms : List Mark} (to : ℕ) (t : Turn)
    → At z V row ms → RecallTurn z.seat z.number to ms row t → TurnSound z V t
recall_sound {z = z} {V = V} to t h (is_blank none e) = subst (λ (x : Turn). TurnSound z V x) (sym e) (silent (stays _ _ _) refl refl h)
recall_sound {z = z} {V = V} {row = row} to t h (tells_again b own other at_it e) =
    subst (λ (x : Turn). TurnSound z V x) (sym e)
    (quiet _ h (λ q i. one_packet V (rows_with z row) _ q (row_kept (record { ballot = b; entry = own }) h at_it) i) (λ u f. cc))
recall_sound {z = z} {V = V} to t h (hears_again b own release after mine at_it hearing e) =
    let heard = at_hear z.seat.me b own release after h (row_kept (record { ballot = b; entry = own }) h at_it) hearing in
    subst (λ (x : Turn). TurnSound z V x) (sym e) (quiet _ heard.0 (λ q i. absurd i) heard.1)

-- what an event brings: an offer is among the offers, a packet_to was sent
abbrev pub EventHolds : Votes → Rows → List Offer → Event → Type 0
EventHolds V rows offers (Offered n entry now) = IsOffered offers n entry
EventHolds V rows offers (Sought n now) = Unit {0}
EventHolds V rows offers (Came_due n now) = Unit {0}
EventHolds V rows offers (Arrived p now) = PacketHolds V rows p
EventHolds V rows offers (Recalled n to) = Unit {0}

pub turn_sound :
    (z : Setting) {V : Votes} {row : Row} {ms : List Mark} (e : Event) (t : Turn)
    → At (here z (number_of e)) V row ms → IsMember z.seat.members z.seat.me → EventHolds V (rows_with (here z (number_of e)) row) z.offers e
    → IsTurn z.seat ms row e t → TurnSound (here z (number_of e)) V t
turn_sound z (Offered n entry now) t h member holds turn =
    start_sound (Some entry) now t h member (λ u f. subst (λ (x : Entry). IsOffered z.offers n x) (some_inj f) holds) turn
turn_sound z (Sought n now) t h member holds turn = start_sound None now t h member (λ u f. let no : None ≡ Some u = f in cc) turn
turn_sound z (Came_due n now) t h member holds turn = due_sound now t h member turn
turn_sound z (Arrived p now) t h member holds turn = answer_sound z now p p.body t h holds turn
turn_sound z (Recalled n to) t h member holds turn = recall_sound to t h turn
