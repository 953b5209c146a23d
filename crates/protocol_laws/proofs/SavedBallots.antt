-- Each vote that is saved has a round from 1 on.
use Rattle.std.proofs.Common.{◌≡◌, ℕ, suc, ◌≤◌, ◌⊎◌, inl, inr, refl, sym, subst, ◌∙◌, arith, List, [], ◌∷◌, ◌++◌, Option, Some, None, Bool, true, false}
use Rattle.std.specs.Prelude.{IfSome, nat_lt}
use Rattle.std.specs.List.{AllZip}
use Rattle.protocol.specs.Lists.{IsAmong}
use Rattle.protocol.specs.Seats.{Seat}
use Rattle.protocol.specs.Ballots.{Ballot, IsMember, next, last_round}
use Rattle.protocol.specs.Entries.{Entry}
use Rattle.protocol.specs.Rows.{Vote, Row}
use Rattle.protocol.specs.Packets.{Packet, Body, Prepare, Promise, Accept, Accepted, Nack}
use Rattle.protocol.specs.Marks.{Mark, Began, Promised, Proposed, Denied, Heard, Closed, Released}
use Rattle.protocol.specs.Readings.{Gathers}
use Rattle.protocol.specs.Turn.{Turn, stays, packet_to, to_others, others, Note, Event, Offered, Sought, Came_due, Arrived, Recalled, number_of, turn}
use Rattle.protocol.specs.Table.{Hears, was_settled, waits, releases, Proposes, nothing, proposes, Begins, asks, alone, StartTurn, starts, DueTurn, is_idle, gives_up, begins_anew, PrepareTurn, promises, is_silent, AcceptTurn, votes_again, votes, PromiseTurn, is_overtaken, is_repeated, counts, completes, NackTurn, is_denied, AcceptedTurn, settles, hears, RecallTurn, is_blank, tells_again, hears_again, AnswerTurn, IsTurn}
use Rattle.protocol.specs.Table as table
use Rattle.protocol.specs.Refusals.{Call, event_of}
use Rattle.protocol.specs.Circuit.{Circuit, State, Step, Outcome, with_at, saved, IsTask, seat_at, setup_of, MayLeave, Leaves, store_before_save, memory_before_save, at_save, StepsTo, is_refused, is_idle as is_idle_step, is_spent, is_done, is_torn, restarts, upgrades, upgrade_is_torn, is_armed, History, starts as starts_fresh, goes_on}
use Rattle.protocol_laws.proofs.Places.{among_split, among-append, among-map, with_at_cases, with_at-self, saved_cases, saved-self}
use Rattle.protocol_laws.proofs.Meeting.{is_turn}
use Rattle.protocol_laws.proofs.Steps.{same_state, Goes, all_go, AllZip-append, arrived_sent}

module _ (c : ℕ) where
  -- a ballot of a round from 1 on and of a member's: that a mark begins, that a row has, that a request is sent at
  abbrev Good : Ballot → Type 0
  Good b = (1 ≤ b.round) × IsMember c b.owner

  abbrev VoteRises : Option Vote → Type 0
  VoteRises vote = IfSome vote (λ u. Good u.ballot)

  abbrev RowRises : Row → Type 0
  RowRises row = VoteRises row.vote × IfSome row.promised Good

  abbrev MarkRises : Mark → Type 0
  MarkRises (Began n b own report now) = Good b
  MarkRises (Promised n m b report) = Unit {0}
  MarkRises (Proposed n b now) = Unit {0}
  MarkRises (Denied n p) = Unit {0}
  MarkRises (Heard n m b entry) = Unit {0}
  MarkRises (Closed n) = Unit {0}
  MarkRises (Released n entry) = Unit {0}

  record MarksRise (marks : List Mark) : Type 0 where
    each : (x : Mark) → IsAmong marks x → MarkRises x

  abbrev BodyRises : Ballot → Body → Type 0
  BodyRises b Prepare = Good b
  BodyRises b (Promise report) = Unit {0}
  BodyRises b (Accept entry) = Good b
  BodyRises b (Accepted entry) = Unit {0}
  BodyRises b (Nack p) = Unit {0}

  abbrev PacketRises : Packet → Type 0
  PacketRises p = BodyRises p.ballot p.body

  abbrev EventRises : Event → Type 0
  EventRises (Offered n entry now) = Unit {0}
  EventRises (Sought n now) = Unit {0}
  EventRises (Came_due n now) = Unit {0}
  EventRises (Arrived p now) = PacketRises p
  EventRises (Recalled n to) = Unit {0}

  record TurnRises (t : Turn) : Type 0 where
    row : RowRises t.row
    marks : MarksRise t.marks
    out : (p : Packet) → IsAmong t.out p → PacketRises p

  and_mark : (x : Mark) {ms : List Mark} → MarkRises x → MarksRise ms → MarksRise (x ∷ ms)
  and_mark x {ms = ms} f h = record { each = each }
    where
      each : (y : Mark) → IsAmong (x ∷ ms) y → MarkRises y
      each y (inl e) = subst (λ (z : Mark). MarkRises z) (sym e) f
      each y (inr i) = h.each y i

  stays_rise : {row : Row} {ms : List Mark} {t : Turn} {note : Note} → t ≡ stays row ms note → RowRises row → MarksRise ms → TurnRises t
  stays_rise e r h = subst (λ (t : Turn). TurnRises t) (sym e) (record { row = r; marks = h; out = λ p i. absurd i })

  others_rise : (seat : Seat) (n : ℕ) (b : Ballot) (body : Body) → BodyRises b body → (p : Packet) → IsAmong (to_others seat n b body) p → PacketRises p
  others_rise seat n b body f p i = let y = among-map (packet_to seat n b body) (others seat) p i in subst (λ (q : Packet). PacketRises q) (sym y.1) f

  one_rises : {q : Packet} → PacketRises q → (p : Packet) → IsAmong (q ∷ []) p → PacketRises p
  one_rises f p (inl e) = subst (λ (x : Packet). PacketRises x) (sym e) f
  one_rises f p (inr e) = absurd e

  hears_rise :
      {c n j : ℕ} {b : Ballot} {t : Entry} {marks after : List Mark} {release : Option Entry} → Hears c n j b t marks release after → MarksRise marks
      → MarksRise after
  hears_rise (was_settled i er ea) h = subst (λ (l : List Mark). MarksRise l) (sym ea) h
  hears_rise {n = n} {j = j} {b = b} {t = t} (waits i w er ea) h = subst (λ (l : List Mark). MarksRise l) (sym ea) (and_mark (Heard n j b t) tt h)
  hears_rise {n = n} {j = j} {b = b} {t = t} (releases a u i ripe er ea) h =
      subst (λ (l : List Mark). MarksRise l) (sym ea) (and_mark (Released n u) tt (and_mark (Heard n j b t) tt h))

  proposes_rise :
      {seat : Seat} {n : ℕ} {b : Ballot} {now : ℕ} {own : Option Entry} {report : Option Vote} {since : List Mark} {row : Row} {marks : List Mark} {t : Turn}
      → Proposes seat n b now own report since row marks t → Good b → RowRises row → MarksRise marks → TurnRises t
  proposes_rise {n = n} (nothing picks e) l r h = stays_rise e r (and_mark (Closed n) tt h)
  proposes_rise {seat = seat} {n = n} {b = b} {now = now} (proposes entry release after picks hearing e) l r h =
      subst (λ (t : Turn). TurnRises t) (sym e) (record {
        row = (l, l);
        marks = hears_rise hearing (and_mark (Proposed n b now) tt h);
        out = λ p i.
            elim (among-append (to_others seat n b (Accept entry)) (to_others seat n b (Accepted entry)) p i) [ inl y ↦ others_rise seat n b (Accept entry) l p y | inr y ↦ others_rise seat n b (Accepted entry) tt p y ];
      })

  begins_rise :
      {seat : Seat} {n : ℕ} {b : Ballot} {own : Option Entry} {now : ℕ} {row : Row} {marks : List Mark} {t : Turn}
      → Begins seat n b own now row marks t → Good b → RowRises row → MarksRise marks → TurnRises t
  begins_rise {seat = seat} {n = n} {b = b} {own = own} {now = now} {row = row} (asks many e) l r h =
      subst (λ (t : Turn). TurnRises t) (sym e)
      (record { row = (r.0, l); marks = and_mark (Began n b own row.vote now) l h; out = others_rise seat n b Prepare l })
  begins_rise {n = n} {b = b} {own = own} {now = now} {row = row} (alone e proposing) l r h =
      proposes_rise proposing l (r.0, l) (and_mark (Began n b own row.vote now) l h)

  next_rises : (q : Option Ballot) (m : ℕ) (b : Ballot) → IsMember c m → next q m ≡ Some b → Good b
  next_rises None m b i e = let f : b ≡ record { round = 1; owner = m } = cc in subst (λ (x : Ballot). Good x) (sym f) (omega arith, i)
  next_rises (Some p) m b i e = go (nat_lt p.round last_round) refl
    where
      go : (t : Bool) → nat_lt p.round last_round ≡ t → Good b
      go true f =
          let g : Some (record { round = suc p.round; owner = m }) ≡ Some b = rw f at e in
          let k : b ≡ record { round = suc p.round; owner = m } = cc in
          subst (λ (x : Ballot). Good x) (sym k) (omega arith, i)
      go false f = let g : None ≡ Some b = rw f at e in cc

  due_rises :
      {seat : Seat} {n now : ℕ} {marks : List Mark} {row : Row} {t : Turn} → IsMember c seat.me → DueTurn seat n now marks row t → RowRises row
      → MarksRise marks → TurnRises t
  due_rises me (table.DueTurn.is_idle i e) r h = stays_rise e r h
  due_rises {n = n} me (gives_up b own denied seen due g g' l e) r h = stays_rise e r (and_mark (Closed n) tt h)
  due_rises {seat = seat} me (begins_anew b own denied seen a due g g' l e begins) r h = begins_rise begins (next_rises seen seat.me a me e) r h

  gathers_rise :
      {marks : List Mark} {n : ℕ} {b : Ballot} {own : Option Entry} {report : Option Vote} {since : List Mark} → Gathers marks n b own report since → MarksRise marks → Good b
  gathers_rise {marks = marks} {n = n} {b = b} {own = own} {report = report} {since = since} g h =
      h.each (Began n b own report g.is_open.now) (among_split marks since g.is_open.before (Began n b own report g.is_open.now) g.is_open.began)

  promise_rises :
      {seat : Seat} {now : ℕ} {marks : List Mark} {row : Row} {p : Packet} {report : Option Vote} {t : Turn}
      → PromiseTurn seat now marks row p report t → RowRises row → MarksRise marks → TurnRises t
  promise_rises (table.PromiseTurn.is_stale i e) r h = stays_rise e r h
  promise_rises (is_overtaken own mine since g i e) r h = stays_rise e r h
  promise_rises (is_repeated own mine since s g i k e) r h = stays_rise e r h
  promise_rises {p = p} {report = report} (counts own mine since g i k few e) r h = stays_rise e r (and_mark (Promised p.number p.from p.ballot report) tt h)
  promise_rises {p = p} {report = report} (completes own mine since g i k many proposing) r h =
      proposes_rise proposing (gathers_rise g h) r (and_mark (Promised p.number p.from p.ballot report) tt h)

  answer_rises :
      (seat : Seat) (now : ℕ) (marks : List Mark) (row : Row) (p : Packet) (body : Body) (t : Turn)
      → AnswerTurn seat now marks row p body t → RowRises row → MarksRise marks → BodyRises p.ballot body → TurnRises t
  answer_rises seat now marks row p Prepare t (promises free e) r h f =
      subst (λ (t : Turn). TurnRises t) (sym e) (record { row = (r.0, f); marks = h; out = one_rises tt })
  answer_rises seat now marks row p Prepare t (is_silent same e) r h f = stays_rise e r h
  answer_rises seat now marks row p Prepare t (table.PrepareTurn.nacks a is up e) r h f =
      subst (λ (t : Turn). TurnRises t) (sym e) (record { row = r; marks = h; out = one_rises tt })
  answer_rises seat now marks row p (Promise report) t taken r h f = promise_rises taken r h
  answer_rises seat now marks row p (Accept entry) t (table.AcceptTurn.nacks a is up e) r h f =
      subst (λ (t : Turn). TurnRises t) (sym e) (record { row = r; marks = h; out = one_rises tt })
  answer_rises seat now marks row p (Accept entry) t (votes_again own release after free at_it hearing e) r h f =
      subst (λ (t : Turn). TurnRises t) (sym e) (record { row = r; marks = hears_rise hearing h; out = others_rise seat p.number p.ballot (Accepted own) tt })
  answer_rises seat now marks row p (Accept entry) t (votes release after free unvoted hearing e) r h f =
      subst (λ (t : Turn). TurnRises t) (sym e)
      (record { row = (f, f); marks = hears_rise hearing h; out = others_rise seat p.number p.ballot (Accepted entry) tt })
  answer_rises seat now marks row p (Accepted entry) t (settles i e) r h f = stays_rise e r h
  answer_rises seat now marks row p (Accepted entry) t (hears release after i hearing e) r h f =
      subst (λ (t : Turn). TurnRises t) (sym e) (record { row = r; marks = hears_rise hearing h; out = λ p i. absurd i })
  answer_rises seat now marks row p (Nack a) t (table.NackTurn.is_stale i e) r h f = stays_rise e r h
  answer_rises seat now marks row p (Nack a) t (is_denied own mine since o e) r h f = stays_rise e r (and_mark (Denied p.number a) tt h)

  recall_rises :
      {seat : Seat} {n to : ℕ} {marks : List Mark} {row : Row} {t : Turn}
      → RecallTurn seat n to marks row t → RowRises row → MarksRise marks → TurnRises t
  recall_rises (is_blank none e) r h = stays_rise e r h
  recall_rises (tells_again b own other at_it e) r h = subst (λ (t : Turn). TurnRises t) (sym e) (record { row = r; marks = h; out = one_rises tt })
  recall_rises (hears_again b own release after mine at_it hearing e) r h =
      subst (λ (t : Turn). TurnRises t) (sym e) (record { row = r; marks = hears_rise hearing h; out = λ p i. absurd i })

  turn_rises :
      (seat : Seat) (marks : List Mark) (row : Row) (e : Event) (t : Turn) → IsMember c seat.me → IsTurn seat marks row e t → RowRises row
      → MarksRise marks → EventRises e → TurnRises t
  turn_rises seat marks row (Offered n entry now) t me (starts b i begins) r h f = begins_rise begins (next_rises row.promised seat.me b me i) r h
  turn_rises seat marks row (Sought n now) t me (starts b i begins) r h f = begins_rise begins (next_rises row.promised seat.me b me i) r h
  turn_rises seat marks row (Came_due n now) t me taken r h f = due_rises me taken r h
  turn_rises seat marks row (Arrived p now) t me taken r h f = answer_rises seat now marks row p p.body t taken r h f
  turn_rises seat marks row (Recalled n to) t me taken r h f = recall_rises taken r h

module _ {D G F : Type 0} (z : Circuit D G F) where
  record StateRises (w : State G F) : Type 0 where
    packets : List Packet
    spelled : AllZip (Goes z) packets w.sent
    asked : (p : Packet) → IsAmong packets p → PacketRises z.count p
    rows : (m n : ℕ) → RowRises z.count (w.rows m n)
    marks : (m : ℕ) → MarksRise z.count (w.marks m)

  no_marks : MarksRise z.count []
  no_marks = record { each = λ x i. absurd i }

  saved_rise : (w : State G F) → StateRises w → (m n : ℕ) (row : Row) → RowRises z.count row → (k j : ℕ) → RowRises z.count (saved w.rows m n row k j)
  saved_rise w h m n row f k j = elim (saved_cases w.rows m n (w.rows m n) row k j) [
    | inl e ↦ subst (λ (r : Row). RowRises z.count r) (sym (e ∙ saved-self w.rows m n k j)) (h.rows k j)
    | inr e ↦ subst (λ (r : Row). RowRises z.count r) (sym e.3) f
  ]

  marked_rise : (w : State G F) → StateRises w → (m : ℕ) (marks : List Mark) → MarksRise z.count marks → (k : ℕ) → MarksRise z.count (with_at w.marks m marks k)
  marked_rise w h m marks f k = elim (with_at_cases w.marks m (w.marks m) marks k) [
    | inl e ↦ subst (λ (l : List Mark). MarksRise z.count l) (sym (e ∙ with_at-self w.marks m k)) (h.marks k)
    | inr e ↦ subst (λ (l : List Mark). MarksRise z.count l) (sym e.2) f
  ]

  may_leave : {A : Type 0} (armed : Option Bool) (o : Outcome D F) (before after now : A) → MayLeave armed o before after now → (now ≡ before) ⊎ (now ≡ after)
  may_leave (Some false) o before after now h = inl h.1
  may_leave (Some true) o before after now h = elim h [ inl x ↦ inr x.1 | inr x ↦ x.1 ]
  may_leave None o before after now h = h.1

  event_rises :
      (w : State G F) → StateRises w → (s : Step) (m : ℕ) (call : Call) (e : Event) → IsTask w.sent s m call
      → event_of (setup_of z (w.version m) m) (w.marks m) call ≡ Some e → EventRises z.count e
  event_rises w h s m call (Offered n entry now) task event = tt
  event_rises w h s m call (Sought n now) task event = tt
  event_rises w h s m call (Came_due n now) task event = tt
  event_rises w h s m call (Recalled n to) task event = tt
  event_rises w h s m call (Arrived p now) task event = h.asked p (arrived_sent z w s m call p now h.packets h.spelled task event)

  -- what a turn leaves
  taken_rises :
      (w : State G F) → StateRises w → (s : Step) (m : ℕ) (call : Call) (e : Event) (t : Turn) → IsTask w.sent s m call → IsMember z.count m
      → event_of (setup_of z (w.version m) m) (w.marks m) call ≡ Some e → turn (seat_at z m) (w.marks m) (w.rows m (number_of e)) e ≡ Some t
      → TurnRises z.count t
  taken_rises w h s m call e t task member event taken =
      turn_rises z.count (seat_at z m) (w.marks m) (w.rows m (number_of e)) e t member
      (is_turn (seat_at z m) (w.marks m) (w.rows m (number_of e)) e t member taken) (h.rows m (number_of e)) (h.marks m)
      (event_rises w h s m call e task event)

  step_rises : (w : State G F) (s : Step) (o : Outcome D F) (after : State G F) → StateRises w → StepsTo z w s o after → StateRises after
  step_rises w s o after h (is_refused m call r task member refused how is) = subst (λ (x : State G F). StateRises x) (sym (same_state is)) h
  step_rises w s o after h (is_idle_step m call task member unrefused event how is) = subst (λ (x : State G F). StateRises x) (sym (same_state is)) h
  step_rises w s o after h (is_spent m call e task member unrefused event turn how is) = subst (λ (x : State G F). StateRises x) (sym (same_state is)) h
  step_rises w s o after h (is_done m call e t out task member unrefused event taken carried armed how is) =
      let f = taken_rises w h s m call e t task member event taken in
      subst (λ (x : State G F). StateRises x) (sym (same_state is)) (record {
        packets = h.packets ++ t.out;
        spelled = AllZip-append (Goes z) h.packets t.out w.sent out h.spelled (all_go z (w.version m) t.out out carried);
        asked = λ p i. elim (among-append h.packets t.out p i) [ inl x ↦ h.asked p x | inr x ↦ f.out p x ];
        rows = saved_rise w h m (number_of e) t.row f.row;
        marks = marked_rise w h m t.marks f.marks;
      })
  step_rises w s o after h (is_torn m call e row armed task member event leaves is) =
      subst (λ (x : State G F). StateRises x) (sym (same_state is))
      (record { packets = h.packets; spelled = h.spelled; asked = h.asked; rows = saved_rise w h m (number_of e) row (left leaves); marks = marked_rise w h m [] no_marks })
    where
      left : Leaves z w m call e o row armed → RowRises z.count row
      left (store_before_save how un same stays) = subst (λ (r : Row). RowRises z.count r) (sym same) (h.rows m (number_of e))
      left (memory_before_save how un same stays) = subst (λ (r : Row). RowRises z.count r) (sym same) (h.rows m (number_of e))
      left (at_save t un taken changes may disarmed) = elim (may_leave (w.armed m) o (w.rows m (number_of e)) t.row row may) [
        | inl same ↦ subst (λ (r : Row). RowRises z.count r) (sym same) (h.rows m (number_of e))
        | inr same ↦ subst (λ (r : Row). RowRises z.count r) (sym same) (taken_rises w h s m call e t task member event taken).row
      ]
  step_rises w s o after h (restarts m member is_restart how is) =
      subst (λ (x : State G F). StateRises x) (sym (same_state is))
      (record { packets = h.packets; spelled = h.spelled; asked = h.asked; rows = h.rows; marks = marked_rise w h m [] no_marks })
  step_rises w s o after h (upgrades m member is_upgrade how unarmed is) =
      subst (λ (x : State G F). StateRises x) (sym (same_state is))
      (record { packets = h.packets; spelled = h.spelled; asked = h.asked; rows = h.rows; marks = marked_rise w h m [] no_marks })
  step_rises w s o after h (upgrade_is_torn m v member is_upgrade turns is) =
      subst (λ (x : State G F). StateRises x) (sym (same_state is))
      (record { packets = h.packets; spelled = h.spelled; asked = h.asked; rows = h.rows; marks = marked_rise w h m [] no_marks })
  step_rises w s o after h (is_armed m b member is_balk how is) =
      subst (λ (x : State G F). StateRises x) (sym (same_state is))
      (record { packets = h.packets; spelled = h.spelled; asked = h.asked; rows = h.rows; marks = h.marks })

  history_rises : {w : State G F} → History z w → StateRises w
  history_rises (starts_fresh version f) =
      subst (λ (x : State G F). StateRises x) (sym (same_state f))
      (record { packets = []; spelled = tt; asked = λ p i. absurd i; rows = λ m n. (tt, tt); marks = λ m. no_marks })
  history_rises (goes_on {w = w} {after = after} h s o st) = step_rises w s o after (history_rises h) st

  pub vote_rises : {w : State G F} → History z w → (m n : ℕ) (x : Vote) → (w.rows m n).vote ≡ Some x → 1 ≤ x.ballot.round
  vote_rises {w = w} h m n x e = let r : VoteRises z.count (Some x) = subst (λ (o : Option Vote). VoteRises z.count o) e ((history_rises h).rows m n).0 in r.0

  -- and each promise, a member's
  pub saved_promise_rises : {w : State G F} → History z w → (m n : ℕ) (p : Ballot) → (w.rows m n).promised ≡ Some p → (1 ≤ p.round) × IsMember z.count p.owner
  saved_promise_rises {w = w} h m n p e = subst (λ (o : Option Ballot). IfSome o (Good z.count)) e ((history_rises h).rows m n).1
