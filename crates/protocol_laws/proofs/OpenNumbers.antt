-- What is open with a member of a circuit is a number that there is, and the circuit has more than one member: one alone decides at once.
use Rattle.std.proofs.Common.{◌≡◌, ℕ, ◌*◌, ◌+◌, ◌<◌, ◌⊎◌, inl, inr, refl, sym, ap, subst, ◌∙◌, arith, List, [], ◌∷◌, Option, Some, None, Bool, true, false, cond}
use Rattle.std.specs.Prelude.{◌==◌, Result, Ok, Err, count_by, filter_map}
use Rattle.std.proofs.lemmas.Bool.{eqb-true, eq-eqb, lt-ltb}
use Rattle.protocol.specs.Limits.{is_number}
use Rattle.protocol.specs.Lists.{IsAmong}
use Rattle.protocol.specs.Seats.{Seat}
use Rattle.protocol.specs.Ballots.{Ballot, IsMember, is_majority, is_below, members}
use Rattle.protocol.specs.Entries.{Entry}
use Rattle.protocol.specs.Rows.{Vote, Row, vote_for}
use Rattle.protocol.specs.Packets.{Packet, Body, Prepare, Promise, Accept, Accepted, Nack}
use Rattle.protocol.specs.Marks.{Mark, Began, Promised, Proposed, Denied, Heard, Closed, Released, releases as releases_it}
use Rattle.protocol.specs.Proposals.{Opening, was_released, open_proposal, next_due}
use Rattle.protocol.specs.Readings.{IsReleased}
use Rattle.protocol.specs.Learner.{vote_of, latest, ripe}
use Rattle.protocol.specs.Turn.{Turn, stays, Note, Event, Offered, Sought, Came_due, Arrived, Recalled, number_of, turn}
use Rattle.protocol.specs.Table.{Hears, was_settled, waits, releases, Proposes, nothing, proposes, Begins, asks, alone, starts, DueTurn, gives_up, begins_anew, promises, is_silent, votes_again, votes, PromiseTurn, is_overtaken, is_repeated, counts, completes, is_denied, settles, hears, RecallTurn, is_blank, tells_again, hears_again, AnswerTurn, IsTurn}
use Rattle.protocol.specs.Table as table
use Rattle.protocol.specs.Refusals.{Call, Offering, Seeking, Falling_due, Receiving, Recalling, Bad_number, number_refusal, wire_refusal, call_refusal, early_refusal, tape_refusal, refusal, due_event, arrival, event_of}
use Rattle.protocol.specs.Circuit.{Circuit, hears as takes_for, State, Step, Outcome, with_at, seat_at, setup_of, StepsTo, is_refused, is_idle as is_idle_step, is_spent, is_done, is_torn, restarts, upgrades, upgrade_is_torn, is_armed, History, starts as starts_fresh, goes_on}
use Rattle.protocol_laws.proofs.Places.{with_at_cases, with_at-self}
use Rattle.protocol_laws.proofs.Looking.{among_has, filter_map_among, greatest_none}
use Rattle.protocol_laws.proofs.Majorities.{one_more}
use Rattle.protocol_laws.proofs.Reading.{is_same-self, open_read, ripe_is, NoMember, FoundAs, found_member, stands_at, is_ripe}
use Rattle.protocol_laws.proofs.Meeting.{is_turn}
use Rattle.protocol_laws.proofs.Steps.{same_state}
use Rattle.protocol_laws.proofs.Holding.{first_none, unstopped}
use Rattle.protocol_laws.proofs.Replying.{apart}
use Rattle.protocol_laws.proofs.OpenMarks.{closed_now}

none_some : {A : Type 0} {x : A} → None ≡ Some x → ⊥
none_some e = cc

-- each number that is open passes
record Opens (P : ℕ → Type 0) (ms : List Mark) : Type 0 where
  each : (n : ℕ) (o : Opening) → open_proposal n ms ≡ Some o → P n

no_marks : {P : ℕ → Type 0} → Opens P []
no_marks = record { each = λ n o e. absurd (none_some e) }

-- a number that the mark begins passes, if it begins one
abbrev Passes : (ℕ → Type 0) → Mark → Type 0
Passes P (Began n b own report now) = P n
Passes P (Promised n m b report) = Unit {0}
Passes P (Proposed n b now) = Unit {0}
Passes P (Denied n p) = Unit {0}
Passes P (Heard n m b entry) = Unit {0}
Passes P (Closed n) = Unit {0}
Passes P (Released n entry) = Unit {0}

and_mark : {P : ℕ → Type 0} (x : Mark) {ms : List Mark} → Passes P x → Opens P ms → Opens P (x ∷ ms)
and_mark {P = P} x {ms = ms} f h = record { each = λ n o e. go x f n o e }
  where
    go : (x : Mark) → Passes P x → (n : ℕ) (o : Opening) → open_proposal n (x ∷ ms) ≡ Some o → P n
    go (Began k b own report now) f n o e = at (k == n) refl
      where
        at : (t : Bool) → (k == n) ≡ t → P n
        at true same = subst P (eqb-true k n same) f
        at false other = h.each n o (rw other at e)
    go (Promised k m b report) f n o e = h.each n o e
    go (Proposed k b now) f n o e = h.each n o e
    go (Denied k p) f n o e = h.each n o e
    go (Heard k m b entry) f n o e = h.each n o e
    go (Closed k) f n o e = at (k == n) refl
      where
        at : (t : Bool) → (k == n) ≡ t → P n
        at true same =
            let none : open_proposal n (Closed k ∷ ms) ≡ None = subst (λ (q : ℕ). open_proposal n (Closed q ∷ ms) ≡ None) (sym (eqb-true k n same)) (closed_now n ms) in
            absurd (none_some (sym none ∙ e))
        at false other = h.each n o (rw other at e)
    go (Released k u) f n o e = at (k == n) refl
      where
        at : (t : Bool) → (k == n) ≡ t → P n
        at true same = let no : None ≡ Some o = rw same at e in absurd (none_some no)
        at false other = h.each n o (rw other at e)

stays_so : {P : ℕ → Type 0} {row : Row} {ms : List Mark} {t : Turn} {note : Note} → t ≡ stays row ms note → Opens P ms → Opens P t.marks
stays_so {P = P} e h = subst (λ (t : Turn). Opens P t.marks) (sym e) h

hears_so :
    {P : ℕ → Type 0} {c n j : ℕ} {b : Ballot} {t : Entry} {marks after : List Mark} {release : Option Entry} → Hears c n j b t marks release after
    → Opens P marks → Opens P after
hears_so {P = P} (was_settled i er ea) h = subst (λ (l : List Mark). Opens P l) (sym ea) h
hears_so {P = P} {n = n} {j = j} {b = b} {t = t} (waits i w er ea) h = subst (λ (l : List Mark). Opens P l) (sym ea) (and_mark (Heard n j b t) tt h)
hears_so {P = P} {n = n} {j = j} {b = b} {t = t} (releases a u i is_so er ea) h =
    subst (λ (l : List Mark). Opens P l) (sym ea) (and_mark (Released n u) tt (and_mark (Heard n j b t) tt h))

proposes_so :
    {P : ℕ → Type 0} {seat : Seat} {n : ℕ} {b : Ballot} {now : ℕ} {own : Option Entry} {report : Option Vote} {since : List Mark} {row : Row} {marks : List Mark} {t : Turn}
    → Proposes seat n b now own report since row marks t → Opens P marks → Opens P t.marks
proposes_so {n = n} (nothing picks e) h = stays_so e (and_mark (Closed n) tt h)
proposes_so {P = P} {n = n} {b = b} {now = now} (proposes entry release after picks hearing e) h =
    subst (λ (t : Turn). Opens P t.marks) (sym e) (hears_so hearing (and_mark (Proposed n b now) tt h))

-- one member of one is a majority
one_majority : (f : ℕ → Bool) → f 1 ≡ true → is_majority 1 f ≡ true
one_majority f e = lt-ltb 1 (2 * count_by f (members 1)) many
  where
    one : count_by f (1 ∷ []) ≡ cond (f 1) 1 0 + count_by f []
    one = one_more f 1 []

    many : 1 < 2 * count_by f (1 ∷ [])
    many = let g : cond {A = ℕ} (f 1) 1 0 ≡ 1 = ap (λ (t : Bool). cond {A = ℕ} t 1 0) e in omega (arith, one)

-- the vote of the only member is ripe as it is heard
alone_ripe :
    (c j n : ℕ) (b : Ballot) (t : Entry) (ms : List Mark) → c ≡ 1 → j ≡ 1
    → (v : Vote) × (ripe c n (Heard n j b t ∷ ms) ≡ Some v)
alone_ripe c j n b t ms one first = go (ripe c n heard) refl
  where
    heard : List Mark
    heard = Heard n j b t ∷ ms

    member : IsMember c j
    member = (omega arith, omega arith)

    found : IsAmong (filter_map (vote_of n j) heard) (vote_for b t)
    found =
        filter_map_among (vote_of n j) heard (Heard n j b t) (vote_for b t) (inl refl)
        (let e : (n == n) ≡ true = eq-eqb n n refl in let f : (j == j) ≡ true = eq-eqb j j refl in rw (e, f) refl)

    many : (x : Vote) → latest n heard j ≡ Some x → is_majority c (stands_at n heard x.ballot) ≡ true
    many x e =
        let f : stands_at n heard x.ballot j ≡ true = rw e (is_same-self x.ballot x.ballot refl) in
        subst (λ (q : ℕ). is_majority q (stands_at n heard x.ballot) ≡ true) (sym one)
        (one_majority (stands_at n heard x.ballot) (subst (λ (q : ℕ). stands_at n heard x.ballot q ≡ true) first f))

    none : NoMember c (latest n heard) (is_ripe c n heard) → (r : Option Vote) → latest n heard j ≡ r → ⊥
    none unripe None e = greatest_none (λ (v u : Vote). is_below u.ballot v.ballot) (filter_map (vote_of n j) heard) (vote_for b t) e found
    none unripe (Some x) e = unripe.no_one j x member e (many x e)

    go : (r : Option Vote) → ripe c n heard ≡ r → (v : Vote) × (ripe c n heard ≡ Some v)
    go (Some v) e = (v, e)
    go None e =
        absurd (none (subst (FoundAs c (latest n heard) (is_ripe c n heard)) e (found_member c (latest n heard) (is_ripe c n heard))) (latest n heard j) refl)

-- so what the only member proposes is not open then
alone_ends :
    {seat : Seat} {n : ℕ} {b : Ballot} {now : ℕ} {own : Option Entry} {report : Option Vote} {since : List Mark} {row : Row} {marks : List Mark} {t : Turn}
    → seat.members ≡ 1 → seat.me ≡ 1 → Proposes seat n b now own report since row marks t → open_proposal n t.marks ≡ None
alone_ends {n = n} {marks = marks} one first (nothing picks e) = subst (λ (t : Turn). open_proposal n t.marks ≡ None) (sym e) (closed_now n marks)
alone_ends {seat = seat} {n = n} {b = b} {now = now} {marks = marks} one first (proposes entry release after picks hearing e) =
    subst (λ (t : Turn). open_proposal n t.marks ≡ None) (sym e) (by hearing)
  where
    self : (n == n) ≡ true
    self = eq-eqb n n refl

    settled : (ms : List Mark) → IsReleased ms n → open_proposal n ms ≡ None
    settled ms (u, i) = let f : was_released n ms ≡ true = among_has (releases_it n) ms (Released n u) i self in rw f refl

    by :
        {release : Option Entry} {after : List Mark} → Hears seat.members n seat.me b entry (Proposed n b now ∷ marks) release after
        → open_proposal n after ≡ None
    by (was_settled i er ea) = subst (λ (l : List Mark). open_proposal n l ≡ None) (sym ea) (settled (Proposed n b now ∷ marks) i)
    by (waits i w er ea) =
        let (v, is) = alone_ripe seat.members seat.me n b entry (Proposed n b now ∷ marks) one first in
        absurd (w v.ballot v.entry (ripe_is seat.members n (Heard n seat.me b entry ∷ Proposed n b now ∷ marks) v is))
    by (releases a u i is_so er ea) = subst (λ (l : List Mark). open_proposal n l ≡ None) (sym ea) (rw self refl)

module _ (c : ℕ) where
  -- a number that there is, in a circuit of more than one member
  abbrev Good : ℕ → Type 0
  Good n = (is_number n ≡ true) × ((c == 1) ≡ false)

  begins_so :
      {seat : Seat} {n : ℕ} {b : Ballot} {own : Option Entry} {now : ℕ} {row : Row} {marks : List Mark} {t : Turn} → seat.members ≡ c → IsMember c seat.me
      → is_number n ≡ true → Begins seat n b own now row marks t → Opens Good marks → Opens Good t.marks
  begins_so {seat = seat} {n = n} {b = b} {own = own} {now = now} {row = row} size me number (asks many e) h =
      subst (λ (t : Turn). Opens Good t.marks) (sym e) (and_mark (Began n b own row.vote now) (number, more) h)
    where
      more : (c == 1) ≡ false
      more = apart c 1 (λ f. clash f)
        where
          clash : c ≡ 1 → ⊥
          clash f = let l : 1 < seat.members = many in let g : seat.members ≡ c = size in omega arith
  begins_so {seat = seat} {n = n} {b = b} {own = own} {now = now} {row = row} {marks = marks} {t = t} size me number (alone one proposing) h =
      record { each = λ k o e. elim (opened.each k o e) [ inl good ↦ good | inr same ↦ absurd (none_some (sym (subst (λ (q : ℕ). open_proposal q t.marks ≡ None) (sym same) ended) ∙ e)) ] }
    where
      opened : Opens (λ k. Good k ⊎ (k ≡ n)) t.marks
      opened = proposes_so proposing (and_mark (Began n b own row.vote now) (inr refl) (record { each = λ k o e. inl (h.each k o e) }))

      first : seat.me ≡ 1
      first = let g : seat.members ≡ c = size in let f : seat.members ≡ 1 = one in let a = me.0 in let l = me.1 in omega arith

      ended : open_proposal n t.marks ≡ None
      ended = alone_ends one first proposing

  due_so :
      {seat : Seat} {n now : ℕ} {marks : List Mark} {row : Row} {t : Turn} → seat.members ≡ c → IsMember c seat.me → DueTurn seat n now marks row t
      → Opens Good marks → Opens Good t.marks
  due_so size me (table.DueTurn.is_idle i e) h = stays_so e h
  due_so {n = n} size me (gives_up b own denied seen due g g' l e) h = stays_so e (and_mark (Closed n) tt h)
  due_so {n = n} {marks = marks} size me (begins_anew b own denied seen a due g g' l e begins) h =
      begins_so size me (h.each n _ (open_read n marks b own due.report due.since due.is_open).read).0 begins h

  promise_so :
      {seat : Seat} {now : ℕ} {marks : List Mark} {row : Row} {p : Packet} {report : Option Vote} {t : Turn}
      → PromiseTurn seat now marks row p report t → Opens Good marks → Opens Good t.marks
  promise_so (table.PromiseTurn.is_stale i e) h = stays_so e h
  promise_so (is_overtaken own mine since g i e) h = stays_so e h
  promise_so (is_repeated own mine since s g i k e) h = stays_so e h
  promise_so {p = p} {report = report} (counts own mine since g i k few e) h = stays_so e (and_mark (Promised p.number p.from p.ballot report) tt h)
  promise_so {p = p} {report = report} (completes own mine since g i k many proposing) h =
      proposes_so proposing (and_mark (Promised p.number p.from p.ballot report) tt h)

  answer_so :
      (seat : Seat) (now : ℕ) (marks : List Mark) (row : Row) (p : Packet) (body : Body) (t : Turn)
      → AnswerTurn seat now marks row p body t → Opens Good marks → Opens Good t.marks
  answer_so seat now marks row p Prepare t (promises free e) h = subst (λ (t : Turn). Opens Good t.marks) (sym e) h
  answer_so seat now marks row p Prepare t (is_silent same e) h = stays_so e h
  answer_so seat now marks row p Prepare t (table.PrepareTurn.nacks a is up e) h = subst (λ (t : Turn). Opens Good t.marks) (sym e) h
  answer_so seat now marks row p (Promise report) t taken h = promise_so taken h
  answer_so seat now marks row p (Accept entry) t (table.AcceptTurn.nacks a is up e) h = subst (λ (t : Turn). Opens Good t.marks) (sym e) h
  answer_so seat now marks row p (Accept entry) t (votes_again own release after free at_it hearing e) h =
      subst (λ (t : Turn). Opens Good t.marks) (sym e) (hears_so hearing h)
  answer_so seat now marks row p (Accept entry) t (votes release after free unvoted hearing e) h =
      subst (λ (t : Turn). Opens Good t.marks) (sym e) (hears_so hearing h)
  answer_so seat now marks row p (Accepted entry) t (settles i e) h = stays_so e h
  answer_so seat now marks row p (Accepted entry) t (hears release after i hearing e) h =
      subst (λ (t : Turn). Opens Good t.marks) (sym e) (hears_so hearing h)
  answer_so seat now marks row p (Nack a) t (table.NackTurn.is_stale i e) h = stays_so e h
  answer_so seat now marks row p (Nack a) t (is_denied own mine since o e) h = stays_so e (and_mark (Denied p.number a) tt h)

  recall_so :
      {seat : Seat} {n to : ℕ} {marks : List Mark} {row : Row} {t : Turn} → RecallTurn seat n to marks row t → Opens Good marks → Opens Good t.marks
  recall_so (is_blank none e) h = stays_so e h
  recall_so (tells_again b own other at_it e) h = subst (λ (t : Turn). Opens Good t.marks) (sym e) h
  recall_so (hears_again b own release after mine at_it hearing e) h = subst (λ (t : Turn). Opens Good t.marks) (sym e) (hears_so hearing h)

  -- the number that is offered or sought is one that there is
  abbrev Asks : Event → Type 0
  Asks (Offered n entry now) = is_number n ≡ true
  Asks (Sought n now) = is_number n ≡ true
  Asks (Came_due n now) = Unit {0}
  Asks (Arrived p now) = Unit {0}
  Asks (Recalled n to) = Unit {0}

  turn_so :
      (seat : Seat) (marks : List Mark) (row : Row) (e : Event) (t : Turn) → seat.members ≡ c → IsMember c seat.me → IsTurn seat marks row e t → Asks e
      → Opens Good marks → Opens Good t.marks
  turn_so seat marks row (Offered n entry now) t size me (starts b i begins) number h = begins_so size me number begins h
  turn_so seat marks row (Sought n now) t size me (starts b i begins) number h = begins_so size me number begins h
  turn_so seat marks row (Came_due n now) t size me taken number h = due_so size me taken h
  turn_so seat marks row (Arrived p now) t size me taken number h = answer_so seat now marks row p p.body t taken h
  turn_so seat marks row (Recalled n to) t size me taken number h = recall_so taken h

some_same : {A : Type 0} {x y : A} → Some x ≡ Some y → x ≡ y
some_same e = cc

-- what is not refused as a number is one
numbered : {D F : Type 0} (n : ℕ) (marks : List Mark) → number_refusal {D = D} {F = F} n marks ≡ None → is_number n ≡ true
numbered {D = D} {F = F} n marks e = go (is_number n) refl
  where
    go : (t : Bool) → is_number n ≡ t → is_number n ≡ true
    go true f = f
    go false f = let no : Some Bad_number ≡ None = rw f at e in cc

module _ {D G F : Type 0} (z : Circuit D G F) where
  -- what nothing refuses, its call does not
  uncalled :
      (w : State G F) (m : ℕ) (call : Call) → refusal (setup_of z (w.version m) m) (w.is_stopped m) (w.marks m) call ≡ None
      → call_refusal (setup_of z (w.version m) m) (w.marks m) call ≡ None
  uncalled w m call e =
      unstopped (w.is_stopped m) (call_refusal (setup_of z (w.version m) m) (w.marks m) call)
      (first_none (early_refusal (setup_of z (w.version m) m) (w.is_stopped m) (w.marks m) call) (tape_refusal (setup_of z (w.version m) m) call) e)

  asked :
      (w : State G F) (m : ℕ) (call : Call) (e : Event) → refusal (setup_of z (w.version m) m) (w.is_stopped m) (w.marks m) call ≡ None
      → event_of (setup_of z (w.version m) m) (w.marks m) call ≡ Some e → Asks z.count e
  asked w m (Offering n entry now) e free event =
      subst (λ (x : Event). Asks z.count x) (some_same event)
      (numbered n (w.marks m) (first_none (number_refusal {D = D} {F = F} n (w.marks m)) (wire_refusal ((setup_of z (w.version m) m).fits entry)) (uncalled w m (Offering n entry now) free)))
  asked w m (Seeking n now) e free event =
      subst (λ (x : Event). Asks z.count x) (some_same event) (numbered n (w.marks m) (uncalled w m (Seeking n now) free))
  asked w m (Falling_due now) e free event = by (next_due m now (w.marks m)) event
    where
      by : (r : Option ℕ) → due_event r now ≡ Some e → Asks z.count e
      by None f = absurd (none_some f)
      by (Some n) f = subst (λ (x : Event). Asks z.count x) (some_same f) tt
  asked w m (Recalling n to) e free event = subst (λ (x : Event). Asks z.count x) (some_same event) tt
  asked w m (Receiving bytes now) e free event = by (takes_for z (w.version m) bytes) event
    where
      by : (r : Result Packet D) → arrival r now ≡ Some e → Asks z.count e
      by (Err fault) f = absurd (none_some f)
      by (Ok p) f = subst (λ (x : Event). Asks z.count x) (some_same f) tt

  abbrev AllOpen : State G F → Type 0
  AllOpen w = (m : ℕ) → Opens (Good z.count) (w.marks m)

  marked : (w : State G F) → AllOpen w → (m : ℕ) (marks : List Mark) → Opens (Good z.count) marks → (k : ℕ) → Opens (Good z.count) (with_at w.marks m marks k)
  marked w h m marks f k = elim (with_at_cases w.marks m (w.marks m) marks k) [
    | inl e ↦ subst (λ (l : List Mark). Opens (Good z.count) l) (sym (e ∙ with_at-self w.marks m k)) (h k)
    | inr e ↦ subst (λ (l : List Mark). Opens (Good z.count) l) (sym e.2) f
  ]

  step_so : (w : State G F) (s : Step) (o : Outcome D F) (after : State G F) → AllOpen w → StepsTo z w s o after → AllOpen after
  step_so w s o after h (is_refused m call r task member refused how is) = subst (λ (x : State G F). AllOpen x) (sym (same_state is)) h
  step_so w s o after h (is_idle_step m call task member unrefused event how is) = subst (λ (x : State G F). AllOpen x) (sym (same_state is)) h
  step_so w s o after h (is_spent m call e task member unrefused event turn how is) = subst (λ (x : State G F). AllOpen x) (sym (same_state is)) h
  step_so w s o after h (is_done m call e t out task member unrefused event taken carried armed how is) =
      subst (λ (x : State G F). AllOpen x) (sym (same_state is))
      (marked w h m t.marks (turn_so z.count (seat_at z m) (w.marks m) (w.rows m (number_of e)) e t refl member (is_turn (seat_at z m) (w.marks m) (w.rows m (number_of e)) e t member taken) (asked w m call e unrefused event) (h m)))
  step_so w s o after h (is_torn m call e row armed task member event leaves is) =
      subst (λ (x : State G F). AllOpen x) (sym (same_state is)) (marked w h m [] no_marks)
  step_so w s o after h (restarts m member is_restart how is) = subst (λ (x : State G F). AllOpen x) (sym (same_state is)) (marked w h m [] no_marks)
  step_so w s o after h (upgrades m member is_upgrade how unarmed is) =
      subst (λ (x : State G F). AllOpen x) (sym (same_state is)) (marked w h m [] no_marks)
  step_so w s o after h (upgrade_is_torn m v member is_upgrade turns is) =
      subst (λ (x : State G F). AllOpen x) (sym (same_state is)) (marked w h m [] no_marks)
  step_so w s o after h (is_armed m b member is_balk how is) = subst (λ (x : State G F). AllOpen x) (sym (same_state is)) h

  history_so : {w : State G F} → History z w → AllOpen w
  history_so (starts_fresh version f) = subst (λ (x : State G F). AllOpen x) (sym (same_state f)) (λ m. no_marks)
  history_so (goes_on {w = w} {after = after} h s o st) = step_so w s o after (history_so h) st

  pub open_number : {w : State G F} → History z w → (m n : ℕ) (o : Opening) → open_proposal n (w.marks m) ≡ Some o → (is_number n ≡ true) × ((z.count == 1) ≡ false)
  open_number h m n o e = (history_so h m).each n o e
