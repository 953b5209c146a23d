-- What a turn asks and promises, line by line of the table; and that no turn lowers a promise.
use Rattle.std.proofs.Common.{◌≡◌, ℕ, suc, ◌⊎◌, refl, sym, ap, subst, inl, inr, arith, List, [], ◌∷◌, Option, Some, None, Bool, true, false}
use Rattle.std.specs.Prelude.{nat_lt}
use Rattle.protocol.specs.Lists.{IsAmong}
use Rattle.protocol.specs.Seats.{Seat}
use Rattle.protocol.specs.Ballots.{Ballot, IsBelow, IsNoneOrBelow, IsNoneOrAtMost, next, last_round}
use Rattle.protocol.specs.Entries.{Entry}
use Rattle.protocol.specs.Rows.{Vote, Row, raised, voted}
use Rattle.protocol.specs.Packets.{Packet, Body, Prepare, Promise, Accept, Accepted, Nack}
use Rattle.protocol.specs.Marks.{Mark, Began, Promised, Proposed, Denied, Heard, Closed, Released}
use Rattle.protocol.specs.Turn.{Turn, stays, packet_to, to_others, others, Note, Event, Offered, Sought, Came_due, Arrived, Recalled, number_of}
use Rattle.protocol.specs.Table.{Hears, was_settled, waits, Proposes, nothing, proposes, Begins, asks, alone, StartTurn, starts, IsGreater, DueTurn, is_idle, gives_up, begins_anew, PrepareTurn, promises, is_silent, AcceptTurn, votes_again, votes, PromiseTurn, is_overtaken, is_repeated, counts, completes, NackTurn, is_denied, AcceptedTurn, settles, hears, RecallTurn, is_blank, tells_again, hears_again, AnswerTurn, IsTurn}
use Rattle.protocol.specs.Table as table
use Rattle.protocol_laws.proofs.Below.{at_most_below, at_most_refl}
use Rattle.protocol_laws.proofs.Sound.{IsPromisedTo}
use Rattle.protocol_laws.proofs.Moves.{known, below_to_at_most, some_inj}
use Rattle.protocol_laws.proofs.Places.{among-append, among-map}

-- a ballot that is next is above, and the member's own
next_above : (o : Option Ballot) (m : ℕ) (b : Ballot) → next o m ≡ Some b → IsNoneOrBelow o b × (b.owner ≡ m)
next_above None m b e = (tt, ap (λ x. x.owner) (sym (some_inj e)))
next_above (Some seen) m b e = go (nat_lt seen.round last_round) refl
  where
    go : (x : Bool) → nat_lt seen.round last_round ≡ x → IsBelow seen b × (b.owner ≡ m)
    go true h =
        let same : Some (record { round = suc seen.round; owner = m }) ≡ Some b = rw h at e in
        let is : record { round = suc seen.round; owner = m } ≡ b = some_inj same in
        let up : suc seen.round ≡ b.round = ap (λ x. x.round) is in
        (inl (omega arith), sym (ap (λ x. x.owner) is))
    go false h = let no : None ≡ Some b = rw h at e in cc

greater_below : (p q s : Option Ballot) (b : Ballot) → IsGreater p q s → IsNoneOrBelow s b → IsNoneOrBelow p b
greater_below p q None b g h = subst (λ (x : Option Ballot). IsNoneOrBelow x b) (sym g.0) tt
greater_below p q (Some s) b (inl g) h = subst (λ (x : Option Ballot). IsNoneOrBelow x b) (sym g.0) h
greater_below None q (Some s) b (inr g) h = tt
greater_below (Some p) q (Some s) b (inr g) h = at_most_below p s b g.1 h

-- the event brings the Prepare that this Promise answers
pub record IsAskedFor (e : Event) (p : Packet) : Type 0 where
  pub asked : Packet
  pub now : ℕ
  pub arrived : e ≡ Arrived asked now
  pub body : asked.body ≡ Prepare
  pub number : asked.number ≡ p.number
  pub ballot : asked.ballot ≡ p.ballot

-- the event brings the Promise of k that the mark of it takes in
pub record IsTakenFrom (e : Event) (n k : ℕ) (b : Ballot) (report : Option Vote) : Type 0 where
  pub packet : Packet
  pub now : ℕ
  pub arrived : e ≡ Arrived packet now
  pub body : packet.body ≡ Promise report
  pub from : packet.from ≡ k
  pub number : packet.number ≡ n
  pub ballot : packet.ballot ≡ b

-- the row is promised no less than before, and a vote that is new is at its promise
pub record Rises (row after : Row) : Type 0 where
  pub promise : (p : Ballot) → row.promised ≡ Some p → IsPromisedTo after p
  pub vote : (v : Vote) → after.vote ≡ Some v → (row.vote ≡ Some v) ⊎ (after.promised ≡ Some v.ballot)

-- nothing changes, the promise is raised, or a vote is taken
pub rises_same : (row : Row) → Rises row row
rises_same row = record { promise = λ p f. record { at = p; is = f; reaches = at_most_refl p }; vote = λ v f. inl f }

rises_to : (row : Row) (b : Ballot) → IsNoneOrAtMost row.promised b → Rises row (raised row b)
rises_to row b free = record { promise = λ p f. record { at = b; is = refl; reaches = known row.promised p b free f }; vote = λ v f. inl f }

rises_voting : (row : Row) (b : Ballot) (entry : Entry) → IsNoneOrAtMost row.promised b → Rises row (voted b entry)
rises_voting row b entry free = record {
  promise = λ p f. record { at = b; is = refl; reaches = known row.promised p b free f };
  vote = λ v f. inr (ap (λ (x : Vote). Some x.ballot) (some_inj f));
}

module _ (seat : Seat) (row : Row) (e : Event) where
  -- a Prepare is the station's own, and it has promised its ballot; a Promise answers a Prepare, and its ballot was not promised before
  abbrev pub BodyAsks : Row → Packet → Body → Type 0
  BodyAsks after p Prepare = (p.ballot.owner ≡ seat.me) × (after.promised ≡ Some p.ballot) × (p.number ≡ number_of e)
  BodyAsks after p (Promise report) = (p.from ≡ seat.me) × IsNoneOrBelow row.promised p.ballot × IsAskedFor e p
  BodyAsks after p (Accept entry) = Unit {0}
  BodyAsks after p (Accepted entry) = Unit {0}
  BodyAsks after p (Nack a) = Unit {0}

  -- a ballot that is begun is the station's own, and it had promised less; a Promise that is counted has come
  abbrev pub MarkAsks : Mark → Type 0
  MarkAsks (Began n b own report now) = (b.owner ≡ seat.me) × IsNoneOrBelow row.promised b × (n ≡ number_of e)
  MarkAsks (Promised n k b report) = IsTakenFrom e n k b report
  MarkAsks (Proposed n b now) = Unit {0}
  MarkAsks (Denied n a) = Unit {0}
  MarkAsks (Heard n k b entry) = Unit {0}
  MarkAsks (Closed n) = Unit {0}
  MarkAsks (Released n entry) = Unit {0}

module _ (seat : Seat) (marks : List Mark) (row : Row) (e : Event) where
  -- each of these marks stood before, or says so
  pub record MarksAsk (ms : List Mark) : Type 0 where
    pub each : (x : Mark) → IsAmong ms x → IsAmong marks x ⊎ MarkAsks seat row e x

  pub record TurnAsks (t : Turn) : Type 0 where
    pub rises : Rises row t.row
    pub marked : MarksAsk t.marks
    pub out : (p : Packet) → IsAmong t.out p → BodyAsks seat row e t.row p p.body

  as_before : MarksAsk marks
  as_before = record { each = λ x i. inl i }

  and_mark : (x : Mark) {ms : List Mark} → MarkAsks seat row e x → MarksAsk ms → MarksAsk (x ∷ ms)
  and_mark x {ms = ms} f h = record { each = each }
    where
      each : (y : Mark) → IsAmong (x ∷ ms) y → IsAmong marks y ⊎ MarkAsks seat row e y
      each y (inl g) = inr (subst (λ (z : Mark). MarkAsks seat row e z) (sym g) f)
      each y (inr i) = h.each y i

  hears_ask :
      {c n j : ℕ} {b : Ballot} {t : Entry} {ms after : List Mark} {release : Option Entry} → Hears c n j b t ms release after → MarksAsk ms
      → MarksAsk after
  hears_ask (was_settled i er ea) h = subst (λ (l : List Mark). MarksAsk l) (sym ea) h
  hears_ask {n = n} {j = j} {b = b} {t = t} (waits i w er ea) h = subst (λ (l : List Mark). MarksAsk l) (sym ea) (and_mark (Heard n j b t) tt h)
  hears_ask {n = n} {j = j} {b = b} {t = t} (table.Hears.releases a u i ripe er ea) h =
      subst (λ (l : List Mark). MarksAsk l) (sym ea) (and_mark (Released n u) tt (and_mark (Heard n j b t) tt h))

  others_ask :
      (after : Row) (n : ℕ) (b : Ballot) (body : Body) → ((to : ℕ) → BodyAsks seat row e after (packet_to seat n b body to) body)
      → (p : Packet) → IsAmong (to_others seat n b body) p → BodyAsks seat row e after p p.body
  others_ask after n b body f p i =
      let y = among-map (packet_to seat n b body) (others seat) p i in subst (λ (q : Packet). BodyAsks seat row e after q q.body) (sym y.1) (f y.0)

  one_asks : (after : Row) (q : Packet) → BodyAsks seat row e after q q.body → (p : Packet) → IsAmong (q ∷ []) p → BodyAsks seat row e after p p.body
  one_asks after q f p (inl g) = subst (λ (x : Packet). BodyAsks seat row e after x x.body) (sym g) f
  one_asks after q f p (inr g) = absurd g

  silent : {ms : List Mark} {note : Note} {t : Turn} → t ≡ stays row ms note → MarksAsk ms → TurnAsks t
  silent f h = subst (λ (t : Turn). TurnAsks t) (sym f) (record { rises = rises_same row; marked = h; out = λ p i. absurd i })

  proposes_asks :
      {n : ℕ} {b : Ballot} {now : ℕ} {own : Option Entry} {report : Option Vote} {since : List Mark} {before : Row} {ms : List Mark} {t : Turn}
      → Proposes seat n b now own report since before ms t → Rises row before → IsNoneOrAtMost row.promised b → MarksAsk ms → TurnAsks t
  proposes_asks {n = n} (nothing picks f) up free h =
      subst (λ (t : Turn). TurnAsks t) (sym f) (record { rises = up; marked = and_mark (Closed n) tt h; out = λ p i. absurd i })
  proposes_asks {n = n} {b = b} {now = now} (proposes entry release after picks hearing f) up free h =
      subst (λ (t : Turn). TurnAsks t) (sym f) (record {
        rises = rises_voting row b entry free;
        marked = hears_ask hearing (and_mark (Proposed n b now) tt h);
        out = λ p i. elim (among-append (to_others seat n b (Accept entry)) (to_others seat n b (Accepted entry)) p i) [
          | inl y ↦ others_ask (voted b entry) n b (Accept entry) (λ to. tt) p y
          | inr y ↦ others_ask (voted b entry) n b (Accepted entry) (λ to. tt) p y
        ];
      })

  begins_asks :
      {n : ℕ} {b : Ballot} {own : Option Entry} {now : ℕ} {t : Turn}
      → Begins seat n b own now row marks t → IsNoneOrBelow row.promised b × (b.owner ≡ seat.me) → n ≡ number_of e → TurnAsks t
  begins_asks {n = n} {b = b} {own = own} {now = now} (asks many f) up number =
      subst (λ (t : Turn). TurnAsks t) (sym f) (record {
        rises = rises_to row b (below_to_at_most row.promised b up.0);
        marked = and_mark (Began n b own row.vote now) (up.1, up.0, number) as_before;
        out = others_ask (raised row b) n b Prepare (λ to. (up.1, refl, number));
      })
  begins_asks {n = n} {b = b} {own = own} {now = now} (alone one proposing) up number =
      let free = below_to_at_most row.promised b up.0 in
      proposes_asks proposing (rises_to row b free) free (and_mark (Began n b own row.vote now) (up.1, up.0, number) as_before)

  start_asks : {n : ℕ} {own : Option Entry} {now : ℕ} {t : Turn} → StartTurn seat n own now marks row t → n ≡ number_of e → TurnAsks t
  start_asks (starts b f begins) number = begins_asks begins (next_above row.promised seat.me b f) number

  due_asks : {n now : ℕ} {t : Turn} → DueTurn seat n now marks row t → n ≡ number_of e → TurnAsks t
  due_asks (is_idle i f) number = silent f as_before
  due_asks {n = n} (gives_up b own denied seen due g h l f) number = silent f (and_mark (Closed n) tt as_before)
  due_asks (begins_anew b own denied seen a due g h l f begins) number =
      let up = next_above seen seat.me a f in begins_asks begins (greater_below row.promised denied seen a h up.0, up.1) number

  prepare_asks :
      {t : Turn} (p : Packet) (now : ℕ) → e ≡ Arrived p now → p.body ≡ Prepare
      → PrepareTurn seat marks row p t → TurnAsks t
  prepare_asks p now arrived body (promises free f) =
      subst (λ (t : Turn). TurnAsks t) (sym f) (record {
        rises = rises_to row p.ballot (below_to_at_most row.promised p.ballot free);
        marked = as_before;
        out = one_asks (raised row p.ballot) (packet_to seat p.number p.ballot (Promise row.vote) p.from)
            (refl, free, record { asked = p; now = now; arrived = arrived; body = body; number = refl; ballot = refl });
      })
  prepare_asks p now arrived body (is_silent same f) = silent f as_before
  prepare_asks p now arrived body (table.PrepareTurn.nacks a is up f) =
      subst (λ (t : Turn). TurnAsks t) (sym f) (record { rises = rises_same row; marked = as_before; out = one_asks row (packet_to seat p.number p.ballot (Nack a) p.from) tt })

  accept_asks : {t : Turn} (p : Packet) (entry : Entry) → AcceptTurn seat marks row p entry t → TurnAsks t
  accept_asks p entry (table.AcceptTurn.nacks a is up f) =
      subst (λ (t : Turn). TurnAsks t) (sym f) (record { rises = rises_same row; marked = as_before; out = one_asks row (packet_to seat p.number p.ballot (Nack a) p.from) tt })
  accept_asks p entry (votes_again own release after free at_it hearing f) =
      subst (λ (t : Turn). TurnAsks t) (sym f) (record { rises = rises_same row; marked = hears_ask hearing as_before; out = others_ask row p.number p.ballot (Accepted own) (λ to. tt) })
  accept_asks p entry (votes release after free unvoted hearing f) =
      subst (λ (t : Turn). TurnAsks t) (sym f) (record {
        rises = rises_voting row p.ballot entry free;
        marked = hears_ask hearing as_before;
        out = others_ask (voted p.ballot entry) p.number p.ballot (Accepted entry) (λ to. tt);
      })

  and_promised :
      (now : ℕ) (p : Packet) (report : Option Vote) → e ≡ Arrived p now → p.body ≡ Promise report
      → MarksAsk (Promised p.number p.from p.ballot report ∷ marks)
  and_promised now p report arrived is =
      and_mark (Promised p.number p.from p.ballot report)
      (record { packet = p; now = now; arrived = arrived; body = is; from = refl; number = refl; ballot = refl }) as_before

  promise_asks :
      {t : Turn} (now : ℕ) (p : Packet) (report : Option Vote) → e ≡ Arrived p now → p.body ≡ Promise report
      → PromiseTurn seat now marks row p report t → TurnAsks t
  promise_asks now p report arrived is (table.PromiseTurn.is_stale i f) = silent f as_before
  promise_asks now p report arrived is (is_overtaken own mine since g i f) = silent f as_before
  promise_asks now p report arrived is (is_repeated own mine since s g i k f) = silent f as_before
  promise_asks now p report arrived is (counts own mine since g i k few f) = silent f (and_promised now p report arrived is)
  promise_asks now p report arrived is (completes own mine since g i k many proposing) =
      proposes_asks proposing (rises_same row) (subst (λ (o : Option Ballot). IsNoneOrAtMost o p.ballot) (sym i) (at_most_refl p.ballot)) (and_promised now p report arrived is)

  answer_asks :
      {t : Turn} (now : ℕ) (p : Packet) (body : Body) → e ≡ Arrived p now → p.body ≡ body
      → AnswerTurn seat now marks row p body t → TurnAsks t
  answer_asks now p Prepare arrived is taken = prepare_asks p now arrived is taken
  answer_asks now p (Promise report) arrived is taken = promise_asks now p report arrived is taken
  answer_asks now p (Accept entry) arrived is taken = accept_asks p entry taken
  answer_asks now p (Accepted entry) arrived is (settles i f) = silent f as_before
  answer_asks now p (Accepted entry) arrived is (hears release after i hearing f) =
      subst (λ (t : Turn). TurnAsks t) (sym f) (record { rises = rises_same row; marked = hears_ask hearing as_before; out = λ q i. absurd i })
  answer_asks now p (Nack a) arrived is (table.NackTurn.is_stale i f) = silent f as_before
  answer_asks now p (Nack a) arrived is (is_denied own mine since o f) = silent f (and_mark (Denied p.number a) tt as_before)

  recall_asks : {t : Turn} (n to : ℕ) → RecallTurn seat n to marks row t → TurnAsks t
  recall_asks n to (is_blank none f) = silent f as_before
  recall_asks n to (tells_again b own other at_it f) =
      subst (λ (t : Turn). TurnAsks t) (sym f) (record { rises = rises_same row; marked = as_before; out = one_asks row (packet_to seat n b (Accepted own) to) tt })
  recall_asks n to (hears_again b own release after mine at_it hearing f) =
      subst (λ (t : Turn). TurnAsks t) (sym f) (record { rises = rises_same row; marked = hears_ask hearing as_before; out = λ q i. absurd i })

pub turn_asks : (seat : Seat) (marks : List Mark) (row : Row) (e : Event) (t : Turn) → IsTurn seat marks row e t → TurnAsks seat marks row e t
turn_asks seat marks row (Offered n entry now) t taken = start_asks seat marks row (Offered n entry now) taken refl
turn_asks seat marks row (Sought n now) t taken = start_asks seat marks row (Sought n now) taken refl
turn_asks seat marks row (Came_due n now) t taken = due_asks seat marks row (Came_due n now) taken refl
turn_asks seat marks row (Arrived p now) t taken = answer_asks seat marks row (Arrived p now) now p p.body refl refl taken
turn_asks seat marks row (Recalled n to) t taken = recall_asks seat marks row (Recalled n to) n to taken
