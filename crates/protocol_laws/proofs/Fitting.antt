-- A turn makes no entry up.
use Rattle.std.proofs.Common.{◌≡◌, ℕ, inl, inr, sym, subst, List, [], ◌∷◌, Option, Some, None}
use Rattle.std.specs.Prelude.{IfSome}
use Rattle.protocol.specs.Lists.{IsAmong}
use Rattle.protocol.specs.Seats.{Seat}
use Rattle.protocol.specs.Ballots.{Ballot}
use Rattle.protocol.specs.Entries.{Entry}
use Rattle.protocol.specs.Rows.{Vote, Row}
use Rattle.protocol.specs.Versions.{Version}
use Rattle.protocol.specs.Packets.{Packet, Body, Prepare, Promise, Accept, Accepted, Nack}
use Rattle.protocol.specs.Marks.{Mark, Began, Promised, Proposed, Denied, Heard, Closed, Released}
use Rattle.protocol.specs.Readings.{IsOpen, IsCounted, Picks, the_reported, the_own}
use Rattle.protocol.specs.Turn.{Turn, stays, packet_to, to_others, others, Note, Event, Offered, Sought, Came_due, Arrived, Recalled}
use Rattle.protocol.specs.Table.{Hears, was_settled, waits, releases, Proposes, nothing, proposes, Begins, asks, alone, StartTurn, starts, DueTurn, is_idle, gives_up, begins_anew, PrepareTurn, promises, is_silent, AcceptTurn, votes_again, votes, PromiseTurn, is_overtaken, is_repeated, counts, completes, NackTurn, is_denied, AcceptedTurn, settles, hears, RecallTurn, is_blank, tells_again, hears_again, AnswerTurn, IsTurn}
use Rattle.protocol.specs.Table as table
use Rattle.protocol.specs.Fitting.{Fits, VoteFits, MarkFits, MarksFit, BodyFits, EventFits, TurnFits, TurnsFit}
use Rattle.protocol_laws.proofs.Places.{among_split, among_left, among-append, among-map}
use Rattle.protocol_laws.proofs.Meeting.{is_turn}

module _ (v : Version) where
  -- one mark more
  and_mark : (x : Mark) {ms : List Mark} → MarkFits v x → MarksFit v ms → MarksFit v (x ∷ ms)
  and_mark x {ms = ms} f h = record { each = each }
    where
      each : (y : Mark) → IsAmong (x ∷ ms) y → MarkFits v y
      each y (inl e) = subst (λ (z : Mark). MarkFits v z) (sym e) f
      each y (inr i) = h.each y i

  if_some : {o : Option Entry} {x : Entry} → o ≡ Some x → Fits v x → IfSome o (Fits v)
  if_some e f = subst (λ (o : Option Entry). IfSome o (Fits v)) (sym e) f

  if_none : {o : Option Entry} → o ≡ None → IfSome o (Fits v)
  if_none e = subst (λ (o : Option Entry). IfSome o (Fits v)) (sym e) tt

  -- a turn that only adds marks
  stays_fit : {row : Row} {ms : List Mark} {t : Turn} {note : Note} → t ≡ stays row ms note → VoteFits v row.vote → MarksFit v ms → TurnFits v t
  stays_fit e r h = subst (λ (t : Turn). TurnFits v t) (sym e) (record { row = r; marks = h; out = λ p i. absurd i; release = tt })

  -- the packet to each of the others fits
  others_fit : (seat : Seat) (n : ℕ) (b : Ballot) (body : Body) → BodyFits v body → (p : Packet) → IsAmong (to_others seat n b body) p → BodyFits v p.body
  others_fit seat n b body f p i = let y = among-map (packet_to seat n b body) (others seat) p i in subst (λ (q : Packet). BodyFits v q.body) (sym y.1) f

  one_fits : {q : Packet} → BodyFits v q.body → (p : Packet) → IsAmong (q ∷ []) p → BodyFits v p.body
  one_fits f p (inl e) = subst (λ (x : Packet). BodyFits v x.body) (sym e) f
  one_fits f p (inr e) = absurd e

  hears_fit :
      {c n j : ℕ} {b : Ballot} {t : Entry} {marks after : List Mark} {release : Option Entry}
      → Hears c n j b t marks release after → MarksFit v marks → Fits v t → MarksFit v after × IfSome release (Fits v)
  hears_fit (was_settled i er ea) h f = (subst (λ (l : List Mark). MarksFit v l) (sym ea) h, if_none er)
  hears_fit {n = n} {j = j} {b = b} {t = t} (waits i w er ea) h f = (subst (λ (l : List Mark). MarksFit v l) (sym ea) (and_mark (Heard n j b t) f h), if_none er)
  hears_fit {n = n} {j = j} {b = b} {t = t} {marks = marks} (releases a u i ripe er ea) h f =
      let heard : MarksFit v (Heard n j b t ∷ marks) = and_mark (Heard n j b t) f h in
      let l = ripe.is_latest in
      let fu : Fits v u = heard.each (Heard n ripe.least a u) (among_split (Heard n j b t ∷ marks) l.after l.before (Heard n ripe.least a u) l.heard) in
      (subst (λ (l : List Mark). MarksFit v l) (sym ea) (and_mark (Released n u) fu heard), if_some er fu)

  picks_fit :
      {me n : ℕ} {b : Ballot} {own : Option Entry} {report : Option Vote} {since : List Mark} {pick : Option Entry}
      → Picks me n b own report since pick → IfSome own (Fits v) → VoteFits v report → MarksFit v since → IfSome pick (Fits v)
  picks_fit (the_own none is) fo fr fs = subst (λ o. IfSome o (Fits v)) (sym is) fo
  picks_fit {me = me} {n = n} {b = b} {report = report} {since = since} (the_reported k u counted top is) fo fr fs = if_some is (by counted)
    where
      by : IsCounted me n b report since k (Some u) → Fits v u.entry
      by (inl (ek, er)) = subst (λ (o : Option Vote). VoteFits v o) (sym er) fr
      by (inr i) = fs.each (Promised n k b (Some u)) i

  proposes_fit :
      {seat : Seat} {n : ℕ} {b : Ballot} {now : ℕ} {own : Option Entry} {report : Option Vote} {since : List Mark} {row : Row} {marks : List Mark} {t : Turn}
      → Proposes seat n b now own report since row marks t → IfSome own (Fits v) → VoteFits v report → MarksFit v since → VoteFits v row.vote → MarksFit v marks → TurnFits v t
  proposes_fit {n = n} (nothing picks e) fo fr fs r h = stays_fit e r (and_mark (Closed n) tt h)
  proposes_fit {seat = seat} {n = n} {b = b} {now = now} (proposes entry release after picks hearing e) fo fr fs r h =
      let f : Fits v entry = picks_fit picks fo fr fs in
      let x = hears_fit hearing (and_mark (Proposed n b now) tt h) f in
      subst (λ (t : Turn). TurnFits v t) (sym e) (record {
        row = f;
        marks = x.0;
        out = λ p i. elim (among-append (to_others seat n b (Accept entry)) (to_others seat n b (Accepted entry)) p i) [ inl y ↦ others_fit seat n b (Accept entry) f p y | inr y ↦ others_fit seat n b (Accepted entry) f p y ];
        release = x.1;
      })

  begins_fit :
      {seat : Seat} {n : ℕ} {b : Ballot} {own : Option Entry} {now : ℕ} {row : Row} {marks : List Mark} {t : Turn}
      → Begins seat n b own now row marks t → IfSome own (Fits v) → VoteFits v row.vote → MarksFit v marks → TurnFits v t
  begins_fit {seat = seat} {n = n} {b = b} {own = own} {now = now} {row = row} (asks l e) fo r h =
      subst (λ (t : Turn). TurnFits v t) (sym e) (record { row = r; marks = and_mark (Began n b own row.vote now) (fo, r) h; out = others_fit seat n b Prepare tt; release = tt })
  begins_fit {n = n} {b = b} {own = own} {now = now} {row = row} (alone e proposing) fo r h =
      proposes_fit proposing fo r (record { each = λ x i. absurd i }) r (and_mark (Began n b own row.vote now) (fo, r) h)

  open_fits :
      {marks : List Mark} {n : ℕ} {b : Ballot} {own : Option Entry} {report : Option Vote} {since : List Mark}
      → (o : IsOpen marks n b own report since) → MarksFit v marks → (IfSome own (Fits v) × VoteFits v report) × MarksFit v since
  open_fits {marks = marks} {n = n} {b = b} {own = own} {report = report} {since = since} o h = (
    h.each (Began n b own report o.now) (among_split marks since o.before (Began n b own report o.now) o.began),
    record { each = λ x i. h.each x (subst (λ (l : List Mark). IsAmong l x) (sym o.began) (among_left since (Began n b own report o.now ∷ o.before) x i)) },
  )

  due_fits : {seat : Seat} {n now : ℕ} {marks : List Mark} {row : Row} {t : Turn} → DueTurn seat n now marks row t → VoteFits v row.vote → MarksFit v marks → TurnFits v t
  due_fits (is_idle i e) r h = stays_fit e r h
  due_fits {n = n} (gives_up b own denied seen due g g' l e) r h = stays_fit e r (and_mark (Closed n) tt h)
  due_fits (begins_anew b own denied seen a due g g' l e begins) r h = begins_fit begins (open_fits due.is_open h).0.0 r h

  promise_fits :
      {seat : Seat} {now : ℕ} {marks : List Mark} {row : Row} {p : Packet} {report : Option Vote} {t : Turn}
      → PromiseTurn seat now marks row p report t → VoteFits v row.vote → MarksFit v marks → VoteFits v report → TurnFits v t
  promise_fits (table.PromiseTurn.is_stale i e) r h f = stays_fit e r h
  promise_fits (is_overtaken own mine since g i e) r h f = stays_fit e r h
  promise_fits (is_repeated own mine since s g i k e) r h f = stays_fit e r h
  promise_fits {p = p} {report = report} (counts own mine since g i k few e) r h f = stays_fit e r (and_mark (Promised p.number p.from p.ballot report) f h)
  promise_fits {p = p} {report = report} (completes own mine since g i k many proposing) r h f =
      let o = open_fits g.is_open h in
      let x : Mark = Promised p.number p.from p.ballot report in
      proposes_fit proposing o.0.0 o.0.1 (and_mark x f o.1) r (and_mark x f h)

  answer_fits :
      (seat : Seat) (now : ℕ) (marks : List Mark) (row : Row) (p : Packet) (body : Body) (t : Turn)
      → AnswerTurn seat now marks row p body t → VoteFits v row.vote → MarksFit v marks → BodyFits v body → TurnFits v t
  answer_fits seat now marks row p Prepare t (promises free e) r h f = subst (λ (t : Turn). TurnFits v t) (sym e) (record { row = r; marks = h; out = one_fits r; release = tt })
  answer_fits seat now marks row p Prepare t (is_silent same e) r h f = stays_fit e r h
  answer_fits seat now marks row p Prepare t (table.PrepareTurn.nacks a is up e) r h f = subst (λ (t : Turn). TurnFits v t) (sym e) (record { row = r; marks = h; out = one_fits tt; release = tt })
  answer_fits seat now marks row p (Promise report) t taken r h f = promise_fits taken r h f
  answer_fits seat now marks row p (Accept entry) t (table.AcceptTurn.nacks a is up e) r h f = subst (λ (t : Turn). TurnFits v t) (sym e) (record { row = r; marks = h; out = one_fits tt; release = tt })
  answer_fits seat now marks row p (Accept entry) t (votes_again own release after free at_it hearing e) r h f =
      let fo : Fits v own = subst (λ (o : Option Vote). VoteFits v o) at_it r in
      let x = hears_fit hearing h fo in
      subst (λ (t : Turn). TurnFits v t) (sym e) (record { row = r; marks = x.0; out = others_fit seat p.number p.ballot (Accepted own) fo; release = x.1 })
  answer_fits seat now marks row p (Accept entry) t (votes release after free unvoted hearing e) r h f =
      let x = hears_fit hearing h f in
      subst (λ (t : Turn). TurnFits v t) (sym e) (record { row = f; marks = x.0; out = others_fit seat p.number p.ballot (Accepted entry) f; release = x.1 })
  answer_fits seat now marks row p (Accepted entry) t (settles i e) r h f = stays_fit e r h
  answer_fits seat now marks row p (Accepted entry) t (hears release after i hearing e) r h f =
      let x = hears_fit hearing h f in
      subst (λ (t : Turn). TurnFits v t) (sym e) (record { row = r; marks = x.0; out = λ p i. absurd i; release = x.1 })
  answer_fits seat now marks row p (Nack a) t (table.NackTurn.is_stale i e) r h f = stays_fit e r h
  answer_fits seat now marks row p (Nack a) t (is_denied own mine since o e) r h f = stays_fit e r (and_mark (Denied p.number a) tt h)

  recall_fits :
      {seat : Seat} {n to : ℕ} {marks : List Mark} {row : Row} {t : Turn}
      → RecallTurn seat n to marks row t → VoteFits v row.vote → MarksFit v marks → TurnFits v t
  recall_fits (is_blank none e) r h = stays_fit e r h
  recall_fits (tells_again b own other at_it e) r h =
      let f : Fits v own = subst (λ (o : Option Vote). VoteFits v o) at_it r in
      subst (λ (t : Turn). TurnFits v t) (sym e) (record { row = r; marks = h; out = one_fits f; release = tt })
  recall_fits (hears_again b own release after mine at_it hearing e) r h =
      let x = hears_fit hearing h (subst (λ (o : Option Vote). VoteFits v o) at_it r) in
      subst (λ (t : Turn). TurnFits v t) (sym e) (record { row = r; marks = x.0; out = λ p i. absurd i; release = x.1 })

  turn_fits :
      (seat : Seat) (marks : List Mark) (row : Row) (e : Event) (t : Turn)
      → IsTurn seat marks row e t → VoteFits v row.vote → MarksFit v marks → EventFits v e → TurnFits v t
  turn_fits seat marks row (Offered n entry now) t (starts b i begins) r h f = begins_fit begins f r h
  turn_fits seat marks row (Sought n now) t (starts b i begins) r h f = begins_fit begins tt r h
  turn_fits seat marks row (Came_due n now) t taken r h f = due_fits taken r h
  turn_fits seat marks row (Arrived p now) t taken r h f = answer_fits seat now marks row p p.body t taken r h f
  turn_fits seat marks row (Recalled n to) t taken r h f = recall_fits taken r h

pub turns_fit : TurnsFit
turns_fit v seat marks row e t member is h r f = turn_fits v seat marks row e t (is_turn seat marks row e t member is) r h f
