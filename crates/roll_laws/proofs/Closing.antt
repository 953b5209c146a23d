-- A ballot that found nothing: each member that was counted had reported no vote.
use Rattle.std.proofs.Common.{◌≡◌, ℕ, ◌⊎◌, inl, inr, refl, sym, ap, subst, ◌∙◌, arith, List, [], ◌∷◌, Option, Some, None, Bool, true, false}
use Rattle.protocol.specs.Lists.{IsAmong}
use Rattle.protocol.specs.Seats.{Seat}
use Rattle.protocol.specs.Ballots.{Ballot, IsMember, Majority}
use Rattle.protocol.specs.Entries.{Entry}
use Rattle.protocol.specs.Rows.{Vote, Row}
use Rattle.protocol.specs.Packets.{Packet, Body, Prepare, Promise, Accept, Accepted, Nack}
use Rattle.protocol.specs.Marks.{Mark, Began, Promised, Closed}
use Rattle.protocol.specs.Readings.{IsCounted, Picks, the_reported, the_own}
use Rattle.protocol.specs.Versions.{Version, Two}
use Rattle.protocol.specs.Turn.{Turn, Note, Note_nothing, Event, Offered, Sought, Came_due, Arrived, Recalled, number_of}
use Rattle.protocol.specs.Table.{Proposes, nothing, proposes, Begins, asks, alone, StartTurn, starts, DueTurn, is_idle, gives_up, begins_anew, PrepareTurn, promises, is_silent, AcceptTurn, votes_again, votes, PromiseTurn, is_overtaken, is_repeated, counts, completes, NackTurn, is_denied, AcceptedTurn, settles, hears, RecallTurn, is_blank, tells_again, hears_again, AnswerTurn, IsTurn}
use Rattle.protocol.specs.Table as table
use Rattle.protocol.specs.Refusals.{Call, event_of}
use Rattle.protocol.specs.Circuit.{Circuit, State, Step, Done, Task, IsTask, seat_at, setup_of, MayLeave, store_before_save, memory_before_save, at_save, StepsTo, is_refused, is_idle as is_idle_step, is_spent, is_done, is_torn, restarts, upgrades, upgrade_is_torn, is_armed, History, goes_on}
use Rattle.protocol_laws.proofs.Majorities.{weaker}
use Rattle.protocol_laws.proofs.Moves.{some_inj}
use Rattle.protocol_laws.proofs.Places.{among_left, among_split, with_at-same}
use Rattle.protocol_laws.proofs.Meeting.{is_turn}
use Rattle.protocol_laws.proofs.Steps.{history_sound}
use Rattle.roll_laws.specs.Searches.{ReportedNone, in_promise, as_owner, NothingIsReported}
use Rattle.roll_laws.proofs.Marking.{promise_was_sent}

-- the note of a ballot that found nothing
abbrev is_nothing : Note → Bool
is_nothing (Note_nothing b) = true
is_nothing note = false

-- by the marks j reported none at b: the station itself as it began, another in a Promise that was counted
abbrev MarkedNone : ℕ → List Mark → ℕ → Ballot → ℕ → Type 0
MarkedNone me marks n b j = ((j ≡ me) × (own : Option Entry) × (now : ℕ) × IsAmong marks (Began n b own None now)) ⊎ IsAmong marks (Promised n j b None)

-- where nothing is picked, every report is none
counted_none : {me n j : ℕ} {b : Ballot} {own : Option Entry} {report v : Option Vote} {since : List Mark} → Picks me n b own report since None → IsCounted me n b report since j v → v ≡ None
counted_none (the_reported k u counted greatest e) i = absurd (no e)
  where
    no : {A : Type 0} {x : A} → None ≡ Some x → ⊥
    no e = cc
counted_none {v = None} (the_own none e) i = refl
counted_none {j = j} {v = Some u} (the_own none e) i = absurd (none j u i)

module _ (seat : Seat) (marks : List Mark) (row : Row) (e : Event) (b : Ballot) where
  -- of a turn that notes that b found nothing
  abbrev Reports : Turn → Type 0
  Reports t = t.note ≡ Note_nothing b → Majority seat.members (MarkedNone seat.me t.marks (number_of e) b)

  -- its note is another
  differs : {t u : Turn} → t ≡ u → is_nothing u.note ≡ false → Reports t
  differs {t = t} {u = u} f is g = absurd (no (ap is_nothing (sym g ∙ ap (λ (x : Turn). x.note) f) ∙ is))
    where
      no : true ≡ false → ⊥
      no e = cc

  same_ballot : {a : Ballot} → Note_nothing a ≡ Note_nothing b → a ≡ b
  same_ballot f = cc

  proposes_nothing :
      {n : ℕ} {a : Ballot} {now : ℕ} {own : Option Entry} {report : Option Vote} {since : List Mark} {before : Row} {ms : List Mark} {t : Turn}
      → Proposes seat n a now own report since before ms t → n ≡ number_of e
      → Majority seat.members (λ j. (v : Option Vote) × IsCounted seat.me n a report since j v)
      → (i : ℕ) → IsAmong ms (Began n a own report i) → ((x : Mark) → IsAmong since x → IsAmong ms x) → Reports t
  proposes_nothing (proposes entry release after picks hearing f) here many i began those g = differs f refl g
  proposes_nothing {n = n} {a = a} {own = own} {report = report} {since = since} {ms = ms} {t = t} (nothing picks f) here many i began those g =
      let same : a ≡ b = same_ballot (sym (ap (λ (x : Turn). x.note) f) ∙ g) in
      let all : Majority seat.members (MarkedNone seat.me (Closed n ∷ ms) n a) = weaker (λ j member x. marked j x.0 x.1 (counted_none picks x.1)) many in
      let at_marks : Majority seat.members (MarkedNone seat.me t.marks n a) = subst (λ (l : List Mark). Majority seat.members (MarkedNone seat.me l n a)) (sym (ap (λ (x : Turn). x.marks) f)) all in
      let at_ballot : Majority seat.members (MarkedNone seat.me t.marks n b) = subst (λ (x : Ballot). Majority seat.members (MarkedNone seat.me t.marks n x)) same at_marks in
      subst (λ (x : ℕ). Majority seat.members (MarkedNone seat.me t.marks x b)) here at_ballot
    where
      marked : (j : ℕ) (v : Option Vote) → IsCounted seat.me n a report since j v → v ≡ None → MarkedNone seat.me (Closed n ∷ ms) n a j
      marked j v (inl (mine, is)) none = inl (mine, own, i, inr (subst (λ (o : Option Vote). IsAmong ms (Began n a own o i)) (sym is ∙ none) began))
      marked j v (inr k) none = inr (inr (those (Promised n j a None) (subst (λ (o : Option Vote). IsAmong since (Promised n j a o)) none k)))

  -- the one member of a circuit of one is counted
  one_of_one : (n : ℕ) (a : Ballot) (report : Option Vote) → seat.members ≡ 1 → IsMember seat.members seat.me → Majority seat.members (λ j. (v : Option Vote) × IsCounted seat.me n a report [] j v)
  one_of_one n a report one member = record {
    has = λ j. true;
    many = rw one (omega arith);
    each = λ j i has. let same : j ≡ seat.me = omega arith in (report, inl (same, refl));
  }

  begins_nothing :
      {n : ℕ} {a : Ballot} {own : Option Entry} {now : ℕ} {t : Turn} → IsMember seat.members seat.me → Begins seat n a own now row marks t → n ≡ number_of e → Reports t
  begins_nothing member (asks many f) here = differs f refl
  begins_nothing {n = n} {a = a} {now = now} member (alone one proposing) here = proposes_nothing proposing here (one_of_one n a row.vote one member) now (inl refl) (λ x i. absurd i)

  promise_nothing : {now : ℕ} {report : Option Vote} {t : Turn} (p : Packet) → PromiseTurn seat now marks row p report t → p.number ≡ number_of e → Reports t
  promise_nothing p (table.PromiseTurn.is_stale i f) here = differs f refl
  promise_nothing p (is_overtaken own mine since g i f) here = differs f refl
  promise_nothing p (is_repeated own mine since s g i k f) here = differs f refl
  promise_nothing p (counts own mine since g i k few f) here = differs f refl
  promise_nothing {report = report} p (completes own mine since g i k many proposing) here =
      proposes_nothing proposing here many g.is_open.now (inr began) those
    where
      began : IsAmong marks (Began p.number p.ballot own mine g.is_open.now)
      began = among_split marks since g.is_open.before (Began p.number p.ballot own mine g.is_open.now) g.is_open.began

      those : (x : Mark) → IsAmong (Promised p.number p.from p.ballot report ∷ since) x → IsAmong (Promised p.number p.from p.ballot report ∷ marks) x
      those x (inl same) = inl same
      those x (inr j) = inr (subst (λ (l : List Mark). IsAmong l x) (sym g.is_open.began) (among_left since (Began p.number p.ballot own mine g.is_open.now ∷ g.is_open.before) x j))

  answer_nothing : (now : ℕ) (p : Packet) (body : Body) (t : Turn) → AnswerTurn seat now marks row p body t → p.number ≡ number_of e → Reports t
  answer_nothing now p Prepare t (promises free f) here = differs f refl
  answer_nothing now p Prepare t (is_silent same f) here = differs f refl
  answer_nothing now p Prepare t (table.PrepareTurn.nacks a is up f) here = differs f refl
  answer_nothing now p (Promise report) t taken here = promise_nothing p taken here
  answer_nothing now p (Accept entry) t (table.AcceptTurn.nacks a is up f) here = differs f refl
  answer_nothing now p (Accept entry) t (votes_again own release after free at_it hearing f) here = differs f refl
  answer_nothing now p (Accept entry) t (votes release after free unvoted hearing f) here = differs f refl
  answer_nothing now p (Accepted entry) t (settles i f) here = differs f refl
  answer_nothing now p (Accepted entry) t (hears release after i hearing f) here = differs f refl
  answer_nothing now p (Nack a) t (table.NackTurn.is_stale i f) here = differs f refl
  answer_nothing now p (Nack a) t (is_denied own mine since o f) here = differs f refl

  start_nothing : {n : ℕ} {own : Option Entry} {now : ℕ} {t : Turn} → IsMember seat.members seat.me → StartTurn seat n own now marks row t → n ≡ number_of e → Reports t
  start_nothing member (starts a f begins) here = begins_nothing member begins here

  due_nothing : {n now : ℕ} {t : Turn} → IsMember seat.members seat.me → DueTurn seat n now marks row t → n ≡ number_of e → Reports t
  due_nothing member (is_idle i f) here = differs f refl
  due_nothing member (gives_up a own denied seen due g h l f) here = differs f refl
  due_nothing member (begins_anew a own denied seen c due g h l f begins) here = begins_nothing member begins here

  recall_nothing : {n to : ℕ} {t : Turn} → RecallTurn seat n to marks row t → Reports t
  recall_nothing (is_blank none f) = differs f refl
  recall_nothing (tells_again a own other at_it f) = differs f refl
  recall_nothing (hears_again a own release after mine at_it hearing f) = differs f refl

turn_nothing :
    (seat : Seat) (marks : List Mark) (row : Row) (e : Event) (b : Ballot) (t : Turn) → IsMember seat.members seat.me → IsTurn seat marks row e t
    → Reports seat marks row e b t
turn_nothing seat marks row (Offered n entry now) b t member taken = start_nothing seat marks row (Offered n entry now) b member taken refl
turn_nothing seat marks row (Sought n now) b t member taken = start_nothing seat marks row (Sought n now) b member taken refl
turn_nothing seat marks row (Came_due n now) b t member taken = due_nothing seat marks row (Came_due n now) b member taken refl
turn_nothing seat marks row (Arrived p now) b t member taken = answer_nothing seat marks row (Arrived p now) b now p p.body t taken refl
turn_nothing seat marks row (Recalled n to) b t member taken = recall_nothing seat marks row (Recalled n to) b taken

-- what is torn is not done
not_left : (D F A : Type 0) (armed : Option Bool) (note : Note) (before after now : A) → ¬ MayLeave {A = A} {D = D} {F = F} armed (Done note) before after now
not_left D F A (Some false) note before after now h = let no : Done note ≡ _ = h.0 in cc
not_left D F A (Some true) note before after now (inl h) = let no : Done note ≡ _ = h.0 in cc
not_left D F A (Some true) note before after now (inr h) = let no : Done note ≡ _ = h.0 in cc
not_left D F A None note before after now h = let no : Done note ≡ _ = h.0 in cc

-- the event that a step's one task brings
same_event :
    {D G F : Type 0} (z : Circuit D G F) (w : State G F) (s : Step) (m k : ℕ) (call other : Call) (e d : Event) → IsTask w.sent s m call → IsTask w.sent s k other
    → event_of (setup_of z (w.version m) m) (w.marks m) call ≡ Some e → event_of (setup_of z (w.version k) k) (w.marks k) other ≡ Some d → e ≡ d
same_event z w s m k call other e d task task' event event' =
    let same : record { member = m; call = call } ≡ record { member = k; call = other } = some_inj (sym task ∙ task') in
    some_inj (sym event ∙ ap (λ (x : Task). event_of (setup_of z (w.version x.member) x.member) (w.marks x.member) x.call) same ∙ event')

module _ {D G F : Type 0} (z : Circuit D G F) (w : State G F) (h : History z w) (s : Step) (b : Ballot) (after : State G F) (st : StepsTo z w s (Done (Note_nothing b)) after) where
  -- what the marks say of the reports was so
  reported : (m n j : ℕ) → MarkedNone m (after.marks m) n b j → ReportedNone z after n b j
  reported m n j (inl (mine, own, now, i)) =
      let owner : b.owner ≡ m = ((history_sound (goes_on h s (Done (Note_nothing b)) st)).sound.marked m (Began n b own None now) i).0 in
      as_owner own now (mine ∙ sym owner) (subst (λ (x : ℕ). IsAmong (after.marks x) (Began n b own None now)) (sym mine) i)
  reported m n j (inr i) = in_promise (promise_was_sent z (goes_on h s (Done (Note_nothing b)) st) m n j b None i)

  found_nothing : (m : ℕ) (call : Call) (e : Event) → IsTask w.sent s m call → event_of (setup_of z (w.version m) m) (w.marks m) call ≡ Some e → StepsTo z w s (Done (Note_nothing b)) after → Majority z.count (ReportedNone z after (number_of e) b)
  found_nothing m call e task event (is_refused k other r task' member refused how is) = absurd cc
  found_nothing m call e task event (is_idle_step k other task' member unrefused event' how is) = absurd cc
  found_nothing m call e task event (is_spent k other d task' member unrefused event' turn how is) = absurd cc
  found_nothing m call e task event (is_done k other d t out task' member unrefused event' taken carried armed how is) =
      let note : t.note ≡ Note_nothing b = cc in
      let all : Majority z.count (MarkedNone k t.marks (number_of d) b) = turn_nothing (seat_at z k) (w.marks k) (w.rows k (number_of d)) d b t member (is_turn (seat_at z k) (w.marks k) (w.rows k (number_of d)) d t member taken) note in
      let here : after.marks k ≡ t.marks = is.marks k ∙ with_at-same w.marks k t.marks in
      let at_after : Majority z.count (MarkedNone k (after.marks k) (number_of d) b) = subst (λ (l : List Mark). Majority z.count (MarkedNone k l (number_of d) b)) (sym here) all in
      let at_number : Majority z.count (MarkedNone k (after.marks k) (number_of e) b) = subst (λ (x : Event). Majority z.count (MarkedNone k (after.marks k) (number_of x) b)) (same_event z w s k m other call d e task' task event' event) at_after in
      weaker (λ j i x. reported k (number_of e) j x) at_number
  found_nothing m call e task event (is_torn k other d row armed task' member event' (store_before_save how un same stays) is) = absurd cc
  found_nothing m call e task event (is_torn k other d row armed task' member event' (memory_before_save how un same stays) is) = absurd cc
  found_nothing m call e task event (is_torn k other d row armed task' member event' (at_save t un taken changes may disarmed) is) =
      absurd (not_left D F Row (w.armed k) (Note_nothing b) (w.rows k (number_of d)) t.row row may)
  found_nothing m call e task event (restarts k member is_restart how is) = absurd cc
  found_nothing m call e task event (upgrades k member is_upgrade how unarmed is) = absurd cc
  found_nothing m call e task event (upgrade_is_torn k v member is_upgrade turns is) = absurd (not_left D F Version (w.armed k) (Note_nothing b) (w.version k) Two v turns)
  found_nothing m call e task event (is_armed k flag member is_balk how is) = absurd cc

pub nothing_is_reported : {D G F : Type 0} → NothingIsReported D G F
nothing_is_reported z w after h n b x =
    let a = x.is_about in
    subst (λ (j : ℕ). Majority z.count (ReportedNone z after j b)) a.number
    (found_nothing z w h x.step b after x.leads a.member a.call a.event a.is_task a.is_event x.leads)
