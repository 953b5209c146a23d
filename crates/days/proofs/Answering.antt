-- A call that was answered: the state of the circuit stays, takes the turn, or waits for what the next process finds.
use Rattle.std.proofs.Common.{◌≡◌, ◌≢◌, ℕ, inl, inr, refl, sym, ap, subst, ◌∙◌, List, ◌∷◌, ◌++◌, Some, None, Option, true}
use Rattle.std.specs.Prelude.{Result, Ok, Err}
use Rattle.std.specs.List.{AllZip}
use Rattle.protocol.specs.Lists.{IsAmong}
use Rattle.protocol.specs.Ballots.{IsMember}
use Rattle.protocol.specs.Entries.{Entry}
use Rattle.protocol.specs.Rows.{Row}
use Rattle.protocol.specs.Packets.{Packet}
use Rattle.protocol.specs.Versions.{Version}
use Rattle.protocol.specs.Marks.{Mark}
use Rattle.protocol.specs.Turn.{Event, number_of}
use Rattle.protocol.specs.Refusals.{Call, Offering, Seeking, Falling_due, Receiving, Recalling}
use Rattle.protocol.specs.Circuit as circuit
use Rattle.protocol.specs.Circuit.{Datagram, with_at, saved, offers_with, releases_with, History, goes_on, is_done, StepsTo}
use Rattle.protocol_laws.proofs.Places.{among_left, among_right}
use Rattle.packets.specs.Reading.{packet_in}
use Rattle.packets.specs.declared.fault.PacketFault.{PacketFault}
use Rattle.code_table.specs.Tables.{Places, mean}
use Rattle.widths.specs.Widths.{WidthFile}
use Rattle.line_check.specs.declared.slug.Slug.{Slug}
use Rattle.line_check.specs.declared.fault.SetFault.{SetFault}
use Rattle.rows_saved.specs.declared.rows.Rows.{Ghosts}
use Rattle.tape_frames.specs.Entries.{owned_entry}
use Rattle.node_core.specs.Standing.{StandsFor as CoreStandsFor}
use Rattle.station.specs.declared.answer.Answer.{Answer}
use Rattle.station.specs.declared.answer.Release.{Release}
use Rattle.station.specs.declared.station.Station.{Station}
use Rattle.refusals.specs.declared.refusal.StepRefusal.{StepRefusal}
use Rattle.refusals.specs.declared.refusal.StepRefusal.TheVariants.{Stopped, BadDatagram, WrongCircuit, NotForMe, Stranger, BadNumber, NoSuchMember, AlreadyReleased, AlreadyOpen, WireTooOld, TapeFaulty, RoundsSpent, Store, OutOfMemory}
use Rattle.station.specs.Readiness.{IsReleased, SetsEntry, slugs_of}
use Rattle.station.specs.Stations.{sight, setup_of, wire_at}
use Rattle.station.specs.Steps.{TakesStep, Steps, Asks, Done, Spent, IsStep, tears}
use Rattle.world.specs.Setups.{StationCircuit, StationState}
use Rattle.world.proofs.Members.{Elsewhere, with_at-other, with_at-same}
use Rattle.days.specs.Happening.{In_call, Happened, did, HandsOut, Releases, Came, WasHandedOut, Offers}
use Rattle.days.specs.Handing.{Plants, Member, runs, over, after_call}
use Rattle.days.proofs.Asking.{WasSent, task_for, call_adds}
use Rattle.days.proofs.Showing.{IsOf, Shows, same_state, followed, wire_is, refusal_is, event_is, turns}
use Rattle.days.proofs.Standing.{ShowsMember, IsSet, Stands, Moved, moves, came_later, later, was_before, was_either}

pub unmoved : (w : StationState) (m : ℕ) → Elsewhere w w m
unmoved w m = record { version = λ k far. refl; rows = λ k far n. refl; marks = λ k far. refl; stopped = λ k far. refl; armed = λ k far. refl }

-- one row is saved: other members' rows stay
pub saved_other : (rows : ℕ → ℕ → Row) (m n : ℕ) (row : Row) (k : ℕ) → k ≢ m → (j : ℕ) → saved rows m n row k j ≡ rows k j
saved_other rows m n row k far j = ap (λ (f : ℕ → Row). f j) (with_at-other rows m (with_at (rows m) n row) k far)

pub saved_here : (rows : ℕ → ℕ → Row) (m n : ℕ) (row : Row) (j : ℕ) → saved rows m n row m j ≡ with_at (rows m) n row j
saved_here rows m n row j = ap (λ (f : ℕ → Row). f j) (with_at-same rows m (with_at (rows m) n row))

none_some : {A : Type 0} {o : Option A} {a : A} → o ≡ None → o ≡ Some a → ⊥
none_some e f = let clash = sym e ∙ f in cc

-- the log goes on with a release, if there is one
log_goes_on :
    (z : StationCircuit) (rs : List (circuit.Release (List Slug) SetFault)) (m n : ℕ) (o : Option Entry) (x : circuit.Release (List Slug) SetFault)
    → IsAmong rs x → IsAmong (releases_with z rs m n o) x
log_goes_on z rs m n None x i = i
log_goes_on z rs m n (Some t) x i = among_left rs _ x i

-- what is handed out of a release is what the state logs
handed_logs :
    (z : StationCircuit) (rs : List (circuit.Release (List Slug) SetFault)) (table : Places) (widths : WidthFile) (m n k : ℕ) (o : Option Entry) (r : Release)
    → IsReleased table widths n o (Some r) → k ≡ m
    → (set : Result (List Slug) SetFault) × IsAmong (releases_with z rs m n o) (record { member = k; number = r.number; entry = owned_entry r.entry; set = set })
handed_logs z rs table widths m n k None r h same = absurd h
handed_logs z rs table widths m n k (Some t) r h same = (z.sets m t, among_right rs _ _ (inl (λ i. record { member = same i; number = h.0 i; entry = h.1 i; set = z.sets m t })))

-- and is set by the station's own table and widths
handed_sets :
    (table : Places) (widths : WidthFile) (n : ℕ) (o : Option Entry) (r : Release) → IsReleased table widths n o (Some r)
    → SetsEntry (mean table) widths (owned_entry r.entry) (slugs_of r.set)
handed_sets table widths n None r h = absurd h
handed_sets table widths n (Some t) r h = subst (λ (u : Entry). SetsEntry (mean table) widths u (slugs_of r.set)) (sym h.1) h.2

module _ {R : Type 0} (g : Ghosts R) (p : Plants) (z : StationCircuit) (is : IsOf p z) (day : List Happened) (w : StationState) (h : History z w) (m : ℕ) where
  -- the state stays, where nothing was handed out or released
  pub stays :
      (y : Happened) (now : Member R) → ShowsMember g p (y ∷ day) w m now
      → ((k : ℕ) (bytes : List ℕ) → ¬ HandsOut k bytes y) → ((k : ℕ) (r : Release) → ¬ Releases k r y) → Moved g p z day w m y now
  stays y now shows out releases = record {
    w = w;
    history = h;
    others = unmoved w m;
    shows = shows;
    sent = λ d i. i;
    hands_out = λ k bytes o. absurd (out k bytes o);
    offers = λ x i. inl i;
    releases = λ x i. i;
    logs = λ k r o. absurd (releases k r o);
    set = λ k r o. absurd (releases k r o);
  }

  module _ (member : IsMember p.count m) (call : Call) (came : Came day m call) (sent : WasSent w.sent m call)
      (old new : Station R) (shows : Shows g p w m old) (version : g.version new.rows ≡ g.version old.rows) (wire : new.speaker.wire ≡ wire_at (sight g) old) where
    abbrev pub Answered : Result Answer StepRefusal → Type 0
    Answered answer = Moved g p z day w m (did m call answer) (after_call call answer old new)

    wire_now : new.speaker.wire ≡ w.version m
    wire_now = wire ∙ wire_is (sight g) old shows.goes ∙ shows.version

    unchanged : new ≡ old → Shows g p w m new
    unchanged same = subst (λ (s : Station R). Shows g p w m s) (sym same) shows

    refused : (refusal : StepRefusal) → new ≡ old → Moved g p z day w m (did m call (Err refusal)) (runs new)
    refused refusal same = stays (did m call (Err refusal)) (runs new) (unchanged same) (λ k bytes o. o) (λ k r o. o)

    spent : (e : Event) → Spent (sight g) e old new (w.marks m) → Moved g p z day w m (did m call (Err RoundsSpent)) (runs new)
    spent e d = stays (did m call (Err RoundsSpent)) (runs new) (record {
      circuit = ap (λ (s : Station R). s.speaker.core.circuit) d.same ∙ shows.circuit;
      members = ap (λ (s : Station R). s.speaker.core.members) d.same ∙ shows.members;
      me = ap (λ (s : Station R). s.speaker.core.me) d.same ∙ shows.me;
      table = ap (λ (s : Station R). s.table) d.same ∙ shows.table;
      widths = ap (λ (s : Station R). s.widths) d.same ∙ shows.widths;
      wire = wire_now;
      version = version ∙ shows.version;
      rows = λ n. d.read.same d.is_open n ∙ shows.rows n;
      marks = subst (λ (s : Station R). CoreStandsFor s.speaker.core (w.marks m)) (sym d.same) shows.marks;
      goes = ap (λ (s : Station R). s.stopped) d.same ∙ shows.goes;
      goes_on = shows.goes_on;
      unarmed = shows.unarmed;
    }) (λ k bytes o. o) (λ k r o. o)

    torn : (refusal : StepRefusal) → tears refusal ≡ true → Moved g p z day w m (did m call (Err refusal)) (over (In_call call) old)
    torn refusal stops = stays (did m call (Err refusal)) (over (In_call call) old) (
      shows,
      record {
        came = came_later (did m call (Err refusal)) day m call came;
        offered = λ n entry o. (did m call (Err refusal), inl refl, (stops, o));
      },
    )
        (λ k bytes o. o) (λ k r o. o)

    module _ (e : Event) (a : Answer) (asks : Asks old (w.marks m) call e) (d : Done (sight g) e old new (w.marks m) a) where
      abbrev after : StationState
      after = record w {
        rows = saved w.rows m (number_of e) d.taken.row;
        marks = with_at w.marks m d.taken.marks;
        sent = w.sent ++ a.out.items;
        offers = offers_with w.offers m e;
        releases = releases_with z w.releases m (number_of e) d.taken.release;
      }

      carried : AllZip (circuit.Carries z (w.version m)) d.taken.out a.out.items
      carried =
          subst (λ (rd : List ℕ → Result Packet PacketFault). AllZip (λ (q : Packet) (g : Datagram). (g.to ≡ q.to) × (rd g.bytes ≡ Ok q)) d.taken.out a.out.items)
          (λ j bytes. sym (is.set_up.reads (w.version m) bytes ∙ ap (λ (v : Version). packet_in v bytes) (sym shows.wire)) j) d.out

      leads : StepsTo z w (task_for w.sent m call sent).0 (circuit.Done d.taken.note) after
      leads = is_done m call e d.taken a.out.items (task_for w.sent m call sent).1 (subst (λ (c : ℕ). IsMember c m) (sym is.count) member)
          (refusal_is g p z is w m old shows call ∙ asks.unrefused) (event_is g p z is w m old shows call ∙ asks.event)
          (turns g p z is w m old shows e (Some d.taken) d.is_turn) carried (inl shows.unarmed) refl (same_state after)

      shows_new : Shows g p after m new
      shows_new = record {
        circuit = d.fixed.circuit ∙ shows.circuit;
        members = d.fixed.members ∙ shows.members;
        me = d.fixed.me ∙ shows.me;
        table = d.fixed.table ∙ shows.table;
        widths = d.fixed.widths ∙ shows.widths;
        wire = wire_now;
        version = version ∙ shows.version;
        rows = λ j. d.rows j ∙ ((λ k. with_at (λ q. shows.rows q k) (number_of e) d.taken.row j) ∙ sym (saved_here w.rows m (number_of e) d.taken.row j));
        marks = subst (λ (l : List Mark). CoreStandsFor new.speaker.core l) (sym (with_at-same w.marks m d.taken.marks)) d.stands_for;
        goes = d.goes_on;
        goes_on = shows.goes_on;
        unarmed = shows.unarmed;
      }

      others_after : Elsewhere w after m
      others_after = record {
        version = λ k far. refl;
        rows = λ k far j. saved_other w.rows m (number_of e) d.taken.row k far j;
        marks = λ k far. with_at-other w.marks m d.taken.marks k far;
        stopped = λ k far. refl;
        armed = λ k far. refl;
      }

      handed : (r : Release) → a.release ≡ Some r → IsReleased old.table old.widths (number_of e) d.taken.release (Some r)
      handed r it = subst (λ (o : Option Release). IsReleased old.table old.widths (number_of e) d.taken.release o) it d.release

      sets_so : (k : ℕ) (r : Release) → k ≡ m → a.release ≡ Some r → IsSet p k r
      sets_so k r same it =
          let by_old : SetsEntry (mean old.table) old.widths (owned_entry r.entry) (slugs_of r.set) = handed_sets old.table old.widths (number_of e) d.taken.release r (handed r it) in
          let by_table : SetsEntry (mean (p.tables m)) old.widths (owned_entry r.entry) (slugs_of r.set) = subst (λ (t : Places). SetsEntry (mean t) old.widths (owned_entry r.entry) (slugs_of r.set)) shows.table by_old in
          let by_both : IsSet p m r = subst (λ (f : WidthFile). SetsEntry (mean (p.tables m)) f (owned_entry r.entry) (slugs_of r.set)) shows.widths by_table in
          subst (λ (j : ℕ). IsSet p j r) (sym same) by_both

      done : Moved g p z day w m (did m call (Ok a)) (runs new)
      done = record {
        w = after;
        history = goes_on h (task_for w.sent m call sent).0 (circuit.Done d.taken.note) leads;
        others = others_after;
        shows = shows_new;
        sent = λ x i. among_left w.sent a.out.items x i;
        hands_out = λ k bytes o. among_right w.sent a.out.items (record { to = k; bytes = bytes }) o;
        offers = λ x i. elim (call_adds (setup_of old) (w.marks m) m w.offers call e asks.event x i) [
          | inl before ↦ inl before
          | inr now ↦ inr (did m call (Ok a), inl refl, now)
        ];
        releases = λ x i. log_goes_on z w.releases m (number_of e) d.taken.release x i;
        logs = λ k r o. handed_logs z w.releases old.table old.widths m (number_of e) k d.taken.release r (handed r o.1) o.0;
        set = λ k r o. sets_so k r o.0 o.1;
      }

    pub answered : (answer : Result Answer StepRefusal) → Steps (sight g) call old new (w.marks m) answer → Answered answer
    answered (Ok a) (inl d) =
        stays (did m call (Ok a)) (runs new) (unchanged d.same)
        (λ k bytes o. subst (λ (l : List Datagram). IsAmong l (record { to = k; bytes = bytes })) d.out o) (λ k r o. none_some d.release o.1)
    answered (Ok a) (inr d) = done d.0 a d.1 d.2
    answered (Err Stopped) d = refused Stopped d.1
    answered (Err (BadDatagram fault)) d = refused (BadDatagram fault) d.1
    answered (Err WrongCircuit) d = refused WrongCircuit d.1
    answered (Err NotForMe) d = refused NotForMe d.1
    answered (Err Stranger) d = refused Stranger d.1
    answered (Err BadNumber) d = refused BadNumber d.1
    answered (Err NoSuchMember) d = refused NoSuchMember d.1
    answered (Err AlreadyReleased) d = refused AlreadyReleased d.1
    answered (Err AlreadyOpen) d = refused AlreadyOpen d.1
    answered (Err WireTooOld) d = refused WireTooOld d.1
    answered (Err (TapeFaulty fault)) d = refused (TapeFaulty fault) d.1
    answered (Err RoundsSpent) d = spent d.0 d.2
    answered (Err (Store fault)) d = torn (Store fault) refl
    answered (Err OutOfMemory) d = torn OutOfMemory refl

-- what was handed out in the day was sent
sent_of : (w : StationState) (day : List Happened) (m : ℕ) → ((bytes : List ℕ) → WasHandedOut day m bytes → IsAmong w.sent (record { to = m; bytes = bytes })) → (call : Call) → Came day m call → WasSent w.sent m call
sent_of w day m sent (Offering n entry now) it = tt
sent_of w day m sent (Seeking n now) it = tt
sent_of w day m sent (Falling_due now) it = tt
sent_of w day m sent (Receiving bytes now) it = sent bytes it
sent_of w day m sent (Recalling n to) it = tt

pub was_sent : {R : Type 0} (g : Ghosts R) (p : Plants) (z : StationCircuit) (day : List Happened) (at : ℕ → Member R) (st : Stands g p z day at) (m : ℕ) (call : Call) → Came day m call → WasSent st.w.sent m call
was_sent g p z day at st m call it = sent_of st.w day m (st.sent m) call it

pub stands_answered :
    {R : Type 0} (g : Ghosts R) (p : Plants) (z : StationCircuit) (is : IsOf p z) (day : List Happened) (at : ℕ → Member R) (st : Stands g p z day at)
    (m : ℕ) (call : Call) (old new : Station R) (answer : Result Answer StepRefusal)
    → IsMember p.count m → at m ≡ runs old → Came day m call → g.kept new.rows → IsStep g call old new answer
    → Stands g p z (did m call answer ∷ day) (with_at at m (after_call call answer old new))
stands_answered {R = R} g p z is day at st m call old new answer member here came kept step =
    let own : TakesStep (sight g) call old new answer = step.steps kept in
    let shows : Shows g p st.w m old = subst (λ (u : Member R). ShowsMember g p day st.w m u) here (st.each m member) in
    let found : own.found ≡ old = followed (sight g) old own.found shows.goes (shows.wire ∙ sym shows.version) own.follows in
    let marks : CoreStandsFor own.found.speaker.core (st.w.marks m) = subst (λ (s : Station R). CoreStandsFor s.speaker.core (st.w.marks m)) (sym found) shows.marks in
    let steps : Steps (sight g) call old new (st.w.marks m) answer = subst (λ (s : Station R). Steps (sight g) call s new (st.w.marks m) answer) found (own.steps (st.w.marks m) marks) in
    moves g p z day at st m (did m call answer) (after_call call answer old new)
    (answered g p z is day st.w st.history m member call came (was_sent g p z day at st m call came) old new shows step.version step.wire answer steps)

-- a call that was refused since the station had stopped changes nothing
pub stands_refused :
    {R : Type 0} (g : Ghosts R) (p : Plants) (z : StationCircuit) (is : IsOf p z) (day : List Happened) (at : ℕ → Member R) (st : Stands g p z day at)
    (m : ℕ) (call : Call) → Stands g p z (did m call (Err Stopped) ∷ day) at
stands_refused g p z is day at st m call = record {
  w = st.w;
  history = st.history;
  each = λ k member. later g p st.w k (did m call (Err Stopped)) day (at k) (st.each k member);
  sent = λ k bytes it. elim (was_either (did m call (Err Stopped)) day (HandsOut k bytes) it) [ inl last ↦ absurd last | inr before ↦ st.sent k bytes before ];
  offers = λ x i. was_before (did m call (Err Stopped)) day (Offers x.number x.entry) (st.offers x i);
  releases = λ k r it. elim (was_either (did m call (Err Stopped)) day (Releases k r) it) [ inl last ↦ absurd last | inr before ↦ st.releases k r before ];
  set = λ k r it. elim (was_either (did m call (Err Stopped)) day (Releases k r) it) [ inl last ↦ absurd last | inr before ↦ st.set k r before ];
}
