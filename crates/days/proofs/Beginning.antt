-- A process that ended, and the next that begins: the state of the circuit starts its member again, after a torn step or upgrade where one was cut off.
use Rattle.std.proofs.Common.{◌≡◌, ℕ, ◌⊎◌, inl, inr, refl, sym, subst, ◌∙◌, List, [], ◌∷◌, Some, None, Option, Bool, true, false}
use Rattle.protocol.specs.Lists.{IsAmong}
use Rattle.protocol.specs.Ballots.{IsMember}
use Rattle.protocol.specs.Versions.{Two}
use Rattle.protocol.specs.Marks.{Mark}
use Rattle.protocol.specs.Turn.{number_of}
use Rattle.protocol.specs.Refusals.{Call}
use Rattle.protocol.specs.Circuit as circuit
use Rattle.protocol.specs.Circuit.{Datagram, Offer, with_at, saved, offers_with, MayLeave, at_save, StepsTo, is_torn, upgrade_is_torn, restarts, History, goes_on}
use Rattle.packets.specs.declared.fault.PacketFault.{PacketFault}
use Rattle.line_check.specs.declared.fault.SetFault.{SetFault}
use Rattle.rows_saved.specs.Saved.{SameRows}
use Rattle.rows_saved.specs.declared.rows.Rows.{Ghosts}
use Rattle.node_core.specs.Standing.{StandsFor as CoreStandsFor}
use Rattle.station.specs.declared.station.Station.{Station}
use Rattle.station.specs.Stations.{sight, setup_of}
use Rattle.world.specs.Setups.{StationCircuit, StationState}
use Rattle.world.proofs.Members.{Elsewhere, with_at-other, with_at-same}
use Rattle.days.specs.Happening.{Ending, At_rest, In_call, Upgrading, Happened, began, ended, IsOffering, WasOffered, Came, CameIn}
use Rattle.days.specs.Handing.{Plants, Begins, HasSaved, FindsRows, HandsOver, Member, runs, over}
use Rattle.days.proofs.Asking.{task_for, call_adds, WasSent}
use Rattle.days.proofs.Showing.{IsOf, Shows, same_state, refusal_is, event_is, turns}
use Rattle.days.proofs.Standing.{IsCutOff, ShowsMember, Stands, Moved, moves, came_in_later}
use Rattle.days.proofs.Answering.{stays, saved_other, saved_here, unmoved, was_sent}

pub stands_ended :
    {R : Type 0} (g : Ghosts R) (p : Plants) (z : StationCircuit) (is : IsOf p z) (day : List Happened) (at : ℕ → Member R) (st : Stands g p z day at)
    (m : ℕ) (ending : Ending) (last : Station R) → IsMember p.count m → at m ≡ runs last → CameIn day m ending
    → Stands g p z (ended m ending ∷ day) (with_at at m (over ending last))
stands_ended {R = R} g p z is day at st m ending last member here came =
    let shows : Shows g p st.w m last = subst (λ (u : Member R). ShowsMember g p day st.w m u) here (st.each m member) in
    moves g p z day at st m (ended m ending) (over ending last)
    (stays g p z is day st.w st.history m (ended m ending) (over ending last) (
      shows,
      record {
        came = came_in_later (ended m ending) day m ending came;
        offered = λ n entry o. (ended m ending, inl refl, o);
      },
    )
    (λ k bytes o. o) (λ k r o. o))

-- a state before its member starts again: it differs from the one of the day in that member, and has the rows that the next process finds
pub record Waits {R : Type 0} (g : Ghosts R) (z : StationCircuit) (day : List Happened) (v : StationState) (m : ℕ) (next : Station R) : Type 0 where
  pub w : StationState
  pub history : History z w
  pub others : Elsewhere v w m
  pub version : g.version next.rows ≡ w.version m
  pub rows : (n : ℕ) → g.saved next.rows n ≡ w.rows m n
  pub unarmed : w.armed m ≡ None
  pub sent : w.sent ≡ v.sent
  pub releases : w.releases ≡ v.releases
  pub offers : (x : Offer) → IsAmong w.offers x → IsAmong v.offers x ⊎ WasOffered (began m ∷ day) x.number x.entry

module _ {R : Type 0} (g : Ghosts R) (p : Plants) (z : StationCircuit) (is : IsOf p z) (day : List Happened) (v : StationState) (h : History z v)
    (m : ℕ) (member : IsMember p.count m) (last next : Station R) (shows : Shows g p v m last) where
  member_of : IsMember z.count m
  member_of = subst (λ (c : ℕ). IsMember c m) (sym is.count) member

  -- it starts again
  pub restarted : Begins g p m next → Waits g z day v m next → Moved g p z day v m (began m) (runs next)
  restarted new wt = record {
    w = after;
    history = goes_on wt.history (circuit.Restarts m) circuit.Restarted (restarts m member_of refl refl (same_state after));
    others = record {
      version = wt.others.version;
      rows = wt.others.rows;
      marks = λ k far. with_at-other wt.w.marks m [] k far ∙ wt.others.marks k far;
      stopped = λ k far. with_at-other wt.w.is_stopped m false k far ∙ wt.others.stopped k far;
      armed = wt.others.armed;
    };
    shows = record {
      circuit = new.circuit;
      members = new.members;
      me = new.me;
      table = new.table;
      widths = new.widths;
      wire = new.wire ∙ wt.version;
      version = wt.version;
      rows = wt.rows;
      marks = subst (λ (ms : List Mark). CoreStandsFor next.speaker.core ms) (sym (with_at-same wt.w.marks m [])) new.stands_for;
      goes = new.goes;
      goes_on = with_at-same wt.w.is_stopped m false;
      unarmed = wt.unarmed;
    };
    sent = λ d i. subst (λ (l : List Datagram). IsAmong l d) (sym wt.sent) i;
    hands_out = λ k bytes o. absurd o;
    offers = wt.offers;
    releases = λ x i. subst (λ (l : List _). IsAmong l x) (sym wt.releases) i;
    logs = λ k r o. absurd o;
    set = λ k r o. absurd o;
  }
    where
      after : StationState
      after = record wt.w { marks = with_at wt.w.marks m []; is_stopped = with_at wt.w.is_stopped m false }

  -- nothing was torn
  as_it_was : SameRows (g.saved last.rows) (g.saved next.rows) → g.version next.rows ≡ g.version last.rows → Waits g z day v m next
  as_it_was same version = record {
    w = v;
    history = h;
    others = unmoved v m;
    version = version ∙ shows.version;
    rows = λ n. same n ∙ shows.rows n;
    unarmed = shows.unarmed;
    sent = refl;
    releases = refl;
    offers = λ x i. inl i;
  }

  -- a call was torn as it had saved its row
  in_call :
      (call : Call) → WasSent v.sent m call → ((n : ℕ) (entry : _) → IsOffering n entry call → WasOffered (began m ∷ day) n entry)
      → HasSaved (sight g) last (v.marks m) call (g.saved next.rows) → g.version next.rows ≡ g.version last.rows → Waits g z day v m next
  in_call call sent offered d version = record {
    w = torn;
    history = goes_on h (task_for v.sent m call sent).0 circuit.Torn_by_store leads;
    others = record {
      version = λ k far. refl;
      rows = λ k far j. saved_other v.rows m n d.taken.row k far j;
      marks = λ k far. with_at-other v.marks m [] k far;
      stopped = λ k far. with_at-other v.is_stopped m true k far;
      armed = λ k far. with_at-other v.armed m None k far;
    };
    version = version ∙ shows.version;
    rows = λ j. d.rows j ∙ ((λ k. with_at (λ q. shows.rows q k) n d.taken.row j) ∙ sym (saved_here v.rows m n d.taken.row j));
    unarmed = with_at-same v.armed m None;
    sent = refl;
    releases = refl;
    offers = λ x i. elim (call_adds (setup_of last) (v.marks m) m v.offers call d.event d.asks.event x i) [ inl before ↦ inl before | inr now ↦ inr (offered x.number x.entry now) ];
  }
    where
      n : ℕ
      n = number_of d.event

      torn : StationState
      torn = record v {
        rows = saved v.rows m n d.taken.row;
        marks = with_at v.marks m [];
        is_stopped = with_at v.is_stopped m true;
        armed = with_at v.armed m None;
        offers = offers_with v.offers m d.event;
      }

      changes : ¬ (d.taken.row ≡ v.rows m n)
      changes same = d.changes (same ∙ sym (shows.rows n))

      may : MayLeave {D = PacketFault} {F = SetFault} (v.armed m) circuit.Torn_by_store (v.rows m n) d.taken.row d.taken.row
      may = subst (λ (o : Option Bool). MayLeave {D = PacketFault} {F = SetFault} o circuit.Torn_by_store (v.rows m n) d.taken.row d.taken.row) (sym shows.unarmed) (refl, inr refl)

      leads : StepsTo z v (task_for v.sent m call sent).0 circuit.Torn_by_store torn
      leads = is_torn m call d.event d.taken.row None (task_for v.sent m call sent).1 member_of (event_is g p z is v m last shows call ∙ d.asks.event)
          (at_save d.taken (refusal_is g p z is v m last shows call ∙ d.asks.unrefused) (turns g p z is v m last shows d.event (Some d.taken) d.is_turn) changes may refl) (same_state torn)

  -- an upgrade was torn
  upgrading :
      SameRows (g.saved last.rows) (g.saved next.rows) → (g.version next.rows ≡ g.version last.rows) ⊎ (g.version next.rows ≡ Two) → Waits g z day v m next
  upgrading same either = record {
    w = torn;
    history = goes_on h (circuit.Upgrades m) circuit.Torn_by_store (upgrade_is_torn m (g.version next.rows) member_of refl may (same_state torn));
    others = record {
      version = λ k far. with_at-other v.version m (g.version next.rows) k far;
      rows = λ k far j. refl;
      marks = λ k far. with_at-other v.marks m [] k far;
      stopped = λ k far. with_at-other v.is_stopped m true k far;
      armed = λ k far. with_at-other v.armed m None k far;
    };
    version = sym (with_at-same v.version m (g.version next.rows));
    rows = λ n. same n ∙ shows.rows n;
    unarmed = with_at-same v.armed m None;
    sent = refl;
    releases = refl;
    offers = λ x i. inl i;
  }
    where
      torn : StationState
      torn = record v {
        version = with_at v.version m (g.version next.rows);
        marks = with_at v.marks m [];
        is_stopped = with_at v.is_stopped m true;
        armed = with_at v.armed m None;
      }

      version_is : (g.version next.rows ≡ v.version m) ⊎ (g.version next.rows ≡ Two)
      version_is = elim either [ inl was ↦ inl (was ∙ shows.version) | inr two ↦ inr two ]

      may : MayLeave {D = PacketFault} {F = SetFault} (v.armed m) circuit.Torn_by_store (v.version m) Two (g.version next.rows)
      may = subst (λ (o : Option Bool). MayLeave {D = PacketFault} {F = SetFault} o circuit.Torn_by_store (v.version m) Two (g.version next.rows)) (sym shows.unarmed) (refl, version_is)

  pub waits : (ending : Ending) → IsCutOff day m ending → ((call : Call) → Came day m call → WasSent v.sent m call) → FindsRows (sight g) ending last (g.saved next.rows) (g.version next.rows) → Waits g z day v m next
  waits At_rest cut sent f = as_it_was f.0 f.1
  waits (In_call call) cut sent f = elim f.0 [
    | inl same ↦ as_it_was same f.1
    | inr has ↦ in_call call (sent call cut.came) (λ n entry o. let was = cut.offered n entry o in (was.0, inr was.1, was.2)) (has (v.marks m) shows.marks) f.1
  ]
  waits Upgrading cut sent f = upgrading f.0 f.1

pub stands_begun :
    {R : Type 0} (g : Ghosts R) (p : Plants) (z : StationCircuit) (is : IsOf p z) (day : List Happened) (at : ℕ → Member R) (st : Stands g p z day at)
    (m : ℕ) (ending : Ending) (last next : Station R) → IsMember p.count m → at m ≡ over ending last → HandsOver (sight g) ending last next → Begins g p m next
    → Stands g p z (began m ∷ day) (with_at at m (runs next))
stands_begun {R = R} g p z is day at st m ending last next member here hands new =
    let shows : Shows g p st.w m last × IsCutOff day m ending = subst (λ (u : Member R). ShowsMember g p day st.w m u) here (st.each m member) in
    moves g p z day at st m (began m) (runs next)
    (restarted g p z is day st.w st.history m member last next shows.0 new
    (waits g p z is day st.w st.history m member last next shows.0 ending shows.1 (was_sent g p z day at st m) hands))
