-- What a station did is a step of the state that its world stands for: done, idle, spent, refused or torn.
use Rattle.std.proofs.Common.{◌≡◌, ◌≢◌, ℕ, ◌≤◌, ◌⊎◌, inl, inr, refl, sym, ap, subst, ◌∙◌, arith, List, [], ◌∷◌, ◌++◌, Some, None, Option, Bool, true, false, append-nil}
use Rattle.std.specs.Prelude.{Result, Ok, IsSome, if◌then◌else◌}
use Rattle.std.proofs.lemmas.Bool.{cases_lt}
use Rattle.std.specs.List.{AllZip}
use Rattle.protocol.specs.Ballots.{IsMember}
use Rattle.protocol.specs.Seats.{sits}
use Rattle.protocol.specs.Entries.{Entry}
use Rattle.protocol.specs.Rows.{Row}
use Rattle.protocol.specs.Packets.{Packet}
use Rattle.protocol.specs.Versions.{Version, One, Two, fits}
use Rattle.protocol.specs.Marks.{Mark}
use Rattle.protocol.specs.Turn.{Event, number_of, Note_idle, Turn, turn}
use Rattle.protocol.specs.Refusals.{Call, Refusal, Rounds_spent, refusal, early_refusal, setting_refusal, event_of}
use Rattle.protocol.specs.Circuit as circuit
use Rattle.protocol.specs.Circuit.{hears, Datagram, Release, IsSameState, Outcome, Task, task_of, with_at, saved, offers_with, releases_with, MayLeave, Leaves, store_before_save, memory_before_save, at_save, StepsTo, is_refused, is_idle, is_spent, is_done, is_torn}
use Rattle.packets.specs.Reading.{packet_in, packet_at}
use Rattle.packets.specs.declared.fault.PacketFault.{PacketFault}
use Rattle.code_table.specs.Tables.{Places, mean}
use Rattle.widths.specs.Widths.{WidthFile}
use Rattle.line_check.specs.Laws.{OneSetting}
use Rattle.line_check.specs.declared.slug.Slug.{Slug}
use Rattle.line_check.specs.declared.fault.SetFault.{SetFault}
use Rattle.rows_saved.specs.Saved.{WithRow, Rises}
use Rattle.rows_saved.specs.declared.balky.Balky.{Balky}
use Rattle.rows_saved.specs.declared.fault.RowsFault.{RowsFault}
use Rattle.rows_saved.specs.declared.fault.RowsFault.TheVariants.{Store}
use Rattle.node_core.specs.Standing.{StandsFor as CoreStandsFor, seat_of}
use Rattle.node_core.specs.Turns.{note_value}
use Rattle.station.specs.declared.station.Station.{Station}
use Rattle.station.specs.declared.answer.Answer.{Answer}
use Rattle.station.specs.declared.answer.Release.{Release as Handed}
use Rattle.station.specs.Readiness.{IsReleased, SetsEntry, slugs_of}
use Rattle.station.specs.Speaking.{is_lower}
use Rattle.station.specs.Stations.{Sight, IsFixed, Follows, wire_at}
use Rattle.station.specs.Stations as stations
use Rattle.station.specs.Steps.{WasRead, turn_of, Done, AtSave, TornByStore, TornByMemory, Spent, Asks, AsksEarly}
use Rattle.world.specs.declared.world.World.{World}
use Rattle.world.specs.Setups.{StationCircuit, StationState, IsSetUp}
use Rattle.world.specs.Reach.{IsAt, Shows, StandsFor}
use Rattle.world.specs.Logging.{logged}
use Rattle.world.proofs.Members.{Changes, Elsewhere, with_at-other, with_at-same, with_at-self, is_member_of, shown, stands_after}
use Rattle.world.proofs.Alike.{entry_alike, one_entry_setting, refusal_alike, early_alike, event_alike, unstopped}

-- the words of rows that can balk, as their trait has them there
abbrev pub balky_sight : {R : Type 0} → Sight R → (R → ℕ) → Sight (Balky R)
balky_sight x refusals = record {
  kept = λ s. x.kept s.rows;
  is_open = λ s. x.is_open s.rows;
  saved = λ s. x.saved s.rows;
  version = λ s. x.version s.rows;
  alike = λ old new. (new.armed ≡ old.armed) × (refusals old.rows ≤ refusals new.rows) × x.alike old.rows new.rows;
  passes = λ old new. (old.armed ≡ None) × (new.armed ≡ None) × x.passes old.rows new.rows;
  tells = λ old new number row. (new.armed ≡ None)
      × (old.armed ≡ Some false → new.rows ≡ old.rows)
      × (old.armed ≡ None → x.tells old.rows new.rows number row)
      × (old.armed ≡ Some true →
      (x.kept new.rows → WithRow (x.saved old.rows) number row (x.saved new.rows))
      ⊎ (Rises (refusals old.rows) (refusals new.rows) × x.tells old.rows new.rows number row));
  upgrades = λ old new. (old.armed ≡ None) × (new.armed ≡ None) × x.upgrades old.rows new.rows;
  balks = λ old new. (new.armed ≡ None)
      × (old.armed ≡ Some false → new.rows ≡ old.rows)
      × (old.armed ≡ None → x.balks old.rows new.rows)
      × (old.armed ≡ Some true →
      (x.version new.rows ≡ Two)
      ⊎ (Rises (refusals old.rows) (refusals new.rows) × x.balks old.rows new.rows));
  blames = λ old new fault. (refusals old.rows ≤ refusals new.rows)
      × ((IsSome old.armed × (new.armed ≡ None) × (fault ≡ Store))
      ⊎ ((new.armed ≡ old.armed) × Rises (refusals old.rows) (refusals new.rows) × x.blames old.rows new.rows fault));
}

pub unarmed : IsSome {T = Bool} None → ⊥
unarmed e = let no : false ≡ true = e in cc

-- a count that rose after it did not fall
pub rises_before : (a b c : ℕ) → a ≤ b → b ≤ c → Rises b c → Rises a c
rises_before a b c up on (inl rise) = inl (omega (arith, up, rise))
rises_before a b c up on (inr most) = elim (cases_lt a c) [ inl less ↦ inl less | inr same ↦ inr (omega (arith, up, on, most, same)) ]

pub same_state : (w : StationState) → IsSameState w w
same_state w = record { version = λ m. refl; rows = λ m n. refl; marks = λ m. refl; is_stopped = λ m. refl; armed = λ m. refl; sent = refl; offers = refl; releases = refl }

-- other members' rows stay where one row is saved
saved_other : (rows : ℕ → ℕ → Row) (m n : ℕ) (row : Row) (k : ℕ) → k ≢ m → (j : ℕ) → saved rows m n row k j ≡ rows k j
saved_other rows m n row k ne j = ap (λ (f : ℕ → Row). f j) (with_at-other rows m (with_at (rows m) n row) k ne)

saved_here : (rows : ℕ → ℕ → Row) (m n : ℕ) (row : Row) (j : ℕ) → saved rows m n row m j ≡ with_at (rows m) n row j
saved_here rows m n row j = ap (λ (f : ℕ → Row). f j) (with_at-same rows m (with_at (rows m) n row))

-- what is logged of a release is what the state logs
logs_release :
    (z : StationCircuit) (one : OneSetting) (table : Places) (widths : WidthFile) (m n : ℕ) (rs : List (Release (List Slug) SetFault)) (o : Option Entry) (q : Option Handed)
    → ((t : Entry) → SetsEntry (mean table) widths t (z.sets m t)) → IsReleased table widths n o q → releases_with z rs m n o ≡ rs ++ logged m q
logs_release z one table widths m n rs None None sets h = sym (append-nil rs)
logs_release z one table widths m n rs None (Some r) sets h = absurd h
logs_release z one table widths m n rs (Some t) None sets h = absurd h
logs_release z one table widths m n rs (Some t) (Some r) sets h =
    let set : z.sets m t ≡ slugs_of r.set = one_entry_setting one (mean table) widths t (z.sets m t) (slugs_of r.set) (sets t) h.2 in
    λ i. rs ++ record { member = m; number = sym h.0 i; entry = sym h.1 i; set = set i } ∷ []

-- a station that speaks the version of its rows goes on in it, stopped or not
wire_stays : {R : Type 0} (x : Sight R) (refusals : R → ℕ) (v : Version) (s : Station (Balky R)) → IsAt x.version v s → wire_at (balky_sight x refusals) s ≡ s.speaker.wire
wire_stays x refusals v s at = go s.stopped
  where
    go : (b : Bool) → (if b then s.speaker.wire else x.version s.rows.rows) ≡ s.speaker.wire
    go true = refl
    go false = at.rows ∙ sym at.wire

-- it does so where a step keeps the version of its rows
pub goes_on_at :
    {R : Type 0} (x : Sight R) (refusals : R → ℕ) (v : Version) (s s' : Station (Balky R)) → IsAt x.version v s → x.version s'.rows.rows ≡ x.version s.rows.rows
    → s'.speaker.wire ≡ wire_at (balky_sight x refusals) s → IsAt x.version v s'
goes_on_at x refusals v s s' at rows wire = record { wire = wire ∙ (wire_stays x refusals v s at ∙ at.wire); rows = rows ∙ at.rows }

-- a member reads what the grammar of its version gives
hears_at : {tables : ℕ → Places} {files : ℕ → WidthFile} (z : StationCircuit) → IsSetUp tables files z → (v : Version) (bytes : List ℕ) → hears z v bytes ≡ packet_at v bytes
hears_at z set_up One bytes = set_up.reads One bytes
hears_at z set_up Two bytes = set_up.reads (z.version_of bytes) bytes ∙ ap (λ (v : Version). packet_in v bytes) (set_up.version_of bytes)

never_lower : (v : Version) → is_lower v v ≡ false
never_lower One = refl
never_lower Two = refl

-- a station that speaks the version of its rows takes over what it spoke
pub followed : {R : Type 0} (x : Sight R) (refusals : R → ℕ) (v : Version) (s found : Station (Balky R)) → IsAt x.version v s → Follows (balky_sight x refusals) s found → found ≡ s
followed {R = R} x refusals v s found at f =
    let wire : wire_at (balky_sight x refusals) s ≡ s.speaker.wire = wire_stays x refusals v s at in
    let core : found.speaker.core ≡ s.speaker.core = f.keeps (ap (λ (a : Version). is_lower a s.speaker.wire) wire ∙ never_lower s.speaker.wire) in
    f.same ∙ (λ i. record s { speaker = record { core = core i; wire = (f.wire ∙ wire) i } })

module _ {R : Type 0} (x : Sight R) (refusals : R → ℕ) (z : StationCircuit) (v v' : World R) (w : StationState) (i m : ℕ) (s s' : Station (Balky R))
    (ch : Changes v v' i m s s') (h : StandsFor x.is_open x.saved x.version z v w) (at : IsAt x.version (w.version m) s') where
  -- it takes this step, ends so, and stands for the state that this leads to
  abbrev pub Comes : circuit.Step → Outcome PacketFault SetFault → Type 0
  Comes step o = (after : StationState) × StandsFor x.is_open x.saved x.version z v' after × StepsTo z w step o after

  -- the step asks this member so
  abbrev pub Sends : circuit.Step → Call → Type 0
  Sends step call = task_of w.sent step ≡ Some (record { member = m; call = call })

  old : Shows x.is_open x.saved x.version h.tables h.files z w m s
  old = shown v v' i m s s' ch x.is_open x.saved x.version z w h

  pub stood : CoreStandsFor s.speaker.core (w.marks m)
  stood = old.marks

  pub member : IsMember z.count m
  member = is_member_of v v' i m s s' ch x.is_open x.saved x.version z w h

  sets : (entry : Entry) → SetsEntry (mean s.table) s.widths entry (z.sets m entry)
  sets entry =
      let a = subst (λ (t : Places). SetsEntry (mean t) (h.files m) entry (z.sets m entry)) (sym old.table) (h.set_up.sets m entry) in
      subst (λ (f : WidthFile). SetsEntry (mean s.table) f entry (z.sets m entry)) (sym old.widths) a

  -- the member reads bytes, and has spellings for entries, as the station does in the version that it speaks
  reads : (bytes : List ℕ) → hears z (w.version m) bytes ≡ packet_at s.speaker.wire bytes
  reads bytes = hears_at z h.set_up (w.version m) bytes ∙ ap (λ (a : Version). packet_at a bytes) (sym old.is_at.wire)

  spells : (entry : Entry) → fits (w.version m) entry ≡ fits s.speaker.wire entry
  spells entry = ap (λ (a : Version). fits a entry) (sym old.is_at.wire)

  faults : (entry : Entry) → setting_refusal {D = PacketFault} (z.sets m entry) ≡ setting_refusal {D = PacketFault} (stations.sets_entry s.table s.widths entry)
  faults entry = entry_alike s.table s.widths entry (z.sets m entry) (sets entry)

  seat_is : circuit.seat_at z m ≡ seat_of s.speaker.core
  seat_is = λ j. sits (sym old.circuit j) (sym old.me j) (sym old.members j)

  refusal_is : (call : Call) → refusal (circuit.setup_of z (w.version m) m) (w.is_stopped m) (w.marks m) call ≡ refusal (stations.setup_of s) s.stopped (w.marks m) call
  refusal_is call =
      ap (λ (b : Bool). refusal (circuit.setup_of z (w.version m) m) b (w.marks m) call) (sym old.stopped)
      ∙ refusal_alike (circuit.setup_of z (w.version m) m) (stations.setup_of s) seat_is reads spells faults s.stopped (w.marks m) call

  early_is : (call : Call) → early_refusal (circuit.setup_of z (w.version m) m) (w.is_stopped m) (w.marks m) call ≡ early_refusal (stations.setup_of s) s.stopped (w.marks m) call
  early_is call =
      ap (λ (b : Bool). early_refusal (circuit.setup_of z (w.version m) m) b (w.marks m) call) (sym old.stopped)
      ∙ early_alike (circuit.setup_of z (w.version m) m) (stations.setup_of s) seat_is reads spells faults s.stopped (w.marks m) call

  event_is : (call : Call) → event_of (circuit.setup_of z (w.version m) m) (w.marks m) call ≡ event_of (stations.setup_of s) (w.marks m) call
  event_is call = event_alike (circuit.setup_of z (w.version m) m) (stations.setup_of s) seat_is reads spells faults (w.marks m) call

  -- a turn of the station's is one of the state's
  turns : (e : Event) (o : Option Turn) → x.is_open s.rows.rows → turn_of (balky_sight x refusals) s (w.marks m) e ≡ o → turn (circuit.seat_at z m) (w.marks m) (w.rows m (number_of e)) e ≡ o
  turns e o here is = (λ j. turn (seat_is j) (w.marks m) (sym (old.rows here (number_of e)) j) e) ∙ is

  -- a state that differs in nothing is shown by a station that differs in its rows' reading alone
  read_alone :
      IsFixed s s' → s'.stopped ≡ s.stopped → CoreStandsFor s'.speaker.core (w.marks m)
      → (s'.rows ≡ s.rows) ⊎ WasRead (balky_sight x refusals) s.rows s'.rows
      → v'.sent.items ≡ v.sent.items → v'.offers.items ≡ v.offers.items → v'.releases.items ≡ v.releases.items → StandsFor x.is_open x.saved x.version z v' w
  read_alone fixed stopped stands read sent offers releases =
      stands_after v v' i m s s' ch x.is_open x.saved x.version z w h w new others (h.sent ∙ sym sent) (h.offers ∙ sym offers) (h.releases ∙ sym releases)
    where
      others : Elsewhere w w m
      others = record { version = λ k ne. refl; rows = λ k ne j. refl; marks = λ k ne. refl; stopped = λ k ne. refl; armed = λ k ne. refl }

      rows : (x.is_open s'.rows.rows → (j : ℕ) → x.saved s'.rows.rows j ≡ w.rows m j) × (s'.rows.armed ≡ w.armed m)
      rows = elim read [
        | inl same ↦ (λ here j. ap (λ (r : Balky R). x.saved r.rows j) same ∙ old.rows (subst (λ (r : Balky R). x.is_open r.rows) same here) j, ap (λ (r : Balky R). r.armed) same ∙ old.armed)
        | inr r ↦ (λ here j. r.same here j ∙ old.rows (r.was_open here) j, r.alike.0 ∙ old.armed)
      ]

      new : Shows x.is_open x.saved x.version h.tables h.files z w m s'
      new = record {
        circuit = fixed.circuit ∙ old.circuit;
        members = fixed.members ∙ old.members;
        me = fixed.me ∙ old.me;
        table = fixed.table ∙ old.table;
        widths = fixed.widths ∙ old.widths;
        is_at = at;
        rows = rows.0;
        marks = stands;
        stopped = stopped ∙ old.stopped;
        armed = rows.1;
      }

  same_fixed : s' ≡ s → IsFixed s s'
  same_fixed is = record {
    circuit = ap (λ (t : Station (Balky R)). t.speaker.core.circuit) is;
    members = ap (λ (t : Station (Balky R)). t.speaker.core.members) is;
    me = ap (λ (t : Station (Balky R)). t.speaker.core.me) is;
    table = ap (λ (t : Station (Balky R)). t.table) is;
    widths = ap (λ (t : Station (Balky R)). t.widths) is;
  }

  -- the station stayed, and so does the state
  stayed : s' ≡ s → v'.sent.items ≡ v.sent.items → v'.offers.items ≡ v.offers.items → v'.releases.items ≡ v.releases.items → StandsFor x.is_open x.saved x.version z v' w
  stayed is =
      read_alone (same_fixed is) (ap (λ (t : Station (Balky R)). t.stopped) is) (subst (λ (t : Station (Balky R)). CoreStandsFor t.speaker.core (w.marks m)) (sym is) old.marks)
      (inl (ap (λ (t : Station (Balky R)). t.rows) is))

  pub refused_comes :
      (step : circuit.Step) (call : Call) (r : Refusal PacketFault SetFault) → Sends step call → refusal (stations.setup_of s) s.stopped (w.marks m) call ≡ Some r → s' ≡ s
      → v'.sent.items ≡ v.sent.items → v'.offers.items ≡ v.offers.items → v'.releases.items ≡ v.releases.items → Comes step (circuit.Refused r)
  refused_comes step call r task refused is sent offers releases =
      (w, stayed is sent offers releases, is_refused m call r task member (refusal_is call ∙ refused) refl (same_state w))

  pub idle_comes :
      (step : circuit.Step) (call : Call) → Sends step call → refusal (stations.setup_of s) s.stopped (w.marks m) call ≡ None → event_of (stations.setup_of s) (w.marks m) call ≡ None → s' ≡ s
      → v'.sent.items ≡ v.sent.items → v'.offers.items ≡ v.offers.items → v'.releases.items ≡ v.releases.items → Comes step (circuit.Done Note_idle)
  idle_comes step call task unrefused none is sent offers releases =
      (w, stayed is sent offers releases, is_idle m call task member (refusal_is call ∙ unrefused) (event_is call ∙ none) refl (same_state w))

  pub spent_comes :
      (step : circuit.Step) (call : Call) (e : Event) → Sends step call → Asks s (w.marks m) call e → Spent (balky_sight x refusals) e s s' (w.marks m)
      → v'.sent.items ≡ v.sent.items → v'.offers.items ≡ v.offers.items → v'.releases.items ≡ v.releases.items → Comes step (circuit.Refused Rounds_spent)
  spent_comes step call e task asks d sent offers releases = (
    w,
    read_alone fixed (ap (λ (t : Station (Balky R)). t.stopped) d.same) (subst (λ (t : Station (Balky R)). CoreStandsFor t.speaker.core (w.marks m)) (sym d.same) old.marks) (inr d.read) sent offers releases,
    is_spent m call e task member (refusal_is call ∙ asks.unrefused) (event_is call ∙ asks.event) (turns e None d.was_open d.none) refl (same_state w),
  )
    where
      fixed : IsFixed s s'
      fixed = record {
        circuit = ap (λ (t : Station (Balky R)). t.speaker.core.circuit) d.same;
        members = ap (λ (t : Station (Balky R)). t.speaker.core.members) d.same;
        me = ap (λ (t : Station (Balky R)). t.speaker.core.me) d.same;
        table = ap (λ (t : Station (Balky R)). t.table) d.same;
        widths = ap (λ (t : Station (Balky R)). t.widths) d.same;
      }

  pub done_comes :
      (one : OneSetting) (step : circuit.Step) (call : Call) (e : Event) (a : Answer) → Sends step call → Asks s (w.marks m) call e → Done (balky_sight x refusals) e s s' (w.marks m) a
      → v'.sent.items ≡ v.sent.items ++ a.out.items → v'.offers.items ≡ offers_with v.offers.items m e → v'.releases.items ≡ v.releases.items ++ logged m a.release
      → Comes step (circuit.Done (note_value a.note))
  done_comes one step call e a task asks d sent offers releases = (
    after,
    stands_after v v' i m s s' ch x.is_open x.saved x.version z w h after new others
        (ap (λ (l : List Datagram). l ++ a.out.items) h.sent ∙ sym sent)
        (ap (λ (l : List circuit.Offer). offers_with l m e) h.offers ∙ sym offers)
        (ap (λ (l : List (Release (List Slug) SetFault)). releases_with z l m (number_of e) d.taken.release) h.releases
        ∙ (logs_release z one s.table s.widths m (number_of e) v.releases.items d.taken.release a.release sets d.release ∙ sym releases)),
    is_done m call e d.taken a.out.items task member (refusal_is call ∙ asks.unrefused) (event_is call ∙ asks.event) (turns e (Some d.taken) d.was_open d.is_turn) carried told
        (ap circuit.Done d.note) (same_state after),
  )
    where
      after : StationState
      after = record w {
        rows = saved w.rows m (number_of e) d.taken.row;
        marks = with_at w.marks m d.taken.marks;
        sent = w.sent ++ a.out.items;
        offers = offers_with w.offers m e;
        releases = releases_with z w.releases m (number_of e) d.taken.release;
      }

      others : Elsewhere w after m
      others = record {
        version = λ k ne. refl;
        rows = λ k ne j. saved_other w.rows m (number_of e) d.taken.row k ne j;
        marks = λ k ne. with_at-other w.marks m d.taken.marks k ne;
        stopped = λ k ne. refl;
        armed = λ k ne. refl;
      }

      carried : AllZip (circuit.Carries z (w.version m)) d.taken.out a.out.items
      carried =
          subst (λ (rd : List ℕ → Result Packet PacketFault). AllZip (λ (p : Packet) (g : Datagram). (g.to ≡ p.to) × (rd g.bytes ≡ Ok p)) d.taken.out a.out.items)
          (λ j bytes. sym (h.set_up.reads (w.version m) bytes ∙ ap (λ (v : Version). packet_in v bytes) (sym old.is_at.wire)) j) d.out

      told : (w.armed m ≡ None) ⊎ (d.taken.row ≡ w.rows m (number_of e))
      told = elim d.told [
        | inl r ↦ inr (r.1 ∙ old.rows d.was_open (number_of e))
        | inr r ↦ inl (sym old.armed ∙ (sym r.read.alike.0 ∙ r.passes.0))
      ]

      armed : s'.rows.armed ≡ w.armed m
      armed = elim d.told [
        | inl r ↦ r.0.0 ∙ old.armed
        | inr r ↦ r.passes.1 ∙ (sym r.passes.0 ∙ (r.read.alike.0 ∙ old.armed))
      ]

      now_rows : (j : ℕ) → x.saved s'.rows.rows j ≡ saved w.rows m (number_of e) d.taken.row m j
      now_rows j = d.rows j ∙ ((λ k. with_at (λ q. old.rows d.was_open q k) (number_of e) d.taken.row j) ∙ sym (saved_here w.rows m (number_of e) d.taken.row j))

      goes : s.stopped ≡ false
      goes = unstopped (stations.setup_of s) s.stopped (w.marks m) call asks.unrefused

      new : Shows x.is_open x.saved x.version h.tables h.files z after m s'
      new = record {
        circuit = d.fixed.circuit ∙ old.circuit;
        members = d.fixed.members ∙ old.members;
        me = d.fixed.me ∙ old.me;
        table = d.fixed.table ∙ old.table;
        widths = d.fixed.widths ∙ old.widths;
        is_at = at;
        rows = λ here j. now_rows j;
        marks = subst (λ (l : List Mark). CoreStandsFor s'.speaker.core l) (sym (with_at-same w.marks m d.taken.marks)) d.stands_for;
        stopped = d.goes_on ∙ (sym goes ∙ old.stopped);
        armed = armed;
      }

  -- a torn step, with the row that it leaves
  torn_to :
      (step : circuit.Step) (call : Call) (e : Event) (o : Outcome PacketFault SetFault) (row : Row) → Sends step call
      → event_of (stations.setup_of s) (w.marks m) call ≡ Some e
      → Leaves z w m call e o row s'.rows.armed → IsFixed s s' → s'.stopped ≡ true → CoreStandsFor s'.speaker.core []
      → (x.is_open s'.rows.rows → (j : ℕ) → x.saved s'.rows.rows j ≡ with_at (w.rows m) (number_of e) row j)
      → v'.sent.items ≡ v.sent.items → v'.offers.items ≡ offers_with v.offers.items m e → v'.releases.items ≡ v.releases.items → Comes step o
  torn_to step call e o row task event leaves fixed stops stands rows sent offers releases = (
    after,
    stands_after v v' i m s s' ch x.is_open x.saved x.version z w h after new others (h.sent ∙ sym sent) (ap (λ (l : List circuit.Offer). offers_with l m e) h.offers ∙ sym offers) (h.releases ∙ sym releases),
    is_torn m call e row s'.rows.armed task member (event_is call ∙ event) leaves (same_state after),
  )
    where
      after : StationState
      after = record w {
        rows = saved w.rows m (number_of e) row;
        marks = with_at w.marks m [];
        is_stopped = with_at w.is_stopped m true;
        armed = with_at w.armed m s'.rows.armed;
        offers = offers_with w.offers m e;
      }

      others : Elsewhere w after m
      others = record {
        version = λ k ne. refl;
        rows = λ k ne j. saved_other w.rows m (number_of e) row k ne j;
        marks = λ k ne. with_at-other w.marks m [] k ne;
        stopped = λ k ne. with_at-other w.is_stopped m true k ne;
        armed = λ k ne. with_at-other w.armed m s'.rows.armed k ne;
      }

      new : Shows x.is_open x.saved x.version h.tables h.files z after m s'
      new = record {
        circuit = fixed.circuit ∙ old.circuit;
        members = fixed.members ∙ old.members;
        me = fixed.me ∙ old.me;
        table = fixed.table ∙ old.table;
        widths = fixed.widths ∙ old.widths;
        is_at = at;
        rows = λ here j. rows here j ∙ sym (saved_here w.rows m (number_of e) row j);
        marks = subst (λ (l : List Mark). CoreStandsFor s'.speaker.core l) (sym (with_at-same w.marks m [])) stands;
        stopped = stops ∙ sym (with_at-same w.is_stopped m true);
        armed = sym (with_at-same w.armed m s'.rows.armed);
      }

  -- rows that were read are those of the state
  stays : {now : Balky R} (n : ℕ) → WasRead (balky_sight x refusals) s.rows now → x.is_open now.rows → (j : ℕ) → x.saved now.rows j ≡ with_at (w.rows m) n (w.rows m n) j
  stays n r here j = r.same here j ∙ (old.rows (r.was_open here) j ∙ sym (with_at-self (w.rows m) n j))

  -- rows that were not asked are those of the state
  unasked : (n : ℕ) → s'.rows ≡ s.rows → x.is_open s'.rows.rows → (j : ℕ) → x.saved s'.rows.rows j ≡ with_at (w.rows m) n (w.rows m n) j
  unasked n same here j =
      ap (λ (r : Balky R). x.saved r.rows j) same ∙ (old.rows (subst (λ (r : Balky R). x.is_open r.rows) same here) j ∙ sym (with_at-self (w.rows m) n j))

  pub memory_comes :
      (step : circuit.Step) (call : Call) (e : Event) → Sends step call → AsksEarly s (w.marks m) call e → TornByMemory (balky_sight x refusals) e s s' (w.marks m)
      → v'.sent.items ≡ v.sent.items → v'.offers.items ≡ offers_with v.offers.items m e → v'.releases.items ≡ v.releases.items → Comes step circuit.Torn_by_memory
  memory_comes step call e task asks d sent offers releases = elim d.rows [
    | inl same ↦ torn_to step call e circuit.Torn_by_memory (w.rows m (number_of e)) task asks.event
        (memory_before_save refl (early_is call ∙ asks.unrefused) refl (ap (λ (r : Balky R). r.armed) same ∙ old.armed)) d.fixed d.stops d.stands_for (unasked (number_of e) same) sent offers releases
    | inr r ↦ torn_to step call e circuit.Torn_by_memory (w.rows m (number_of e)) task asks.event
        (memory_before_save refl (early_is call ∙ asks.unrefused) refl (r.alike.0 ∙ old.armed)) d.fixed d.stops d.stands_for (stays (number_of e) r) sent offers releases
  ]

  -- the member's own rows refused a call
  abbrev pub Own : Type 0
  Own = Rises (refusals s.rows.rows) (refusals s'.rows.rows)

  -- it was torn by its store: as it was armed, or by its own rows
  abbrev pub ComesTorn : circuit.Step → Type 0
  ComesTorn step = (o : Outcome PacketFault SetFault) × ((o ≡ circuit.Torn_as_armed) ⊎ ((o ≡ circuit.Torn_by_store) × Own)) × Comes step o

  module _ (step : circuit.Step) (call : Call) (e : Event) {fault : RowsFault} (task : Sends step call) (asks : Asks s (w.marks m) call e) (kept : x.kept s'.rows.rows)
      (d : TornByStore (balky_sight x refusals) e s s' (w.marks m) fault)
      (sent : v'.sent.items ≡ v.sent.items) (offers : v'.offers.items ≡ offers_with v.offers.items m e) (releases : v'.releases.items ≡ v.releases.items) where
    n : ℕ
    n = number_of e

    to : (o : Outcome PacketFault SetFault) (row : Row) → Leaves z w m call e o row s'.rows.armed → (x.is_open s'.rows.rows → (j : ℕ) → x.saved s'.rows.rows j ≡ with_at (w.rows m) (number_of e) row j) → Comes step o
    to o row leaves rows = torn_to step call e o row task asks.event leaves d.fixed d.stops d.stands_for rows sent offers releases

    by_own : Own → Comes step circuit.Torn_by_store → ComesTorn step
    by_own own comes = (circuit.Torn_by_store, inr (refl, own), comes)

    as_armed : Comes step circuit.Torn_as_armed → ComesTorn step
    as_armed comes = (circuit.Torn_as_armed, inl refl, comes)

    -- the rows were read and refused to be
    at_read : WasRead (balky_sight x refusals) s.rows s'.rows → Rises (refusals s.rows.rows) (refusals s'.rows.rows) → ComesTorn step
    at_read r own =
        by_own own (to circuit.Torn_by_store (w.rows m (number_of e)) (store_before_save refl (refusal_is call ∙ asks.unrefused) refl (r.alike.0 ∙ old.armed)) (stays (number_of e) r))

    module _ (r : AtSave (balky_sight x refusals) e s (w.marks m) s'.rows fault) where
      changes : ¬ (r.taken.row ≡ w.rows m (number_of e))
      changes same = r.changes (same ∙ sym (old.rows r.was_open (number_of e)))

      armed_mid : r.balked.mid.armed ≡ w.armed m
      armed_mid = r.balked.read.alike.0 ∙ old.armed

      leaves : (o : Outcome PacketFault SetFault) (row : Row) → MayLeave (w.armed m) o (w.rows m (number_of e)) r.taken.row row → Leaves z w m call e o row s'.rows.armed
      leaves o row may = at_save r.taken (refusal_is call ∙ asks.unrefused) (turns e (Some r.taken) r.was_open r.is_turn) changes may r.balked.tells.0

      keeps :
          (o : Outcome PacketFault SetFault) → (x.is_open s'.rows.rows → (k : ℕ) → x.saved s'.rows.rows k ≡ x.saved r.balked.mid.rows k)
          → MayLeave (w.armed m) o (w.rows m (number_of e)) r.taken.row (w.rows m (number_of e)) → Comes step o
      keeps o same may = to o (w.rows m (number_of e)) (leaves o (w.rows m (number_of e)) may) (λ here j. same here j ∙ stays (number_of e) r.balked.read r.balked.mid_open j)

      mid : (j : ℕ) → with_at (x.saved r.balked.mid.rows) (number_of e) r.taken.row j ≡ with_at (w.rows m) (number_of e) r.taken.row j
      mid j = λ q. with_at (λ k. (r.balked.read.same r.balked.mid_open k ∙ old.rows r.was_open k) q) (number_of e) r.taken.row j

      saves :
          (o : Outcome PacketFault SetFault) → ((k : ℕ) → x.saved s'.rows.rows k ≡ with_at (x.saved r.balked.mid.rows) (number_of e) r.taken.row k)
          → MayLeave (w.armed m) o (w.rows m (number_of e)) r.taken.row r.taken.row → Comes step o
      saves o has may = to o r.taken.row (leaves o r.taken.row may) (λ here j. has j ∙ mid j)

      -- its own rows refused the save
      either :
          Rises (refusals r.balked.mid.rows) (refusals s'.rows.rows) → MayLeave {D = PacketFault} {F = SetFault} (w.armed m) circuit.Torn_by_store (w.rows m (number_of e)) r.taken.row (w.rows m (number_of e))
          → MayLeave {D = PacketFault} {F = SetFault} (w.armed m) circuit.Torn_by_store (w.rows m (number_of e)) r.taken.row r.taken.row → ComesTorn step
      either rise may also =
          by_own (rises_before (refusals s.rows.rows) (refusals r.balked.mid.rows) (refusals s'.rows.rows) r.balked.read.alike.1 r.balked.blames.0 rise)
          (elim r.balked.either [
            | inl shut ↦ keeps circuit.Torn_by_store (λ here. absurd (shut here)) may
            | inr o ↦ elim o [ inl same ↦ keeps circuit.Torn_by_store (λ here. same) may | inr has ↦ saves circuit.Torn_by_store has also ]
          ])

      balked : (o : Option Bool) → w.armed m ≡ o → ComesTorn step
      balked None is = elim r.balked.blames.1 [
        | inl armed ↦ absurd (unarmed (subst (λ (f : Option Bool). IsSome f) (armed_mid ∙ is) armed.0))
        | inr own ↦ either own.1 (rw is (refl, inl refl)) (rw is (refl, inr refl))
      ]
      balked (Some true) is = elim (r.balked.tells.3 (armed_mid ∙ is)) [
        | inl has ↦ as_armed (saves circuit.Torn_as_armed (has kept) (rw is (inl (refl, refl))))
        | inr own ↦ either own.0 (rw is (inr (refl, inl refl))) (rw is (inr (refl, inr refl)))
      ]
      balked (Some false) is = as_armed (keeps circuit.Torn_as_armed (λ here k. ap (λ (y : R). x.saved y k) (r.balked.tells.1 (armed_mid ∙ is))) (rw is (refl, refl)))

    pub store_comes : ComesTorn step
    store_comes = elim d.at [
      | inl r ↦ elim r.1.1 [
        | inl armed ↦ absurd (unarmed (subst (λ (f : Option Bool). IsSome f) (sym r.0.alike.0 ∙ armed.1) armed.0))
        | inr own ↦ at_read r.0 own.1
      ]
      | inr r ↦ balked r (w.armed m) refl
    ]
