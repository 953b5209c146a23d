-- A station that was asked by a step of the world, of plain values.
use Rattle.std.proofs.Common.{◌≡◌, ℕ, zero, suc, ◌-◌, ◌+◌, ◌<◌, ◌≤◌, inl, inr, refl, sym, ap, subst, ◌∙◌, arith, List, [], ◌∷◌, ◌++◌, Some, None, Option, Bool, true, false, length, get_or, append-nil}
use Rattle.std.specs.Prelude.{Result, Ok, Err, IsErr, IsErrAnd, IsSome, slice_get, slice_set, ◌==◌, option_map, is_some, if◌then◌else◌}
use Rattle.std.proofs.lemmas.Bool.{eqb-true}
use Rattle.std.proofs.Math.ListN.{length-set}
use Rattle.std.proofs.lemmas.Option.{slice_get-get_or}
use Rattle.protocol.specs.Entries.{Entry, Void, Taped}
use Rattle.protocol.specs.Versions.{Version}
use Rattle.protocol.specs.Marks.{Mark}
use Rattle.protocol.specs.Refusals.{Call, Receiving}
use Rattle.protocol.specs.Circuit as circuit
use Rattle.protocol.specs.Circuit.{Datagram, Task, Missing, task_of, delivery, datagram_at, member_missing, datagram_missing}
use Rattle.packets.specs.declared.fault.PacketFault.{PacketFault}
use Rattle.line_check.specs.Laws.{OneSetting}
use Rattle.line_check.specs.declared.fault.SetFault.{SetFault}
use Rattle.rows_saved.specs.Saved.{Saved, Rises}
use Rattle.rows_saved.specs.declared.balky.Balky.{Balky}
use Rattle.rows_saved.specs.declared.fault.RowsFault.{RowsFault}
use Rattle.rows_saved.specs.declared.rows.Rows.{Ghosts}
use Rattle.node_core.specs.Standing.{StandsFor as CoreStandsFor}
use Rattle.station.specs.declared.station.Station.{Station}
use Rattle.station.specs.declared.answer.Answer.{Answer}
use Rattle.station.specs.declared.answer.Release.{Release}
use Rattle.refusals.specs.declared.refusal.StepRefusal.{StepRefusal}
use Rattle.refusals.specs.declared.refusal.StepRefusal.TheVariants.{Stopped, BadDatagram, WrongCircuit, NotForMe, Stranger, BadNumber, NoSuchMember, AlreadyReleased, AlreadyOpen, WireTooOld, TapeFaulty, RoundsSpent, Store, OutOfMemory}
use Rattle.station.specs.Stations.{Sight, sight, wire_at}
use Rattle.station.specs.Steps.{Steps, TakesStep, IfStore, IsBlamed}
use Rattle.world.specs.declared.world.World.{World}
use Rattle.world.specs.declared.call.MemberCall.{MemberCall}
use Rattle.world.specs.declared.call.MemberCall.TheVariants as calls
use Rattle.world.specs.declared.step.Step.{Step}
use Rattle.world.specs.declared.step.Step.TheVariants as steps
use Rattle.world.specs.declared.step.Seen.{Seen}
use Rattle.world.specs.declared.step.Outcome.{Outcome}
use Rattle.world.specs.declared.step.Outcome.TheVariants as outcomes
use Rattle.world.specs.declared.step.WorldRefusal.{WorldRefusal}
use Rattle.world.specs.declared.step.WorldRefusal.TheVariants as world_refusals
use Rattle.world.specs.Setups.{StationCircuit, StationState}
use Rattle.world.specs.Worlds.{count_of, IsSame, station_at}
use Rattle.world.specs.Taking.{call_of, step_of, step_value, EndsAs, RefusedAs, RowsRefused, IsCause, WasTorn, IfTorn, TellsWhy, was_taken, offered_after, offers_after, actor, missing_in, IsReason, Tells}
use Rattle.world.specs.Reach.{AllKept, AllMade, FollowsStep, StandsFor, Moves, Stepped}
use Rattle.world.specs.Logging.{logged, offered_of, out_of, outcome_of, released_of, seen_of, was_released}
use Rattle.world.proofs.Members.{Changes, here, kept_here, kept_before, made_after, shown, some_is}
use Rattle.world.proofs.Turning.{balky_sight, followed, goes_on_at, rises_before}
use Rattle.world.proofs.Stepping.{offers_of, answered}

-- one station was changed where it stands
pub changed :
    {R : Type 0} (v v' : World R) (i m : ℕ) (s s' : Station (Balky R)) → suc i ≡ m → i < length v.stations.items → s ≡ get_or v.stations.items i s
    → v'.stations.items ≡ slice_set v.stations.items i s' → Changes v v' i m s s'
changed v v' i m s s' is_m within is stations = record {
  is_member = is_m;
  at_i = slice_get-get_or v.stations.items i s within ∙ ap Some (sym is);
  stations = stations;
}

-- a world that is the same stands for the same state
pub still : {R : Type 0} (is_open : R → Type 0) (saved : R → Saved) (version : R → Version) (v v' : World R) → IsSame v v' → (z : StationCircuit) (w : StationState) → StandsFor is_open saved version z v w → StandsFor is_open saved version z v' w
still {R = R} is_open saved version v v' same z w h = record {
  tables = h.tables;
  files = h.files;
  set_up = h.set_up;
  count = h.count ∙ ap (λ (l : List (Station (Balky R))). length l) (sym stations);
  each = λ m s at_m. h.each m s (station_is m s at_m);
  sent = h.sent ∙ sym same.sent;
  offers = h.offers ∙ sym same.offers;
  releases = h.releases ∙ sym same.releases;
}
  where
    stations : v'.stations.items ≡ v.stations.items
    stations = ap (λ q. q.items) same.stations

    station_is : (m : ℕ) (s : Station (Balky R)) → station_at v' m ≡ Some s → station_at v m ≡ Some s
    station_is zero s at_m = at_m
    station_is (suc i) s at_m = ap (λ (l : List (Station (Balky R))). slice_get l i) (sym stations) ∙ at_m

pub same_kept : {R : Type 0} (kept : R → Type 0) (v v' : World R) → IsSame v v' → AllKept kept v' → AllKept kept v
same_kept {R = R} kept v v' same all m s at_m = all m s (there m at_m)
  where
    there : (k : ℕ) → station_at v k ≡ Some s → station_at v' k ≡ Some s
    there zero at_k = at_k
    there (suc i) at_k = ap (λ q. slice_get q.items i) same.stations ∙ at_k

pub same_made : {R : Type 0} (made : R → Type 0) (v v' : World R) → IsSame v v' → AllMade made v → AllMade made v'
same_made {R = R} made v v' same all m s at_m = all m s (there m at_m)
  where
    there : (k : ℕ) → station_at v' k ≡ Some s → station_at v k ≡ Some s
    there zero at_k = at_k
    there (suc i) at_k = ap (λ q. slice_get q.items i) (sym same.stations) ∙ at_k

-- the step asks member m this call: of a world with this count and these datagrams
pub record Brings {R : Type 0} (v : World R) (step : Step) (m : ℕ) (call : Call) : Type 0 where
  pub task : task_of v.sent.items (step_value step) ≡ Some (record { member = m; call = call })
  pub acts : actor v.sent.items step ≡ Some m
  pub there : missing_in v step ≡ None
  pub logs : (os : List circuit.Offer) (r : Result Answer StepRefusal) → os ++ offers_of m call r ≡ offers_after os step (outcome_of r)

logs_offer : (m n : ℕ) (entry : Entry) (os : List circuit.Offer) (o : Outcome) → os ++ offered_of (Some (record { member = m; number = n; entry = entry })) o ≡ offered_after os m n entry o
logs_offer m n entry os o = go (was_taken o)
  where
    one : List circuit.Offer
    one = record { member = m; number = n; entry = entry } ∷ []

    go : (b : Bool) → os ++ (if b then one else []) ≡ (if b then os ++ one else os)
    go true = refl
    go false = append-nil os

-- what a step asks of a member is asked of it, where there is such a member
pub call_brings : {R : Type 0} (v : World R) (m : ℕ) (call : MemberCall) → member_missing (count_of v) m ≡ None → Brings v (step_of m call) m (call_of call)
call_brings v m (calls.Offer n tape now) there = record { task = refl; acts = refl; there = there; logs = λ os r. logs_offer m n (Taped tape.now) os (outcome_of r) }
call_brings v m (calls.Withdraw n now) there = record { task = refl; acts = refl; there = there; logs = λ os r. logs_offer m n Void os (outcome_of r) }
call_brings v m (calls.Seek n now) there = record { task = refl; acts = refl; there = there; logs = λ os r. append-nil os }
call_brings v m (calls.Due now) there = record { task = refl; acts = refl; there = there; logs = λ os r. append-nil os }
call_brings v m (calls.Recall n to) there = record { task = refl; acts = refl; there = there; logs = λ os r. append-nil os }

-- and it is missing where the member is
pub call_missing : {R : Type 0} (v : World R) (m : ℕ) (call : MemberCall) → missing_in v (step_of m call) ≡ member_missing (count_of v) m
call_missing v m (calls.Offer n tape now) = refl
call_missing v m (calls.Withdraw n now) = refl
call_missing v m (calls.Seek n now) = refl
call_missing v m (calls.Due now) = refl
call_missing v m (calls.Recall n to) = refl

-- the k-th datagram is that of the place before
pub datagram_is : (sent : List Datagram) (k : ℕ) → 1 ≤ k → datagram_at sent k ≡ slice_get sent (k - 1)
datagram_is sent k low = go (k == 0) refl
  where
    go : (b : Bool) → (k == 0) ≡ b → datagram_at sent k ≡ slice_get sent (k - 1)
    go true e = absurd (let none : k ≡ 0 = eqb-true k 0 e in omega arith)
    go false e = rw e refl

pub deliver_brings :
    {R : Type 0} (v v' : World R) (k m now : ℕ) (d : Datagram) → IsSame v v' → 1 ≤ k → k ≤ length v.sent.items → d ≡ get_or v'.sent.items (k - 1) d
    → actor v.sent.items (steps.Deliver k now) ≡ Some m → member_missing (count_of v) m ≡ None → Brings v (steps.Deliver k now) m (Receiving d.bytes now)
deliver_brings v v' k m now d same low high is acts there = record {
  task = ap (λ (o : Option Datagram). delivery o now) at_k ∙ ap (λ (j : ℕ). Some (record { member = j; call = Receiving d.bytes now })) to;
  acts = acts;
  there = ap (λ (o : Option Datagram). datagram_missing (count_of v) o) at_k ∙ (ap (λ (j : ℕ). member_missing (count_of v) j) to ∙ there);
  logs = λ os r. append-nil os;
}
  where
    at_k : datagram_at v.sent.items k ≡ Some d
    at_k =
        let there_is : d ≡ get_or v.sent.items (k - 1) d = is ∙ ap (λ (l : List Datagram). get_or l (k - 1) d) same.sent in
        datagram_is v.sent.items k low ∙ (slice_get-get_or v.sent.items (k - 1) d (omega arith) ∙ ap Some (sym there_is))

    to : d.to ≡ m
    to = some_is (ap (λ (o : Option Datagram). option_map (λ (q : Datagram). q.to) o) (sym at_k) ∙ acts)

-- the station that was changed, before and after
pub before_at : {R : Type 0} (v v1 v' : World R) (i m : ℕ) (s s' : Station (Balky R)) → IsSame v v1 → Changes v1 v' i m s s' → station_at v m ≡ Some s
before_at v v1 v' i m s s' same ch =
    ap (λ (k : ℕ). station_at v k) (sym ch.is_member) ∙ (ap (λ q. slice_get q.items i) (sym same.stations) ∙ ch.at_i)

pub after_at : {R : Type 0} (v1 v' : World R) (i m : ℕ) (s s' : Station (Balky R)) → Changes v1 v' i m s s' → station_at v' m ≡ Some s'
after_at v1 v' i m s s' ch = ap (λ (k : ℕ). station_at v' k) (sym ch.is_member) ∙ here v1 v' i m s s' ch

-- a step ends so where less is asked of the member's own rows
refused_more : (q : StepRefusal) (P Q : Type 0) → (P → Q) → (o : circuit.Outcome PacketFault SetFault) → RefusedAs q P o → RefusedAs q Q o
refused_more Stopped P Q f o e = e
refused_more (BadDatagram fault) P Q f o e = e
refused_more WrongCircuit P Q f o e = e
refused_more NotForMe P Q f o e = e
refused_more Stranger P Q f o e = e
refused_more BadNumber P Q f o e = e
refused_more NoSuchMember P Q f o e = e
refused_more AlreadyReleased P Q f o e = e
refused_more AlreadyOpen P Q f o e = e
refused_more WireTooOld P Q f o e = e
refused_more (TapeFaulty fault) P Q f o e = e
refused_more RoundsSpent P Q f o e = e
refused_more (Store fault) P Q f o e = elim e [ inl armed ↦ inl armed | inr own ↦ inr (own.0, f own.1) ]
refused_more OutOfMemory P Q f o e = e

pub ends_more : (out : Outcome) (P Q : Type 0) → (P → Q) → (o : circuit.Outcome PacketFault SetFault) → EndsAs out P o → EndsAs out Q o
ends_more (outcomes.Done note) P Q f o e = e
ends_more (outcomes.Refused q) P Q f o e = refused_more q P Q f o e
ends_more outcomes.Restarted P Q f o e = e
ends_more outcomes.Upgraded P Q f o e = e
ends_more (outcomes.Armed saved) P Q f o e = e

-- where the store refused, the step is seen as torn
seen_torn : (r : Result Answer StepRefusal) (P Q : RowsFault → Type 0) → ((fault : RowsFault) → P fault → Q fault) → IfStore r P → IfTorn (outcome_of r) Q
seen_torn (Ok a) P Q f e = tt
seen_torn (Err Stopped) P Q f e = tt
seen_torn (Err (BadDatagram fault)) P Q f e = tt
seen_torn (Err WrongCircuit) P Q f e = tt
seen_torn (Err NotForMe) P Q f e = tt
seen_torn (Err Stranger) P Q f e = tt
seen_torn (Err BadNumber) P Q f e = tt
seen_torn (Err NoSuchMember) P Q f e = tt
seen_torn (Err AlreadyReleased) P Q f e = tt
seen_torn (Err AlreadyOpen) P Q f e = tt
seen_torn (Err WireTooOld) P Q f e = tt
seen_torn (Err (TapeFaulty fault)) P Q f e = tt
seen_torn (Err RoundsSpent) P Q f e = tt
seen_torn (Err (Store fault)) P Q f e = f fault e
seen_torn (Err OutOfMemory) P Q f e = tt

-- rows that can balk blame a fault since they were armed, or since the rows inside do
caused :
    {R : Type 0} (g : Ghosts R) (s s' : Station (Balky R)) (fault : RowsFault) → IsBlamed (balky_sight (sight g) g.refusals) s.rows s'.rows fault → IsCause g s s' fault
caused g s s' fault (inl now) = elim now.1 [ inl armed ↦ inl armed | inr own ↦ inr (own.0, own.1, inl own.2) ]
caused g s s' fault (inr after) = elim after.2.1 [
  | inl armed ↦ inl (subst (λ (f : Option Bool). IsSome f) after.1.0 armed.0, armed.1, armed.2)
  | inr own ↦ inr (
    own.0 ∙ after.1.0,
    rises_before (g.refusals s.rows.rows) (g.refusals after.0.rows) (g.refusals s'.rows.rows) after.1.1 after.2.0 own.1,
    inr (after.0.rows, after.1.2, own.2),
  )
]

-- a fault that the station's rows blame tore the step
pub was_torn :
    {R : Type 0} (g : Ghosts R) (v v1 v' : World R) (i m : ℕ) (s s' : Station (Balky R)) → IsSame v v1 → Changes v1 v' i m s s'
    → (fault : RowsFault) → IsBlamed (balky_sight (sight g) g.refusals) s.rows s'.rows fault → WasTorn g v v' m fault
was_torn g v v1 v' i m s s' same ch fault blamed =
    record { before = s; after = s'; at_old = before_at v v1 v' i m s s' same ch; at_new = after_at v1 v' i m s s' ch; cause = caused g s s' fault blamed }

-- where the store tore the step, it is told why
pub tells_why :
    {R : Type 0} (g : Ghosts R) (v v1 v' : World R) (i m sent : ℕ) (s s' : Station (Balky R)) (r : Result Answer StepRefusal) (seen : Seen) → IsSame v v1 → Changes v1 v' i m s s'
    → seen ≡ seen_of m sent r → IfStore r (IsBlamed (balky_sight (sight g) g.refusals) s.rows s'.rows) → TellsWhy g v v' (Ok seen)
tells_why g v v1 v' i m sent s s' r seen same ch is_seen blames =
    subst (λ (q : Seen). IfTorn q.outcome (WasTorn g v v' q.member)) (sym is_seen)
    (seen_torn r (IsBlamed (balky_sight (sight g) g.refusals) s.rows s'.rows) (WasTorn g v v' m) (was_torn g v v1 v' i m s s' same ch) blames)

-- what a station answered a call, in the words of the rows inside its own
pub record Answered {R : Type 0} (g : Ghosts R) (call : Call) (s s' : Station (Balky R)) (r : Result Answer StepRefusal) : Type 0 where
  pub steps : g.kept s'.rows.rows → TakesStep (balky_sight (sight g) g.refusals) call s s' r
  pub was_kept : g.kept s'.rows.rows → g.kept s.rows.rows
  pub made : g.made s.rows.rows → g.made s'.rows.rows
  pub blames : IfStore r (IsBlamed (balky_sight (sight g) g.refusals) s.rows s'.rows)
  pub version : g.version s'.rows.rows ≡ g.version s.rows.rows
  pub wire : s'.speaker.wire ≡ wire_at (balky_sight (sight g) g.refusals) s

-- what is seen of a step of member m that sends nothing
abbrev pub unsent_seen : {R : Type 0} → World R → ℕ → Outcome → Seen
unsent_seen v m outcome = record { member = m; first = length v.sent.items + 1; count = 0; released = false; outcome = outcome }

so_many : (m : ℕ) (r : Result Answer StepRefusal) → length (released_of m r) ≡ (if was_released r then 1 else 0)
so_many m (Ok a) = go a.release
  where
    go : (o : Option Release) → length (logged m o) ≡ (if is_some o then 1 else 0)
    go None = refl
    go (Some r) = refl
so_many m (Err refusal) = refl

module _ {R : Type 0} (v v1 v' : World R) (step : Step) (m : ℕ) (call : Call) (brings : Brings v step m call) (same : IsSame v v1) (r : Result Answer StepRefusal) (seen : Seen)
    (sent : v'.sent.items ≡ v1.sent.items ++ out_of r) (offers : v'.offers.items ≡ v1.offers.items ++ offers_of m call r) (releases : v'.releases.items ≡ v1.releases.items ++ released_of m r)
    (is_seen : seen ≡ seen_of m (length v1.sent.items) r) where
  -- what is seen is what was logged
  pub told : count_of v' ≡ count_of v1 → Tells step v v' (Ok seen)
  told count = (
    brings.there,
    record {
      member = brings.acts ∙ ap (λ (q : Seen). Some q.member) (sym is_seen);
      members = count ∙ ap (λ q. length q.items) same.stations;
      first = ap (λ (q : Seen). q.first) is_seen ∙ ap (λ (l : List Datagram). length l + 1) same.sent;
      sent = record { more = out_of r; is = sent ∙ ap (λ (l : List Datagram). l ++ out_of r) same.sent; many = ap (λ (q : Seen). q.count) (sym is_seen) };
      releases = record {
        more = released_of m r;
        is = releases ∙ ap (λ l. l ++ released_of m r) same.releases;
        many = so_many m r ∙ ap (λ (q : Seen). if q.released then 1 else 0) (sym is_seen);
      };
      offers = offers ∙ (ap (λ (l : List circuit.Offer). l ++ offers_of m call r) same.offers
          ∙ (brings.logs v.offers.items r ∙ ap (λ (q : Seen). offers_after v.offers.items step q.outcome) (sym is_seen)));
    },
  )

  module _ (x : Sight R) (count : R → ℕ) (i : ℕ) (s s' : Station (Balky R)) (ch : Changes v1 v' i m s s') where
    -- it is a step of every state that the world stands for
    pub asked :
        OneSetting → x.version s'.rows.rows ≡ x.version s.rows.rows → s'.speaker.wire ≡ wire_at (balky_sight x count) s
        → (x.kept s'.rows.rows → TakesStep (balky_sight x count) call s s' r) → AllKept x.kept v' → (z : StationCircuit) (w : StationState) → StandsFor x.is_open x.saved x.version z v w → Moves x.is_open x.saved x.version count z w step v v' (Ok seen)
    asked one version wire answers kept z w h =
        let h1 = still x.is_open x.saved x.version v v1 same z w h in
        let old = shown v1 v' i m s s' ch x.is_open x.saved x.version z w h1 in
        let at = goes_on_at x count (w.version m) s s' old.is_at version wire in
        let task = ap (λ (l : List Datagram). task_of l (step_value step)) h.sent ∙ brings.task in
        let takes = answers (kept_here v1 v' i m s s' ch x.kept kept) in
        let found : takes.found ≡ s = followed x count (w.version m) s takes.found old.is_at takes.follows in
        let Does : Station (Balky R) → Type 0 = λ t. (marks : List Mark) → CoreStandsFor t.speaker.core marks → Steps (balky_sight x count) call t s' marks r in
        let did = subst Does found takes.steps (w.marks m) old.marks in
        let ended = answered x count one z v1 v' w i m s s' ch h1 at (step_value step) call task (kept_here v1 v' i m s s' ch x.kept kept) r did (record { sent = sent; offers = offers; releases = releases }) in
        let comes = ended.2 in
        let own : Rises (count s.rows.rows) (count s'.rows.rows) → RowsRefused count v v' m = λ rises. record {
          before = s;
          after = s';
          at_old = before_at v v1 v' i m s s' same ch;
          at_new = after_at v1 v' i m s s' ch;
          rises = rises;
        } in
        let P : Seen → Type 0 = λ q. (after : StationState) × StandsFor x.is_open x.saved x.version z v' after
        × (o : circuit.Outcome PacketFault SetFault) × EndsAs q.outcome (RowsRefused count v v' q.member) o × circuit.StepsTo z w (step_value step) o after in
        subst P (sym is_seen) (comes.0, comes.1, ended.0, ends_more (outcome_of r) _ _ own ended.0 ended.1, comes.2)

    pub asked_kept : (x.kept s'.rows.rows → x.kept s.rows.rows) → AllKept x.kept v' → AllKept x.kept v
    asked_kept was all = same_kept x.kept v v1 same (kept_before v1 v' i m s s' ch x.kept was all)

-- what was made stays so, where one station was asked of a world that grew only in room
pub asked_made :
    {R : Type 0} (made : R → Type 0) (v v1 v' : World R) (i m : ℕ) (s s' : Station (Balky R)) → IsSame v v1 → Changes v1 v' i m s s' → (made s.rows.rows → made s'.rows.rows)
    → AllMade made v → AllMade made v'
asked_made made v v1 v' i m s s' same ch stays all = made_after v1 v' i m s s' ch made stays (same_made made v v1 same all)

-- one station was changed of a world that grew only in room
pub changed_in :
    {R : Type 0} (v v1 v' : World R) (i m : ℕ) (s s' : Station (Balky R)) → IsSame v v1 → suc i ≡ m → i < count_of v → s ≡ get_or v1.stations.items i s
    → v'.stations.items ≡ slice_set v1.stations.items i s' → Changes v1 v' i m s s'
changed_in v v1 v' i m s s' same is_m within is stations =
    let as_many : count_of v1 ≡ count_of v = ap (λ q. length q.items) same.stations in
    changed v1 v' i m s s' is_m (omega (arith, within, as_many)) is stations

-- a reason that a world had, it has while it stays the same
pub reason_stays : {R : Type 0} (v v' : World R) (step : Step) (refusal : WorldRefusal) → IsSame v v' → IsReason (missing_in v step) refusal → IsReason (missing_in v' step) refusal
reason_stays v v' step refusal same is =
    let missing : missing_in v step ≡ missing_in v' step = λ j. circuit.missing (sym (ap (λ q. length q.items) same.stations) j) (sym same.sent j) (step_value step) in
    subst (λ (o : Option Missing). IsReason o refusal) missing is

-- a step that was refused changed nothing but the room in the logs
pub turned_away :
    {R : Type 0} (g : Ghosts R) (step : Step) (v v' : World R) (result : Result Seen WorldRefusal) (refusal : WorldRefusal) → IsErr result × IsErrAnd result (λ r. r ≡ refusal)
    → IsSame v v' → IsReason (missing_in v step) refusal → Stepped g step v v' result
turned_away g step v v' (Ok seen) refusal h same reason = absurd h.1
turned_away g step v v' (Err r) refusal h same reason =
    subst (λ (q : WorldRefusal). Stepped g step v v' (Err q)) (sym h.1) (record {
      steps = λ kept z w stands. still g.is_open g.saved g.version v v' same z w stands;
      tells = (reason, same);
      why = tt;
      was_kept = same_kept g.kept v v' same;
      made = same_made g.made v v' same;
    })

-- a step that there was, and for which the logs could not grow
pub no_room :
    {R : Type 0} (g : Ghosts R) (step : Step) (v v' : World R) (result : Result Seen WorldRefusal) (refusal : WorldRefusal) → IsErr result × IsErrAnd result (λ r. r ≡ refusal)
    → refusal ≡ world_refusals.OutOfMemory → IsSame v v' → missing_in v step ≡ None → Stepped g step v v' result
no_room g step v v' result refusal h is same there =
    turned_away g step v v' result refusal h same (subst (λ (q : WorldRefusal). IsReason (missing_in v step) q) (sym is) there)

-- a datagram that was sent, to a member that there is
pub addressed : (count m : ℕ) (o : Option Datagram) → option_map (λ (d : Datagram). d.to) o ≡ Some m → member_missing count m ≡ None → datagram_missing count o ≡ None
addressed count m None to there = let no : None ≡ Some m = to in absurd cc
addressed count m (Some d) to there = ap (λ (j : ℕ). member_missing count j) (some_is to) ∙ there

-- so many stations as before
as_many : {R : Type 0} (v v' : World R) (i m : ℕ) (s s' : Station (Balky R)) → Changes v v' i m s s' → count_of v' ≡ count_of v
as_many {R = R} v v' i m s s' ch = ap (λ (l : List (Station (Balky R))). length l) ch.stations ∙ length-set v.stations.items i s'

-- one station was asked, in a world that grew only in room, and what it answered was logged: a step of the world
pub stepped :
    {R : Type 0} (g : Ghosts R) (v v1 v' : World R) (step : Step) (i m : ℕ) (call : Call) (s s' : Station (Balky R)) (r : Result Answer StepRefusal) (seen : Seen)
    → Brings v step m call → IsSame v v1 → Changes v1 v' i m s s'
    → v'.sent.items ≡ v1.sent.items ++ out_of r → v'.offers.items ≡ v1.offers.items ++ offers_of m call r → v'.releases.items ≡ v1.releases.items ++ released_of m r
    → seen ≡ seen_of m (length v1.sent.items) r → OneSetting → Answered g call s s' r → Stepped g step v v' (Ok seen)
stepped g v v1 v' step i m call s s' r seen brings same ch sent offers releases is_seen one e = record {
  steps = asked v v1 v' step m call brings same r seen sent offers releases is_seen (sight g) g.refusals i s s' ch one e.version e.wire e.steps;
  tells = told v v1 v' step m call brings same r seen sent offers releases is_seen (as_many v1 v' i m s s' ch);
  why = tells_why g v v1 v' i m (length v1.sent.items) s s' r seen same ch is_seen e.blames;
  was_kept = asked_kept v v1 v' step m call brings same r seen sent offers releases is_seen (sight g) g.refusals i s s' ch e.was_kept;
  made = asked_made g.made v v1 v' i m s s' same ch e.made;
}

-- one station was changed, and nothing was sent or logged: it is a step of the world where it is one of each state
pub unlogged :
    {R : Type 0} (g : Ghosts R) (step : Step) (v v' : World R) (i m : ℕ) (s s' : Station (Balky R)) (outcome : Outcome)
    → Changes v v' i m s s' → v'.sent.items ≡ v.sent.items → v'.offers.items ≡ offers_after v.offers.items step outcome → v'.releases.items ≡ v.releases.items
    → missing_in v step ≡ None → actor v.sent.items step ≡ Some m
    → (g.kept s'.rows.rows → g.kept s.rows.rows) → (g.made s.rows.rows → g.made s'.rows.rows) → IfTorn outcome (WasTorn g v v' m)
    → FollowsStep g step v v' (Ok (unsent_seen v m outcome)) → Stepped g step v v' (Ok (unsent_seen v m outcome))
unlogged g step v v' i m s s' outcome ch sent offers releases there acts was stays why steps = record {
  steps = steps;
  tells = (
    there,
    record {
      member = acts;
      members = as_many v v' i m s s' ch;
      first = refl;
      sent = record { more = []; is = sent ∙ sym (append-nil v.sent.items); many = refl };
      releases = record { more = []; is = releases ∙ sym (append-nil v.releases.items); many = refl };
      offers = offers;
    },
  );
  why = why;
  was_kept = kept_before v v' i m s s' ch g.kept was;
  made = made_after v v' i m s s' ch g.made stays;
}
