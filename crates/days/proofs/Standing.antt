-- The state of the circuit that stands for a day, and how it goes on.
use Rattle.std.proofs.Common.{◌≡◌, ◌≢◌, ℕ, ◌⊎◌, inl, inr, refl, sym, subst, ◌∙◌, List, ◌∷◌, Bool, true, false}
use Rattle.std.specs.Prelude.{Result, ◌==◌}
use Rattle.std.proofs.lemmas.Bool.{eqb-true, eqb-false}
use Rattle.protocol.specs.Lists.{IsAmong}
use Rattle.protocol.specs.Ballots.{IsMember}
use Rattle.protocol.specs.Entries.{Entry}
use Rattle.protocol.specs.Marks.{Mark}
use Rattle.protocol.specs.Refusals.{Call, Offering, Seeking, Falling_due, Receiving, Recalling}
use Rattle.protocol.specs.Circuit as circuit
use Rattle.protocol.specs.Circuit.{Datagram, Offer, with_at, History}
use Rattle.code_table.specs.Tables.{mean}
use Rattle.line_check.specs.declared.slug.Slug.{Slug}
use Rattle.line_check.specs.declared.fault.SetFault.{SetFault}
use Rattle.rows_saved.specs.declared.rows.Rows.{Ghosts}
use Rattle.tape_frames.specs.Entries.{owned_entry}
use Rattle.node_core.specs.Standing.{StandsFor as CoreStandsFor}
use Rattle.station.specs.declared.answer.Release.{Release}
use Rattle.station.specs.declared.station.Station.{Station}
use Rattle.station.specs.Readiness.{SetsEntry, slugs_of}
use Rattle.world.specs.Setups.{StationCircuit, StationState}
use Rattle.world.proofs.Members.{Elsewhere, with_at-other, with_at-same}
use Rattle.days.specs.Happening.{Ending, At_rest, In_call, Upgrading, Happened, Was, HandsOut, Releases, OffersIn, WasHandedOut, WasReleased, WasOffered, Came, CameIn}
use Rattle.days.specs.Handing.{Plants, Member, runs, over}
use Rattle.days.proofs.Showing.{Shows}

-- what was in a day is in it later
pub was_before : (y : Happened) (day : List Happened) (P : Happened → Type 0) → Was day P → Was (y ∷ day) P
was_before y day P it = (it.0, inr it.1, it.2)

-- what was happened at last, or before
pub was_either : (y : Happened) (day : List Happened) (P : Happened → Type 0) → Was (y ∷ day) P → P y ⊎ Was day P
was_either y day P it = elim it.1 [ inl same ↦ inl (subst P same it.2) | inr before ↦ inr (it.0, before, it.2) ]

-- a process that ended so: what it took in was handed out, and what it offered is an offer of the day
pub record IsCutOff (day : List Happened) (m : ℕ) (ending : Ending) : Type 0 where
  pub came : CameIn day m ending
  pub offered : (n : ℕ) (entry : Entry) → OffersIn n entry ending → WasOffered day n entry

pub came_later : (y : Happened) (day : List Happened) (m : ℕ) (call : Call) → Came day m call → Came (y ∷ day) m call
came_later y day m (Offering n entry now) it = tt
came_later y day m (Seeking n now) it = tt
came_later y day m (Falling_due now) it = tt
came_later y day m (Receiving bytes now) it = (it.0, inr it.1, it.2)
came_later y day m (Recalling n to) it = tt

pub came_in_later : (y : Happened) (day : List Happened) (m : ℕ) (ending : Ending) → CameIn day m ending → CameIn (y ∷ day) m ending
came_in_later y day m At_rest it = tt
came_in_later y day m (In_call call) it = came_later y day m call it
came_in_later y day m Upgrading it = tt

cut_later : (y : Happened) (day : List Happened) (m : ℕ) (ending : Ending) → IsCutOff day m ending → IsCutOff (y ∷ day) m ending
cut_later y day m ending it = record { came = came_in_later y day m ending it.came; offered = λ n entry o. let was = it.offered n entry o in (was.0, inr was.1, was.2) }

-- a member is what the state has of it
abbrev pub ShowsMember : {R : Type 0} → Ghosts R → Plants → List Happened → StationState → ℕ → Member R → Type 0
ShowsMember g p day w m (runs s) = Shows g p w m s
ShowsMember g p day w m (over ending last) = Shows g p w m last × IsCutOff day m ending

-- it is so later in the day
pub later :
    {R : Type 0} (g : Ghosts R) (p : Plants) (w : StationState) (m : ℕ) (y : Happened) (day : List Happened) (u : Member R)
    → ShowsMember g p day w m u → ShowsMember g p (y ∷ day) w m u
later g p w m y day (runs s) old = old
later g p w m y day (over ending last) old = (old.0, cut_later y day m ending old.1)

-- the state has this release in its log
abbrev pub IsLogged : StationState → ℕ → Release → Type 0
IsLogged w m r = (set : Result (List Slug) SetFault) × IsAmong w.releases (record { member = m; number = r.number; entry = owned_entry r.entry; set = set })

-- it is set as the member sets it
abbrev pub IsSet : Plants → ℕ → Release → Type 0
IsSet p m r = SetsEntry (mean (p.tables m)) (p.files m) (owned_entry r.entry) (slugs_of r.set)

-- a history of the circuit leads to a state that stands for the day: its members are those of the day, what the day handed out and released it has sent
-- and released, and what it has offered the day has
pub record Stands {R : Type 0} (g : Ghosts R) (p : Plants) (z : StationCircuit) (day : List Happened) (at : ℕ → Member R) : Type 0 where
  pub w : StationState
  pub history : History z w
  pub each : (m : ℕ) → IsMember p.count m → ShowsMember g p day w m (at m)
  pub sent : (m : ℕ) (bytes : List ℕ) → WasHandedOut day m bytes → IsAmong w.sent (record { to = m; bytes = bytes })
  pub offers : (x : Offer) → IsAmong w.offers x → WasOffered day x.number x.entry
  pub releases : (m : ℕ) (r : Release) → WasReleased day m r → IsLogged w m r
  pub set : (m : ℕ) (r : Release) → WasReleased day m r → IsSet p m r

-- where the state goes on as this happens to a member
pub record Moved {R : Type 0} (g : Ghosts R) (p : Plants) (z : StationCircuit) (day : List Happened) (v : StationState) (m : ℕ) (y : Happened) (now : Member R) : Type 0 where
  pub w : StationState
  pub history : History z w
  pub others : Elsewhere v w m
  pub shows : ShowsMember g p (y ∷ day) w m now
  pub sent : (d : Datagram) → IsAmong v.sent d → IsAmong w.sent d
  pub hands_out : (k : ℕ) (bytes : List ℕ) → HandsOut k bytes y → IsAmong w.sent (record { to = k; bytes = bytes })
  pub offers : (x : Offer) → IsAmong w.offers x → IsAmong v.offers x ⊎ WasOffered (y ∷ day) x.number x.entry
  pub releases : (x : circuit.Release (List Slug) SetFault) → IsAmong v.releases x → IsAmong w.releases x
  pub logs : (k : ℕ) (r : Release) → Releases k r y → IsLogged w k r
  pub set : (k : ℕ) (r : Release) → Releases k r y → IsSet p k r

-- another member's station stays what the state has of it
still : {R : Type 0} (g : Ghosts R) (p : Plants) (v w : StationState) (m : ℕ) → Elsewhere v w m → (k : ℕ) → k ≢ m → (s : Station R) → Shows g p v k s → Shows g p w k s
still g p v w m others k far s old = record {
  circuit = old.circuit;
  members = old.members;
  me = old.me;
  table = old.table;
  widths = old.widths;
  wire = old.wire ∙ sym (others.version k far);
  version = old.version ∙ sym (others.version k far);
  rows = λ n. old.rows n ∙ sym (others.rows k far n);
  marks = subst (λ (ms : List Mark). CoreStandsFor s.speaker.core ms) (sym (others.marks k far)) old.marks;
  goes = old.goes;
  goes_on = others.stopped k far ∙ old.goes_on;
  unarmed = others.armed k far ∙ old.unarmed;
}

pub moves :
    {R : Type 0} (g : Ghosts R) (p : Plants) (z : StationCircuit) (day : List Happened) (at : ℕ → Member R) (st : Stands g p z day at) (m : ℕ) (y : Happened) (now : Member R)
    → Moved g p z day st.w m y now → Stands g p z (y ∷ day) (with_at at m now)
moves {R = R} g p z day at st m y now mv = record {
  w = mv.w;
  history = mv.history;
  each = λ k member. each k member;
  sent = λ k bytes it. elim (was_either y day (HandsOut k bytes) it) [ inl last ↦ mv.hands_out k bytes last | inr before ↦ mv.sent _ (st.sent k bytes before) ];
  offers = λ x i. elim (mv.offers x i) [ inl before ↦ (let it = st.offers x before in (it.0, inr it.1, it.2)) | inr now_or_before ↦ now_or_before ];
  releases = λ k r it. elim (was_either y day (Releases k r) it) [
    | inl last ↦ mv.logs k r last
    | inr before ↦ (let l = st.releases k r before in (l.0, mv.releases _ l.1))
  ];
  set = λ k r it. elim (was_either y day (Releases k r) it) [ inl last ↦ mv.set k r last | inr before ↦ st.set k r before ];
}
  where
    other : (k : ℕ) → k ≢ m → (u : Member R) → ShowsMember g p day st.w k u → ShowsMember g p (y ∷ day) mv.w k u
    other k far (runs s) old = still g p st.w mv.w m mv.others k far s old
    other k far (over ending last) old = (still g p st.w mv.w m mv.others k far last old.0, cut_later y day k ending old.1)

    each : (k : ℕ) → IsMember p.count k → ShowsMember g p (y ∷ day) mv.w k (with_at at m now k)
    each k member = go (k == m) refl
      where
        go : (b : Bool) → (k == m) ≡ b → ShowsMember g p (y ∷ day) mv.w k (with_at at m now k)
        go true e =
            let same : k ≡ m = eqb-true k m e in
            let here : ShowsMember g p (y ∷ day) mv.w m (with_at at m now m) = subst (λ (u : Member R). ShowsMember g p (y ∷ day) mv.w m u) (sym (with_at-same at m now)) mv.shows in
            subst (λ (j : ℕ). ShowsMember g p (y ∷ day) mv.w j (with_at at m now j)) (sym same) here
        go false e =
            let far : k ≢ m = eqb-false k m e in
            subst (λ (u : Member R). ShowsMember g p (y ∷ day) mv.w k u) (sym (with_at-other at m now k far)) (other k far (at k) (st.each k member))
