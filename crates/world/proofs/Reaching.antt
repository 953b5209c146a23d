-- What steps lead to, and what is agreed there.
use Rattle.std.proofs.Common.{◌≡◌, ℕ, zero, suc, ◌<◌, ◌≤◌, ◌⊎◌, inl, inr, refl, sym, ap, subst, arith, List, [], ◌∷◌, ◌++◌, Some, None, Option, length}
use Rattle.std.specs.Prelude.{◌↔◌, Result, Ok, Err, slice_get}
use Rattle.protocol.specs.Ballots.{IsMember}
use Rattle.protocol.specs.Entries.{Entry}
use Rattle.protocol.specs.Versions.{Version}
use Rattle.protocol.specs.Lists.{IsAmong}
use Rattle.protocol.specs.Turn.{number_of}
use Rattle.protocol.specs.Circuit as circuit
use Rattle.protocol.specs.Circuit.{Release, Outcome, releases_with, StepsTo, is_refused, is_idle, is_spent, is_done, is_torn, restarts, upgrades, upgrade_is_torn, is_armed, History, starts, goes_on}
use Rattle.packets.specs.declared.fault.PacketFault.{PacketFault}
use Rattle.code_table.specs.Tables.{Places, mean}
use Rattle.widths.specs.Widths.{WidthFile}
use Rattle.line_check.specs.declared.slug.Slug.{Slug}
use Rattle.line_check.specs.declared.fault.SetFault.{SetFault}
use Rattle.rows_saved.specs.Saved.{Saved}
use Rattle.rows_saved.specs.declared.balky.Balky.{Balky}
use Rattle.rows_saved.specs.declared.rows.Rows.{Ghosts}
use Rattle.station.specs.declared.station.Station.{Station}
use Rattle.station.specs.Readiness.{SetsEntry}
use Rattle.world.specs.declared.world.World.{World}
use Rattle.world.specs.declared.step.Step.{Step}
use Rattle.world.specs.declared.step.Seen.{Seen}
use Rattle.world.specs.declared.step.WorldRefusal.{WorldRefusal}
use Rattle.world.specs.Setups.{StationCircuit, StationState}
use Rattle.world.specs.Laws.{AreAgreed, StationsAgree}
use Rattle.world.specs.Taking.{step_value, Tells, TellsWhy, Takes}
use Rattle.world.specs.Worlds.{station_at}
use Rattle.world.specs.Reach.{AllHonest, AllKept, AllMade, StandsFor, Moves, Leads, Reached, IsReached, Agreed, SetsAs, Stepped, WorldStep}

among-append : {A : Type 0} (xs ys : List A) (x : A) → IsAmong (xs ++ ys) x → IsAmong xs x ⊎ IsAmong ys x
among-append [] ys x h = inr h
among-append (y ∷ xs) ys x (inl e) = inl (inl e)
among-append (y ∷ xs) ys x (inr h) = elim (among-append xs ys x h) [ inl k ↦ inl (inr k) | inr k ↦ inr k ]

-- each release is of a member, where those before are
module _ (z : StationCircuit) where
  abbrev OfMembers : List (Release (List Slug) SetFault) → Type 0
  OfMembers rs = (x : Release (List Slug) SetFault) → IsAmong rs x → IsMember z.count x.member

  with_release : (rs : List (Release (List Slug) SetFault)) (m n : ℕ) (o : Option Entry) → IsMember z.count m → OfMembers rs → OfMembers (releases_with z rs m n o)
  with_release rs m n None is all x i = all x i
  with_release rs m n (Some t) is all x i = elim (among-append rs _ x i) [
    | inl before ↦ all x before
    | inr now ↦ elim now [ inl same ↦ subst (λ (k : ℕ). IsMember z.count k) (sym (ap (λ (r : Release (List Slug) SetFault). r.member) same)) is | inr none ↦ absurd none ]
  ]

  along : (rs qs : List (Release (List Slug) SetFault)) → qs ≡ rs → OfMembers rs → OfMembers qs
  along rs qs same all = subst (λ (l : List (Release (List Slug) SetFault)). OfMembers l) (sym same) all

  after_step : (w after : StationState) (s : circuit.Step) (o : Outcome PacketFault SetFault) → StepsTo z w s o after → OfMembers w.releases → OfMembers after.releases
  after_step w after s o (is_refused m call r task member refused ends same) all = along w.releases after.releases same.releases all
  after_step w after s o (is_idle m call task member refused event ends same) all = along w.releases after.releases same.releases all
  after_step w after s o (is_spent m call e task member refused event turn ends same) all = along w.releases after.releases same.releases all
  after_step w after s o (is_done m call e t out task member refused event turn carried armed ends same) all =
      along (releases_with z w.releases m (number_of e) t.release) after.releases same.releases (with_release w.releases m (number_of e) t.release member all)
  after_step w after s o (is_torn m call e row armed task member event leaves same) all = along w.releases after.releases same.releases all
  after_step w after s o (restarts m member is ends same) all = along w.releases after.releases same.releases all
  after_step w after s o (upgrades m member is ends unarmed same) all = along w.releases after.releases same.releases all
  after_step w after s o (upgrade_is_torn m k member is may same) all = along w.releases after.releases same.releases all
  after_step w after s o (is_armed m b member is ends same) all = along w.releases after.releases same.releases all

  of_members : {w : StationState} → History z w → OfMembers w.releases
  of_members {w = w} (starts version f) = along [] w.releases f.releases (λ x i. absurd i)
  of_members (goes_on {w = w} {after = after} h s o st) = after_step w after s o st (of_members h)

pub found : {X : Type 0} (xs : List X) (j : ℕ) → j < length xs → (x : X) × (slice_get xs j ≡ Some x)
found [] j l = absurd (omega arith)
found (x ∷ xs) zero l = (x, refl)
found (x ∷ xs) (suc j) l = found xs j (omega arith)

-- each member has a station
stationed : {R : Type 0} (v : World R) (m : ℕ) → 1 ≤ m → m ≤ length v.stations.items → (s : Station (Balky R)) × (station_at v m ≡ Some s)
stationed v zero low high = absurd (omega arith)
stationed v (suc j) low high = found v.stations.items j (omega arith)

-- what is released in a reached world is agreed
pub agreed : {R : Type 0} (g : Ghosts R) → StationsAgree → (z : StationCircuit) (v : World R) → Reached g.is_open g.saved g.version z v → Agreed g v
agreed {R = R} g law z v r = record {
  one = λ x y i j same. a.one x y (in_state x i) (in_state y j) same;
  offered = λ x i. (let o = a.offered x (in_state x i) in (o.0, subst (λ (l : List circuit.Offer). IsAmong l (record { member = o.0; number = x.number; entry = x.entry })) h.offers o.1));
  chosen = record { z = z; w = r.0; stands_for = h; history = r.2; each = λ x i. a.chosen x (in_state x i) };
  set = λ x i. set x (in_state x i);
}
  where
    h : StandsFor g.is_open g.saved g.version z v r.0
    h = r.1

    a : AreAgreed h.tables h.files r.2
    a = law h.tables h.files z h.set_up r.0 r.2

    in_state : (x : Release (List Slug) SetFault) → IsAmong v.releases.items x → IsAmong r.0.releases x
    in_state x i = subst (λ (l : List (Release (List Slug) SetFault)). IsAmong l x) (sym h.releases) i

    set : (x : Release (List Slug) SetFault) → IsAmong r.0.releases x → (s : Station (Balky R)) × (station_at v x.member ≡ Some s) × SetsAs s x.entry x.set
    set x i =
        let is : IsMember z.count x.member = of_members z r.2 x i in
        let s = stationed v x.member is.0 (let c = h.count in omega (arith, is.1)) in
        let shows = h.each x.member s.0 s.1 in
        let with_table = subst (λ (t : Places). SetsEntry (mean t) (h.files x.member) x.entry x.set) (sym shows.table) (a.set x i) in
        (s.0, s.1, subst (λ (f : WidthFile). SetsEntry (mean s.0.table) f x.entry x.set) (sym shows.widths) with_table)

-- what is released in a world that is reached, and whose hosts were honest, is agreed
pub reached_agreed : {R : Type 0} (g : Ghosts R) → StationsAgree → (v : World R) → IsReached g v → AllHonest g.honest v → Agreed g v
reached_agreed g law v r honest = let at = r.reached honest in agreed g law at.0 v at.1

-- a world that is reached stays so, where what was made stays and what is kept was kept
pub stays_reached :
    {R : Type 0} (g : Ghosts R) → ((s : R) → g.kept s ↔ (g.honest s × g.made s)) → (v v' : World R) → (AllMade g.made v → AllMade g.made v') → (AllKept g.kept v' → AllKept g.kept v)
    → (AllKept g.kept v' → (z : StationCircuit) → Reached g.is_open g.saved g.version z v → Reached g.is_open g.saved g.version z v') → IsReached g v → IsReached g v'
stays_reached g halves v v' stays was moves r =
    let made = stays r.made in record {
      made = made;
      reached = λ honest.
          let kept : AllKept g.kept v' = λ m s at_m. (halves s.rows.rows).1 (honest m s at_m, made m s at_m) in
          let at = r.reached (λ m s at_m. ((halves s.rows.rows).0 (was kept m s at_m)).0) in
          (at.0, moves kept at.0 at.1);
    }

-- a world that moved is reached
pub goes : {R : Type 0} (is_open : R → Type 0) (saved : R → Saved) (version : R → Version) (count : R → ℕ) (z : StationCircuit) (v v' : World R) (r : Reached is_open saved version z v) (step : Step) (q : Result Seen WorldRefusal) → Moves is_open saved version count z r.0 step v v' q → Reached is_open saved version z v'
goes is_open saved version count z v v' r step (Ok seen) m = (m.0, m.1, goes_on r.2 (step_value step) m.2 m.4)
goes is_open saved version count z v v' r step (Err refusal) m = (r.0, m, r.2)

-- what a step promises, from what its kind promises
pub on_stepped :
    {R : Type 0} (g : Ghosts R) → ((s : R) → g.kept s ↔ (g.honest s × g.made s)) → StationsAgree → (given step : Step) (v v' : World R) (q : Result Seen WorldRefusal) → given ≡ step → Stepped g step v v' q
    → WorldStep g given v v' q
on_stepped g halves law given step v v' q is s = subst (λ (t : Step). WorldStep g t v v' q) (sym is) (record {
  steps = s.steps;
  tells = s.tells;
  why = s.why;
  was_kept = s.was_kept;
  made = s.made;
  reached = stays_reached g halves v v' s.made s.was_kept (λ kept z r. goes g.is_open g.saved g.version g.refusals z v v' r step q (s.steps kept z r.0 r.1));
  agreed = reached_agreed g law v';
})

-- one step more
pub leads_more :
    (z : StationCircuit) (w mid after : StationState) (steps : List Step) (step : Step) (o : Outcome PacketFault SetFault) → Leads z w steps mid → StepsTo z mid (step_value step) o after
    → Leads z w (steps ++ step ∷ []) after
leads_more z w mid after [] step o l st = (o, after, subst (λ (u : StationState). StepsTo z u (step_value step) o after) l st, refl)
leads_more z w mid after (s ∷ steps) step o l st = (l.0, l.1, l.2, leads_more z l.1 mid after steps step o l.3 st)

pub takes_more :
    {R : Type 0} (g : Ghosts R) (v mid v' : World R) (steps : List Step) (step : Step) (seen : Seen) → Takes g v steps mid → Tells step mid v' (Ok seen) → TellsWhy g mid v' (Ok seen)
    → Takes g v (steps ++ step ∷ []) v'
takes_more {R = R} g v mid v' [] step seen l t why = (v', seen, subst (λ (u : World R). Tells step u v' (Ok seen)) l t, subst (λ (u : World R). TellsWhy g u v' (Ok seen)) l why, refl)
takes_more g v mid v' (s ∷ steps) step seen l t why = (l.0, l.1, l.2, l.3, takes_more g l.0 mid v' steps step seen l.4 t why)

-- a history goes on by the steps that lead on
pub led : (z : StationCircuit) (w after : StationState) (steps : List Step) → History z w → Leads z w steps after → History z after
led z w after [] h l = subst (λ (u : StationState). History z u) (sym l) h
led z w after (s ∷ steps) h l = led z l.1 after steps (goes_on h (step_value s) l.0 l.2) l.3
