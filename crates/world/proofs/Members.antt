-- A world of which one station changed.
use Rattle.std.proofs.Common.{◌≡◌, ◌≢◌, ℕ, zero, suc, ◌<◌, ◌≤◌, inl, inr, refl, sym, ap, subst, ◌∙◌, arith, List, Some, None, Bool, true, false, length, get_or}
use Rattle.std.specs.Prelude.{slice_get, slice_set, ◌==◌}
use Rattle.std.proofs.lemmas.Bool.{eqb-true, eqb-false, eq-eqb}
use Rattle.std.proofs.lemmas.Option.{slice_get_within, slice_get_read, slice_get_cases, slice_get_past}
use Rattle.std.proofs.lemmas.List.{get_or-set_same, get_or-set_other}
use Rattle.std.proofs.Math.ListN.{length-set}
use Rattle.protocol.specs.Ballots.{IsMember}
use Rattle.protocol.specs.Versions.{Version}
use Rattle.protocol.specs.Circuit.{with_at}
use Rattle.rows_saved.specs.Saved.{Saved}
use Rattle.rows_saved.specs.declared.balky.Balky.{Balky}
use Rattle.node_core.specs.Standing.{StandsFor as CoreStandsFor}
use Rattle.station.specs.declared.station.Station.{Station}
use Rattle.world.specs.declared.world.World.{World}
use Rattle.world.specs.Setups.{StationCircuit, StationState}
use Rattle.world.specs.Worlds.{station_at}
use Rattle.world.specs.Reach.{AllKept, AllMade, IsAt, Shows, StandsFor}

got_same : {X : Type 0} (xs : List X) (i : ℕ) (y : X) → i < length xs → slice_get (slice_set xs i y) i ≡ Some y
got_same xs i y l =
    let is : get_or (slice_set xs i y) i y ≡ y = get_or-set_same xs i y y l in
    slice_get_read (slice_set xs i y) (length (slice_set xs i y)) i y refl (omega (arith, length-set xs i y)) (sym is)

got_other : {X : Type 0} (xs : List X) (i j : ℕ) (y : X) → j ≢ i → slice_get (slice_set xs i y) j ≡ slice_get xs j
got_other xs i j y ne = elim (slice_get_cases (slice_set xs i y) j).1 [
  | inl c ↦ (let is : get_or (slice_set xs i y) j c.0 ≡ get_or xs j c.0 = get_or-set_other xs i j y c.0 ne in
      let l : j < length xs = omega (arith, length-set xs i y) in
      c.2 ∙ sym (slice_get_read xs (length xs) j c.0 refl l (sym c.3 ∙ is)))
  | inr c ↦ (let l : length xs ≤ j = omega (arith, length-set xs i y) in c.1 ∙ sym (slice_get_past xs j l))
]

pub with_at-other : {A : Type 0} (f : ℕ → A) (m : ℕ) (x : A) (k : ℕ) → k ≢ m → with_at f m x k ≡ f k
with_at-other f m x k ne = go (k == m) refl
  where
    go : (b : Bool) → (k == m) ≡ b → with_at f m x k ≡ f k
    go true e = absurd (ne (eqb-true k m e))
    go false e = rw e refl

pub with_at-same : {A : Type 0} (f : ℕ → A) (m : ℕ) (x : A) → with_at f m x m ≡ x
with_at-same f m x = let e : (m == m) ≡ true = eq-eqb m m refl in rw e refl

pub with_at-self : {A : Type 0} (f : ℕ → A) (m k : ℕ) → with_at f m (f m) k ≡ f k
with_at-self f m k = go (k == m) refl
  where
    go : (b : Bool) → (k == m) ≡ b → with_at f m (f m) k ≡ f k
    go true e = rw e (ap f (sym (eqb-true k m e)))
    go false e = rw e refl

pub some_is : {X : Type 0} {a b : X} → Some a ≡ Some b → a ≡ b
some_is e = cc

no_station : {X : Type 0} {a : X} → None ≡ Some a → ⊥
no_station e = cc

-- the station of place i, member m, changed
pub record Changes {R : Type 0} (v v' : World R) (i m : ℕ) (s s' : Station (Balky R)) : Type 0 where
  pub is_member : suc i ≡ m
  pub at_i : slice_get v.stations.items i ≡ Some s
  pub stations : v'.stations.items ≡ slice_set v.stations.items i s'

-- other members are as they were
pub record Elsewhere (w after : StationState) (m : ℕ) : Type 0 where
  pub version : (k : ℕ) → k ≢ m → after.version k ≡ w.version k
  pub rows : (k : ℕ) → k ≢ m → (n : ℕ) → after.rows k n ≡ w.rows k n
  pub marks : (k : ℕ) → k ≢ m → after.marks k ≡ w.marks k
  pub stopped : (k : ℕ) → k ≢ m → after.is_stopped k ≡ w.is_stopped k
  pub armed : (k : ℕ) → k ≢ m → after.armed k ≡ w.armed k

module _ {R : Type 0} (v v' : World R) (i m : ℕ) (s s' : Station (Balky R)) (ch : Changes v v' i m s s') where
  pub within : i < length v.stations.items
  within = slice_get_within v.stations.items i s ch.at_i

  pub here : slice_get v'.stations.items i ≡ Some s'
  here = ap (λ xs. slice_get xs i) ch.stations ∙ got_same v.stations.items i s' within

  there : (j : ℕ) → j ≢ i → slice_get v'.stations.items j ≡ slice_get v.stations.items j
  there j ne = ap (λ xs. slice_get xs j) ch.stations ∙ got_other v.stations.items i j s' ne

  pub kept_here : (kept : R → Type 0) → AllKept kept v' → kept s'.rows.rows
  kept_here kept all = all (suc i) s' here

  kept_at : (kept : R → Type 0) → (kept s'.rows.rows → kept s.rows.rows) → AllKept kept v' → (j : ℕ) (t : Station (Balky R)) → slice_get v.stations.items j ≡ Some t → kept t.rows.rows
  kept_at kept was all j t at_j = go (j == i) refl
    where
      go : (b : Bool) → (j == i) ≡ b → kept t.rows.rows
      go true e =
          let same : j ≡ i = eqb-true j i e in
          let is : Some s ≡ Some t = sym ch.at_i ∙ (ap (slice_get v.stations.items) (sym same) ∙ at_j) in
          subst (λ (u : Station (Balky R)). kept u.rows.rows) (some_is is) (was (all (suc i) s' here))
      go false e = all (suc j) t (there j (eqb-false j i e) ∙ at_j)

  pub kept_before : (kept : R → Type 0) → (kept s'.rows.rows → kept s.rows.rows) → AllKept kept v' → AllKept kept v
  kept_before kept was all zero t at_k = absurd (no_station at_k)
  kept_before kept was all (suc j) t at_k = kept_at kept was all j t at_k

  -- what was made for each member's rows stays so
  made_at : (made : R → Type 0) → (made s.rows.rows → made s'.rows.rows) → AllMade made v → (j : ℕ) (t : Station (Balky R)) → slice_get v'.stations.items j ≡ Some t → made t.rows.rows
  made_at made stays all j t at_j = go (j == i) refl
    where
      go : (b : Bool) → (j == i) ≡ b → made t.rows.rows
      go true e =
          let same : j ≡ i = eqb-true j i e in
          let is : Some s' ≡ Some t = sym here ∙ (ap (slice_get v'.stations.items) (sym same) ∙ at_j) in
          subst (λ (u : Station (Balky R)). made u.rows.rows) (some_is is) (stays (all (suc i) s ch.at_i))
      go false e = all (suc j) t (sym (there j (eqb-false j i e)) ∙ at_j)

  pub made_after : (made : R → Type 0) → (made s.rows.rows → made s'.rows.rows) → AllMade made v → AllMade made v'
  made_after made stays all zero t at_k = absurd (no_station at_k)
  made_after made stays all (suc j) t at_k = made_at made stays all j t at_k

  module _ (is_open : R → Type 0) (saved : R → Saved) (version : R → Version) (z : StationCircuit) (w : StationState) (h : StandsFor is_open saved version z v w) where
    pub shown : Shows is_open saved version h.tables h.files z w m s
    shown = subst (λ (k : ℕ). Shows is_open saved version h.tables h.files z w k s) ch.is_member (h.each (suc i) s ch.at_i)

    -- who changed is one of the circuit's members
    pub is_member_of : IsMember z.count m
    is_member_of =
        let is_m : suc i ≡ m = ch.is_member in
        let l : i < length v.stations.items = within in
        let c : z.count ≡ length v.stations.items = h.count in
        (omega arith, omega arith)

    module _ (after : StationState) (new : Shows is_open saved version h.tables h.files z after m s') (others : Elsewhere w after m) where
      at_place : (j : ℕ) (t : Station (Balky R)) → slice_get v'.stations.items j ≡ Some t → Shows is_open saved version h.tables h.files z after (suc j) t
      at_place j t at_j = go (j == i) refl
        where
          go : (b : Bool) → (j == i) ≡ b → Shows is_open saved version h.tables h.files z after (suc j) t
          go true e =
              let same : j ≡ i = eqb-true j i e in
              let is : Some s' ≡ Some t = sym here ∙ (ap (slice_get v'.stations.items) (sym same) ∙ at_j) in
              let number : m ≡ suc j = sym ch.is_member ∙ ap suc (sym same) in
              subst (λ (u : Station (Balky R)). Shows is_open saved version h.tables h.files z after (suc j) u) (some_is is)
              (subst (λ (k : ℕ). Shows is_open saved version h.tables h.files z after k s') number new)
          go false e =
              let ne : j ≢ i = eqb-false j i e in
              let is_m : suc i ≡ m = ch.is_member in
              let far : suc j ≢ m = λ q. ne (let r : j ≡ i = omega arith in r) in
              let old = h.each (suc j) t (sym (there j ne) ∙ at_j) in
              record {
                circuit = old.circuit;
                members = old.members;
                me = old.me;
                table = old.table;
                widths = old.widths;
                is_at = subst (λ (a : Version). IsAt version a t) (sym (others.version (suc j) far)) old.is_at;
                rows = λ open_now n. old.rows open_now n ∙ sym (others.rows (suc j) far n);
                marks = subst (λ (ms : _). CoreStandsFor t.speaker.core ms) (sym (others.marks (suc j) far)) old.marks;
                stopped = old.stopped ∙ sym (others.stopped (suc j) far);
                armed = old.armed ∙ sym (others.armed (suc j) far);
              }

      each_after : (k : ℕ) (t : Station (Balky R)) → station_at v' k ≡ Some t → Shows is_open saved version h.tables h.files z after k t
      each_after zero t at_k = absurd (no_station at_k)
      each_after (suc j) t at_k = at_place j t at_k

      pub stands_after : after.sent ≡ v'.sent.items → after.offers ≡ v'.offers.items → after.releases ≡ v'.releases.items → StandsFor is_open saved version z v' after
      stands_after sent offers releases = record {
        tables = h.tables;
        files = h.files;
        set_up = h.set_up;
        count = h.count ∙ (sym (length-set v.stations.items i s') ∙ ap length (sym ch.stations));
        each = each_after;
        sent = sent;
        offers = offers;
        releases = releases;
      }
