-- A restart and the arming of a store are steps of the state.
use Rattle.std.proofs.Common.{◌≡◌, ℕ, refl, sym, ap, subst, ◌∙◌, List, [], Some, Bool, false}
use Rattle.protocol.specs.Versions.{Version}
use Rattle.protocol.specs.Marks.{Mark}
use Rattle.protocol.specs.Circuit as circuit
use Rattle.protocol.specs.Circuit.{with_at, restarts, is_armed}
use Rattle.rows_saved.specs.declared.balky.Balky.{Balky}
use Rattle.node_core.specs.Standing.{StandsFor as CoreStandsFor}
use Rattle.station.specs.declared.station.Station.{Station}
use Rattle.station.specs.Stations.{Sight, IsFixed}
use Rattle.world.specs.declared.world.World.{World}
use Rattle.world.specs.Setups.{StationCircuit, StationState}
use Rattle.world.specs.Reach.{IsAt, Shows, StandsFor}
use Rattle.world.proofs.Members.{Changes, Elsewhere, with_at-other, with_at-same, shown, stands_after}
use Rattle.world.proofs.Turning.{Comes, member, same_state}

-- a station that starts again speaks the version of its rows
pub restart_at :
    {R : Type 0} (version : R → Version) (v : Version) (s s' : Station (Balky R)) → IsAt version v s → s'.speaker.wire ≡ version s.rows.rows
    → s' ≡ record s { speaker = s'.speaker; stopped = false } → IsAt version v s'
restart_at {R = R} version v s s' at wire is = record { wire = wire ∙ at.rows; rows = ap (λ (u : Station (Balky R)). version u.rows.rows) is ∙ at.rows }

-- one whose store is armed speaks its version still
pub balk_at : {R : Type 0} (version : R → Version) (v : Version) (b : Bool) (s s' : Station (Balky R)) → IsAt version v s → s' ≡ record s { rows = record s.rows { armed = Some b } } → IsAt version v s'
balk_at {R = R} version v b s s' at is = subst (λ (u : Station (Balky R)). IsAt version v u) (sym is) (record { wire = at.wire; rows = at.rows })

module _ {R : Type 0} (x : Sight R) (count : R → ℕ) (z : StationCircuit) (v v' : World R) (w : StationState) (i m : ℕ) (s s' : Station (Balky R))
    (ch : Changes v v' i m s s') (h : StandsFor x.is_open x.saved x.version z v w)
    (at : IsAt x.version (w.version m) s') (sent : v'.sent.items ≡ v.sent.items) (offers : v'.offers.items ≡ v.offers.items) (releases : v'.releases.items ≡ v.releases.items) where
  old : Shows x.is_open x.saved x.version h.tables h.files z w m s
  old = shown v v' i m s s' ch x.is_open x.saved x.version z w h

  pub restart_comes :
      IsFixed s s' → s' ≡ record s { speaker = s'.speaker; stopped = false } → CoreStandsFor s'.speaker.core []
      → Comes x count z v v' w i m s s' ch h at (circuit.Restarts m) circuit.Restarted
  restart_comes fixed is none = (
    after,
    stands_after v v' i m s s' ch x.is_open x.saved x.version z w h after new others (h.sent ∙ sym sent) (h.offers ∙ sym offers) (h.releases ∙ sym releases),
    restarts m (member x count z v v' w i m s s' ch h at) refl refl (same_state after),
  )
    where
      after : StationState
      after = record w { marks = with_at w.marks m []; is_stopped = with_at w.is_stopped m false }

      others : Elsewhere w after m
      others = record {
        version = λ k ne. refl;
        rows = λ k ne n. refl;
        marks = λ k ne. with_at-other w.marks m [] k ne;
        stopped = λ k ne. with_at-other w.is_stopped m false k ne;
        armed = λ k ne. refl;
      }

      new : Shows x.is_open x.saved x.version h.tables h.files z after m s'
      new = record {
        circuit = fixed.circuit ∙ old.circuit;
        members = fixed.members ∙ old.members;
        me = fixed.me ∙ old.me;
        table = fixed.table ∙ old.table;
        widths = fixed.widths ∙ old.widths;
        is_at = at;
        rows = λ here n. ap (λ (u : Station (Balky R)). x.saved u.rows.rows n) is ∙ old.rows (subst (λ (u : Station (Balky R)). x.is_open u.rows.rows) is here) n;
        marks = subst (λ (ms : List Mark). CoreStandsFor s'.speaker.core ms) (sym (with_at-same w.marks m [])) none;
        stopped = ap (λ (u : Station (Balky R)). u.stopped) is ∙ sym (with_at-same w.is_stopped m false);
        armed = ap (λ (u : Station (Balky R)). u.rows.armed) is ∙ old.armed;
      }

  pub balk_comes : (b : Bool) → s' ≡ record s { rows = record s.rows { armed = Some b } } → Comes x count z v v' w i m s s' ch h at (circuit.Balks m b) (circuit.Armed b)
  balk_comes b is = (
    after,
    stands_after v v' i m s s' ch x.is_open x.saved x.version z w h after new others (h.sent ∙ sym sent) (h.offers ∙ sym offers) (h.releases ∙ sym releases),
    is_armed m b (member x count z v v' w i m s s' ch h at) refl refl (same_state after),
  )
    where
      after : StationState
      after = record w { armed = with_at w.armed m (Some b) }

      others : Elsewhere w after m
      others = record {
        version = λ k ne. refl;
        rows = λ k ne n. refl;
        marks = λ k ne. refl;
        stopped = λ k ne. refl;
        armed = λ k ne. with_at-other w.armed m (Some b) k ne;
      }

      new : Shows x.is_open x.saved x.version h.tables h.files z after m s'
      new = subst (λ (u : Station (Balky R)). Shows x.is_open x.saved x.version h.tables h.files z after m u) (sym is) (record {
        circuit = old.circuit;
        members = old.members;
        me = old.me;
        table = old.table;
        widths = old.widths;
        is_at = record { wire = old.is_at.wire; rows = old.is_at.rows };
        rows = old.rows;
        marks = old.marks;
        stopped = old.stopped;
        armed = sym (with_at-same w.armed m (Some b));
      })
