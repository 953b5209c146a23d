-- An upgrade is a step of the state, done or torn.
use Rattle.std.proofs.Common.{◌≡◌, ℕ, ◌⊎◌, inl, inr, refl, sym, ap, subst, ◌∙◌, List, [], Some, None, Option, Bool, true, false}
use Rattle.std.specs.Prelude.{◌+◌, IsSome, Result, Ok, Err, is_err, length}
use Rattle.protocol.specs.Versions.{Version, Two}
use Rattle.protocol.specs.Marks.{Mark}
use Rattle.protocol.specs.Circuit as circuit
use Rattle.protocol.specs.Circuit.{with_at, MayLeave, StepsTo, upgrades, upgrade_is_torn}
use Rattle.packets.specs.declared.fault.PacketFault.{PacketFault}
use Rattle.line_check.specs.declared.fault.SetFault.{SetFault}
use Rattle.rows_saved.specs.Saved.{Rises}
use Rattle.rows_saved.specs.declared.balky.Balky.{Balky}
use Rattle.rows_saved.specs.declared.fault.RowsFault.{RowsFault}
use Rattle.rows_saved.specs.declared.rows.Rows.{Ghosts}
use Rattle.refusals.specs.declared.refusal.StepRefusal.{StepRefusal}
use Rattle.refusals.specs.declared.refusal.StepRefusal.TheVariants.{Stopped, BadDatagram, WrongCircuit, NotForMe, Stranger, BadNumber, NoSuchMember, AlreadyReleased, AlreadyOpen, WireTooOld, TapeFaulty, RoundsSpent, Store, OutOfMemory}
use Rattle.node_core.specs.Standing.{StandsFor as CoreStandsFor}
use Rattle.station.specs.declared.station.Station.{Station}
use Rattle.station.specs.Stations.{Sight, sight}
use Rattle.station.specs.Upgrading.{Balked, UpgradeEnds, DoesUpgrade}
use Rattle.world.specs.declared.world.World.{World}
use Rattle.world.specs.declared.step.Outcome.{Outcome}
use Rattle.world.specs.declared.step.Step.TheVariants as steps
use Rattle.world.specs.Setups.{StationCircuit, StationState}
use Rattle.world.specs.Worlds.{IsSame}
use Rattle.world.specs.Taking.{EndsAs, RowsRefused, IfTorn, WasTorn}
use Rattle.world.specs.Logging.{upgrade_outcome, UpgradedAs}
use Rattle.world.specs.Reach.{Shows, StandsFor, Moves}
use Rattle.world.proofs.Members.{Changes, Elsewhere, is_member_of, with_at-other, with_at-same, with_at-self, shown, stands_after}
use Rattle.world.proofs.Turning.{balky_sight, same_state, unarmed}
use Rattle.world.proofs.Asking.{before_at, after_at, ends_more, was_torn}

-- a world is the same as itself
same_world : {R : Type 0} (v : World R) → IsSame v v
same_world v = record { stations = refl; sent = refl; offers = refl; releases = refl }

-- one station took an upgrade that was answered so
module _ {R : Type 0} (x : Sight R) (refusals : R → ℕ) (z : StationCircuit) (v v' : World R) (w : StationState) (i m : ℕ) (s s' : Station (Balky R))
    (ch : Changes v v' i m s s') (h : StandsFor x.is_open x.saved x.version z v w)
    (sent : v'.sent.items ≡ v.sent.items) (offers : v'.offers.items ≡ v.offers.items) (releases : v'.releases.items ≡ v.releases.items)
    (outcome : Outcome) (over : UpgradedAs (balky_sight x refusals) s s' outcome) (kept : x.kept s'.rows.rows) where
  t : DoesUpgrade (balky_sight x refusals) s s' over.0
  t = over.1

  old : Shows x.is_open x.saved x.version h.tables h.files z w m s
  old = shown v v' i m s s' ch x.is_open x.saved x.version z w h

  -- the member forgets its marks, is at this version, is stopped or not, and unarmed
  abbrev now_at : Version → Bool → StationState
  now_at u stopped =
      record w { version = with_at w.version m u; marks = with_at w.marks m []; is_stopped = with_at w.is_stopped m stopped; armed = with_at w.armed m None }

  stands_over : (u : Version) (stopped : Bool) → x.version s'.rows.rows ≡ u → s'.stopped ≡ stopped → s'.rows.armed ≡ None → StandsFor x.is_open x.saved x.version z v' (now_at u stopped)
  stands_over u stopped is stops now =
      stands_after v v' i m s s' ch x.is_open x.saved x.version z w h (now_at u stopped) new others (h.sent ∙ sym sent) (h.offers ∙ sym offers) (h.releases ∙ sym releases)
    where
      others : Elsewhere w (now_at u stopped) m
      others = record {
        version = λ k ne. with_at-other w.version m u k ne;
        rows = λ k ne n. refl;
        marks = λ k ne. with_at-other w.marks m [] k ne;
        stopped = λ k ne. with_at-other w.is_stopped m stopped k ne;
        armed = λ k ne. with_at-other w.armed m None k ne;
      }

      version : x.version s'.rows.rows ≡ with_at w.version m u m
      version = is ∙ sym (with_at-same w.version m u)

      new : Shows x.is_open x.saved x.version h.tables h.files z (now_at u stopped) m s'
      new = record {
        circuit = t.fixed.circuit ∙ old.circuit;
        members = t.fixed.members ∙ old.members;
        me = t.fixed.me ∙ old.me;
        table = t.fixed.table ∙ old.table;
        widths = t.fixed.widths ∙ old.widths;
        is_at = record { wire = t.wire ∙ version; rows = version };
        rows = λ here n. t.same kept here n ∙ old.rows (t.was_open kept here) n;
        marks = subst (λ (ms : List Mark). CoreStandsFor s'.speaker.core ms) (sym (with_at-same w.marks m [])) t.stands_for;
        stopped = stops ∙ sym (with_at-same w.is_stopped m stopped);
        armed = now ∙ sym (with_at-same w.armed m None);
      }

  -- it is a step that ends so, and the world stands for the state that it leads to
  abbrev Comes : circuit.Outcome PacketFault SetFault → Type 0
  Comes o = (after : StationState) × StandsFor x.is_open x.saved x.version z v' after × StepsTo z w (circuit.Upgrades m) o after

  done : s'.stopped ≡ false → x.version s'.rows.rows ≡ Two → s.rows.armed ≡ None → s'.rows.armed ≡ None → Comes circuit.Upgraded
  done goes two was now = (
    now_at Two false,
    stands_over Two false two goes now,
    upgrades m (is_member_of v v' i m s s' ch x.is_open x.saved x.version z w h) refl refl was_unarmed (record {
      version = λ k. refl;
      rows = λ k n. refl;
      marks = λ k. refl;
      is_stopped = λ k. refl;
      armed = λ k. ap (λ (a : Option Bool). with_at w.armed m a k) (sym was_unarmed) ∙ with_at-self w.armed m k;
      sent = refl;
      offers = refl;
      releases = refl;
    }),
  )
    where
      was_unarmed : w.armed m ≡ None
      was_unarmed = sym old.armed ∙ was

  -- the store refused it: the member stops, at a version that may be left
  torn : (o : circuit.Outcome PacketFault SetFault) → s'.stopped ≡ true → s'.rows.armed ≡ None → MayLeave (w.armed m) o (w.version m) Two (x.version s'.rows.rows) → Comes o
  torn o stops now may = (
    now_at (x.version s'.rows.rows) true,
    stands_over (x.version s'.rows.rows) true refl stops now,
    upgrade_is_torn m (x.version s'.rows.rows) (is_member_of v v' i m s s' ch x.is_open x.saved x.version z w h) refl may (same_state (now_at (x.version s'.rows.rows) true)),
  )

  -- the member's own rows refused a call
  abbrev Own : Type 0
  Own = Rises (refusals s.rows.rows) (refusals s'.rows.rows)

  -- it was torn by its store: as it was armed, or by its own rows
  abbrev ComesTorn : Type 0
  ComesTorn = (o : circuit.Outcome PacketFault SetFault) × ((o ≡ circuit.Torn_as_armed) ⊎ ((o ≡ circuit.Torn_by_store) × Own)) × Comes o

  module _ {fault : RowsFault} (stops : s'.stopped ≡ true) (b : Balked (balky_sight x refusals) s.rows s'.rows fault) where
    of_state : (x.version s'.rows.rows ≡ w.version m) ⊎ (x.version s'.rows.rows ≡ Two)
    of_state = elim b.either [ inl same ↦ inl (same ∙ old.is_at.rows) | inr two ↦ inr two ]

    by_own : Own → MayLeave {D = PacketFault} {F = SetFault} (w.armed m) circuit.Torn_by_store (w.version m) Two (x.version s'.rows.rows) → ComesTorn
    by_own own may = (circuit.Torn_by_store, inr (refl, own), torn circuit.Torn_by_store stops b.balks.0 may)

    as_armed : MayLeave {D = PacketFault} {F = SetFault} (w.armed m) circuit.Torn_as_armed (w.version m) Two (x.version s'.rows.rows) → ComesTorn
    as_armed may = (circuit.Torn_as_armed, inl refl, torn circuit.Torn_as_armed stops b.balks.0 may)

    balked : (o : Option Bool) → w.armed m ≡ o → ComesTorn
    balked None is = elim b.blames.1 [
      | inl armed ↦ absurd (unarmed (subst (λ (f : Option Bool). IsSome f) (old.armed ∙ is) armed.0))
      | inr own ↦ by_own own.1 (rw is (refl, of_state))
    ]
    balked (Some true) is = elim (b.balks.3 (old.armed ∙ is)) [
      | inl two ↦ as_armed (rw is (inl (refl, two)))
      | inr own ↦ by_own own.0 (rw is (inr (refl, of_state)))
    ]
    balked (Some false) is = as_armed (rw is (refl, ap (λ (q : R). x.version q) (b.balks.1 (old.armed ∙ is)) ∙ old.is_at.rows))

  -- however the station ended it
  ended : (q : Result (Unit {0}) StepRefusal) → s'.stopped ≡ is_err q → UpgradeEnds (balky_sight x refusals) s.rows s'.rows q
      → (o : circuit.Outcome PacketFault SetFault) × EndsAs (upgrade_outcome q) Own o × Comes o
  ended (Ok tt) stops e = (circuit.Upgraded, refl, done stops e.two e.upgrades.0 e.upgrades.1)
  ended (Err (Store fault)) stops e = balked stops e (w.armed m) refl
  ended (Err Stopped) stops e = absurd e
  ended (Err (BadDatagram fault)) stops e = absurd e
  ended (Err WrongCircuit) stops e = absurd e
  ended (Err NotForMe) stops e = absurd e
  ended (Err Stranger) stops e = absurd e
  ended (Err BadNumber) stops e = absurd e
  ended (Err NoSuchMember) stops e = absurd e
  ended (Err AlreadyReleased) stops e = absurd e
  ended (Err AlreadyOpen) stops e = absurd e
  ended (Err WireTooOld) stops e = absurd e
  ended (Err (TapeFaulty fault)) stops e = absurd e
  ended (Err RoundsSpent) stops e = absurd e
  ended (Err OutOfMemory) stops e = absurd e

  own_refused : Own → RowsRefused refusals v v' m
  own_refused rises = record {
    before = s;
    after = s';
    at_old = before_at v v v' i m s s' (same_world v) ch;
    at_new = after_at v v' i m s s' ch;
    rises = rises;
  }

  -- it is a step of the state
  pub moves : Moves x.is_open x.saved x.version refusals z w (steps.Upgrade m) v v' (Ok (record { member = m; first = length v'.sent.items + 1; count = 0; released = false; outcome = outcome }))
  moves =
      let end = ended over.0 t.stops t.ends in
      let P : Outcome → Type 0 = λ q. (after : StationState) × StandsFor x.is_open x.saved x.version z v' after
      × (o : circuit.Outcome PacketFault SetFault) × EndsAs q (RowsRefused refusals v v' m) o × StepsTo z w (circuit.Upgrades m) o after in
      subst P (sym over.2) (end.2.0, end.2.1, end.0, ends_more (upgrade_outcome over.0) Own (RowsRefused refusals v v' m) own_refused end.0 end.1, end.2.2)

-- where the store refused it, it is told why
module _ {R : Type 0} (g : Ghosts R) (v v' : World R) (i m : ℕ) (s s' : Station (Balky R)) (ch : Changes v v' i m s s') where
  torn_why : (q : Result (Unit {0}) StepRefusal) → UpgradeEnds (balky_sight (sight g) g.refusals) s.rows s'.rows q → IfTorn (upgrade_outcome q) (WasTorn g v v' m)
  torn_why (Ok tt) e = tt
  torn_why (Err (Store fault)) e = was_torn g v v v' i m s s' (same_world v) ch fault (inl e.blames)
  torn_why (Err Stopped) e = tt
  torn_why (Err (BadDatagram fault)) e = tt
  torn_why (Err WrongCircuit) e = tt
  torn_why (Err NotForMe) e = tt
  torn_why (Err Stranger) e = tt
  torn_why (Err BadNumber) e = tt
  torn_why (Err NoSuchMember) e = tt
  torn_why (Err AlreadyReleased) e = tt
  torn_why (Err AlreadyOpen) e = tt
  torn_why (Err WireTooOld) e = tt
  torn_why (Err (TapeFaulty fault)) e = tt
  torn_why (Err RoundsSpent) e = tt
  torn_why (Err OutOfMemory) e = tt

  pub tells_upgrade : (outcome : Outcome) → UpgradedAs (balky_sight (sight g) g.refusals) s s' outcome → IfTorn outcome (WasTorn g v v' m)
  tells_upgrade outcome over = subst (λ (q : Outcome). IfTorn q (WasTorn g v v' m)) (sym over.2) (torn_why over.0 over.1.ends)
