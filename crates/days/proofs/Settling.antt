-- What a process saved was stored: the state of the circuit stays, since the station is read as before.
use Rattle.std.proofs.Common.{◌≡◌, ◌≢◌, ℕ, refl, sym, ap, subst, ◌∙◌, List, Bool, true, false}
use Rattle.std.specs.Prelude.{◌==◌}
use Rattle.std.proofs.lemmas.Bool.{eqb-true, eqb-false}
use Rattle.protocol.specs.Ballots.{IsMember}
use Rattle.protocol.specs.Circuit.{with_at}
use Rattle.rows_saved.specs.declared.rows.Rows.{Ghosts}
use Rattle.node_core.specs.Standing.{StandsFor as CoreStandsFor}
use Rattle.station.specs.declared.station.Station.{Station}
use Rattle.station.specs.Settling.{IsReadAlike}
use Rattle.world.specs.Setups.{StationCircuit, StationState}
use Rattle.world.proofs.Members.{with_at-other, with_at-same}
use Rattle.days.specs.Happening.{Happened}
use Rattle.days.specs.Handing.{Plants, Member, runs}
use Rattle.days.proofs.Showing.{Shows}
use Rattle.days.proofs.Standing.{ShowsMember, Stands}

-- what the state has of a station it has of one that is read alike
shows_settled :
    {R : Type 0} (g : Ghosts R) (p : Plants) (w : StationState) (m : ℕ) (old new : Station R)
    → g.kept new.rows → IsReadAlike g old new → Shows g p w m old → Shows g p w m new
shows_settled {R = R} g p w m old new kept reads shows = record {
  circuit = ap (λ (s : Station R). s.speaker.core.circuit) reads.only_rows ∙ shows.circuit;
  members = ap (λ (s : Station R). s.speaker.core.members) reads.only_rows ∙ shows.members;
  me = ap (λ (s : Station R). s.speaker.core.me) reads.only_rows ∙ shows.me;
  table = ap (λ (s : Station R). s.table) reads.only_rows ∙ shows.table;
  widths = ap (λ (s : Station R). s.widths) reads.only_rows ∙ shows.widths;
  wire = ap (λ (s : Station R). s.speaker.wire) reads.only_rows ∙ shows.wire;
  version = reads.version ∙ shows.version;
  rows = λ n. reads.same kept n ∙ shows.rows n;
  marks = subst (λ (s : Station R). CoreStandsFor s.speaker.core (w.marks m)) (sym reads.only_rows) shows.marks;
  goes = ap (λ (s : Station R). s.stopped) reads.only_rows ∙ shows.goes;
  goes_on = shows.goes_on;
  unarmed = shows.unarmed;
}

pub stands_settled :
    {R : Type 0} (g : Ghosts R) (p : Plants) (z : StationCircuit) (day : List Happened) (at : ℕ → Member R) (st : Stands g p z day at)
    (m : ℕ) (old new : Station R) → IsMember p.count m → at m ≡ runs old → g.kept new.rows → IsReadAlike g old new
    → Stands g p z day (with_at at m (runs new))
stands_settled {R = R} g p z day at st m old new member here kept reads = record {
  w = st.w;
  history = st.history;
  each = λ k is. each k is (k == m) refl;
  sent = st.sent;
  offers = st.offers;
  releases = st.releases;
  set = st.set;
}
  where
    was : Shows g p st.w m old
    was = subst (λ (u : Member R). ShowsMember g p day st.w m u) here (st.each m member)

    now : ShowsMember g p day st.w m (with_at at m (runs new) m)
    now = subst (λ (u : Member R). ShowsMember g p day st.w m u) (sym (with_at-same at m (runs new))) (shows_settled g p st.w m old new kept reads was)

    each : (k : ℕ) → IsMember p.count k → (b : Bool) → (k == m) ≡ b → ShowsMember g p day st.w k (with_at at m (runs new) k)
    each k is true e = subst (λ (j : ℕ). ShowsMember g p day st.w j (with_at at m (runs new) j)) (sym (eqb-true k m e)) now
    each k is false e =
        let far : k ≢ m = eqb-false k m e in
        subst (λ (u : Member R). ShowsMember g p day st.w k u) (sym (with_at-other at m (runs new) k far)) (st.each k is)
