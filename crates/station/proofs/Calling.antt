-- What a call of a station promises, from what came of it once the station had followed its rows.
use Rattle.std.proofs.Common.{◌≡◌, ◌≤◌, refl, sym, ap, subst, ◌∙◌, arith, List, [], length, Option, None, Bool, true, false, Result, Ok, Err, IfOk, IfErr}
use Rattle.std.specs.Prelude.{IsErr, IsErrAnd, ◌||◌, if◌then◌else◌}
use Rattle.protocol.specs.Limits.{most_sent}
use Rattle.protocol.specs.Marks.{Mark}
use Rattle.protocol.specs.Turn.{Event}
use Rattle.protocol.specs.Refusals.{Call}
use Rattle.protocol.specs.Circuit.{Datagram}
use Rattle.rows_saved.specs.Saved.{Rises}
use Rattle.rows_saved.specs.declared.fault.RowsFault.{RowsFault}
use Rattle.rows_saved.specs.declared.rows.Rows.{Ghosts}
use Rattle.node_core.specs.Standing.{StandsFor}
use Rattle.station.specs.declared.answer.Answer.{Answer}
use Rattle.station.specs.declared.station.Station.{Station}
use Rattle.refusals.specs.declared.refusal.StepRefusal.{StepRefusal}
use Rattle.refusals.specs.declared.refusal.StepRefusal.TheVariants.{Stopped, BadDatagram, WrongCircuit, NotForMe, Stranger, BadNumber, NoSuchMember, AlreadyReleased, AlreadyOpen, WireTooOld, TapeFaulty, RoundsSpent, Store, OutOfMemory}
use Rattle.station.specs.Readiness.{IsNumbered}
use Rattle.station.specs.Refusing.{Refusal, IsRefusal}
use Rattle.station.specs.Stations.{sight, Follows}
use Rattle.station.specs.Steps.{Ends, Asks, Steps, TakesStep, OnStore, IfStore, IsBlamed, tears, stopped_after, is_early, IfEarly, IsStep}
use Rattle.station.proofs.Asking.{stepped, stays_stopped}

-- a refusal that does not stop a station is not its store's
not_of_store : (q : StepRefusal) → tears q ≡ false → (P : Type 0) (Q : RowsFault → Type 0) → OnStore {A = Answer} (Err q) P × IfStore {A = Answer} (Err q) Q
not_of_store Stopped goes P Q = (tt, tt)
not_of_store (BadDatagram fault) goes P Q = (tt, tt)
not_of_store WrongCircuit goes P Q = (tt, tt)
not_of_store NotForMe goes P Q = (tt, tt)
not_of_store Stranger goes P Q = (tt, tt)
not_of_store BadNumber goes P Q = (tt, tt)
not_of_store NoSuchMember goes P Q = (tt, tt)
not_of_store AlreadyReleased goes P Q = (tt, tt)
not_of_store AlreadyOpen goes P Q = (tt, tt)
not_of_store WireTooOld goes P Q = (tt, tt)
not_of_store (TapeFaulty fault) goes P Q = (tt, tt)
not_of_store RoundsSpent goes P Q = (tt, tt)
not_of_store (Store fault) goes P Q = absurd cc
not_of_store OutOfMemory goes P Q = (tt, tt)

-- what is refused before the store is asked stops no station
pub steady : (o : Option Refusal) (q : StepRefusal) → IsRefusal o q → tears q ≡ false
steady o Stopped h = refl
steady o (BadDatagram fault) h = refl
steady o WrongCircuit h = refl
steady o NotForMe h = refl
steady o Stranger h = refl
steady o BadNumber h = refl
steady o NoSuchMember h = refl
steady o AlreadyReleased h = refl
steady o AlreadyOpen h = refl
steady o WireTooOld h = refl
steady o (TapeFaulty fault) h = refl
steady o RoundsSpent h = refl
steady o (Store fault) h = absurd h
steady o OutOfMemory h = absurd h

-- an answer that is no early refusal owes nothing as one
never_early : (r : Result Answer StepRefusal) (P : Type 0) → IfErr r (λ q. is_early q ≡ false) → IfEarly r P
never_early (Ok a) P late = tt
never_early (Err q) P late = λ is. let no : false ≡ true = sym late ∙ is in absurd cc

also_early : (r : Result Answer StepRefusal) (P Q : Type 0) → (P → Q) → IfEarly r P → IfEarly r Q
also_early (Ok a) P Q turn h = tt
also_early (Err q) P Q turn h = λ is. turn (h is)

-- what came of a call of a station that goes on and followed its rows
pub record CameOf {R : Type 0} (g : Ghosts R) (call : Call) (mid new : Station R) (r : Result Answer StepRefusal) : Type 0 where
  pub steps : g.kept new.rows → (marks : List Mark) → StandsFor mid.speaker.core marks → Steps (sight g) call mid new marks r
  pub early : IfEarly r ((marks : List Mark) → StandsFor mid.speaker.core marks → Steps (sight g) call mid new marks r)
  pub was_kept : g.kept new.rows → g.kept mid.rows
  pub made : g.made mid.rows → g.made new.rows
  pub few : IfOk r (λ a. length a.out.items ≤ most_sent)
  pub numbered : IfOk r (λ a. IsNumbered a.release)
  pub cause : OnStore r (Rises (g.refusals mid.rows) (g.refusals new.rows))
  pub blames : IfStore r (IsBlamed (sight g) mid.rows new.rows)
  pub version : g.version new.rows ≡ g.version mid.rows
  pub wire : new.speaker.wire ≡ mid.speaker.wire
  pub stops : new.stopped ≡ stopped_after mid.stopped r

-- the call of a station that goes on, from what it found
pub from_found :
    {R : Type 0} (g : Ghosts R) (call : Call) (old mid new : Station R) (r : Result Answer StepRefusal) → old.stopped ≡ false → mid ≡ record old { speaker = mid.speaker }
    → (old.stopped ≡ false → Follows (sight g) old mid) → (mid.stopped ≡ false → CameOf g call mid new r) → IsStep g call old new r
from_found {R = R} g call old mid new r goes same follows came_of =
    let rows : mid.rows ≡ old.rows = ap (λ (t : Station R). t.rows) same in
    let still : mid.stopped ≡ old.stopped = ap (λ (t : Station R). t.stopped) same in
    let f : Follows (sight g) old mid = follows goes in
    let came : CameOf g call mid new r = came_of (still ∙ goes) in
    record {
      steps = λ kept. record { found = mid; follows = f; steps = came.steps kept };
      early = also_early r _ _ (λ steps. record { found = mid; follows = f; steps = steps }) came.early;
      was_kept = λ kept. subst (λ (s : R). g.kept s) rows (came.was_kept kept);
      made = λ made. came.made (subst (λ (s : R). g.made s) (sym rows) made);
      few = came.few;
      numbered = came.numbered;
      cause = subst (λ (s : R). OnStore r (Rises (g.refusals s) (g.refusals new.rows))) rows came.cause;
      blames = subst (λ (s : R). IfStore r (IsBlamed (sight g) s new.rows)) rows came.blames;
      version = came.version ∙ ap (λ (s : R). g.version s) rows;
      wire = came.wire ∙ f.wire;
      stops = came.stops ∙ ap (λ (b : Bool). stopped_after b r) still;
      stopped = λ is. let no : true ≡ false = sym is ∙ goes in absurd cc;
    }

-- the call of one that has stopped
pub stays :
    {R : Type 0} (g : Ghosts R) (call : Call) (s : Station R) → s.stopped ≡ true → IsStep g call s s (Err Stopped)
stays {R = R} g call s stopped =
    let step : TakesStep (sight g) call s s (Err Stopped) = stays_stopped (sight g) call s stopped in
    record {
      steps = λ kept. step;
      early = λ is. step;
      was_kept = λ kept. kept;
      made = λ made. made;
      few = tt;
      numbered = tt;
      cause = tt;
      blames = tt;
      version = refl;
      wire = sym (ap (λ (b : Bool). if b then s.speaker.wire else g.version s.rows) stopped);
      stops = refl;
      stopped = λ is. (refl, refl);
    }

module _ {R : Type 0} (g : Ghosts R) (call : Call) (mid : Station R) where
  -- a call that was refused before its row was read
  pub refused_at :
      (q : StepRefusal) → tears q ≡ false → ((marks : List Mark) → StandsFor mid.speaker.core marks → Steps (sight g) call mid mid marks (Err q)) → CameOf g call mid mid (Err q)
  refused_at q goes steps =
      let none = not_of_store q goes (Rises (g.refusals mid.rows) (g.refusals mid.rows)) (IsBlamed (sight g) mid.rows mid.rows) in
      record {
        steps = λ kept. steps;
        early = λ is. steps;
        was_kept = λ kept. kept;
        made = λ made. made;
        few = tt;
        numbered = tt;
        cause = none.0;
        blames = none.1;
        version = refl;
        wire = refl;
        stops = sym (ap (λ (b : Bool). b || mid.stopped) goes);
      }

  -- the same, as a `?` hands it on
  pub refused :
      (r : Result Answer StepRefusal) (q : StepRefusal) → IsErr r × IsErrAnd r (λ e. e ≡ q) → tears q ≡ false
      → ((marks : List Mark) → StandsFor mid.speaker.core marks → Steps (sight g) call mid mid marks (Err q)) → CameOf g call mid mid r
  refused (Ok a) q h goes steps = absurd h.1
  refused (Err e) q h goes steps = subst (λ (t : StepRefusal). CameOf g call mid mid (Err t)) (sym h.1) (refused_at q goes steps)

  -- a call to which nothing was due
  pub idle :
      (a : Answer) → a.out.items ≡ [] → a.release ≡ None → ((marks : List Mark) → StandsFor mid.speaker.core marks → Steps (sight g) call mid mid marks (Ok a)) → CameOf g call mid mid (Ok a)
  idle a out release steps = record {
    steps = λ kept. steps;
    early = tt;
    was_kept = λ kept. kept;
    made = λ made. made;
    few = subst (λ (l : List Datagram). length l ≤ most_sent) (sym out) (omega arith);
    numbered = subst IsNumbered (sym release) tt;
    cause = tt;
    blames = tt;
    version = refl;
    wire = refl;
    stops = refl;
  }

  -- a call that stopped the station for memory before its row was read
  pub wanted :
      (new : Station R) (q : StepRefusal) → q ≡ OutOfMemory → new ≡ record mid { speaker = new.speaker; stopped = true } → new.speaker.wire ≡ mid.speaker.wire
      → ((marks : List Mark) → StandsFor mid.speaker.core marks → Steps (sight g) call mid new marks (Err q)) → CameOf g call mid new (Err q)
  wanted new q same is wire steps =
      let rows : new.rows ≡ mid.rows = ap (λ (t : Station R). t.rows) is in
      subst (λ (t : StepRefusal). CameOf g call mid new (Err t)) (sym same) (record {
        steps = λ kept marks stands. subst (λ (t : StepRefusal). Steps (sight g) call mid new marks (Err t)) same (steps marks stands);
        early = λ is. let no : false ≡ true = is in absurd cc;
        was_kept = λ kept. subst (λ (s : R). g.kept s) rows kept;
        made = λ made. subst (λ (s : R). g.made s) (sym rows) made;
        few = tt;
        numbered = tt;
        cause = tt;
        blames = tt;
        version = ap (λ (s : R). g.version s) rows;
        wire = wire;
        stops = ap (λ (t : Station R). t.stopped) is;
      })

  -- a call that came to the turn of an event
  pub took :
      (e : Event) (new : Station R) (r : Result Answer StepRefusal) → ((marks : List Mark) → StandsFor mid.speaker.core marks → Asks mid marks call e)
      → (g.kept new.rows → (marks : List Mark) → StandsFor mid.speaker.core marks → Ends (sight g) e mid new marks r)
      → IfErr r (λ q. is_early q ≡ false) → (g.kept new.rows → g.kept mid.rows) → (g.made mid.rows → g.made new.rows) → IfOk r (λ a. length a.out.items ≤ most_sent) → IfOk r (λ a. IsNumbered a.release)
      → OnStore r (Rises (g.refusals mid.rows) (g.refusals new.rows)) → IfStore r (IsBlamed (sight g) mid.rows new.rows)
      → g.version new.rows ≡ g.version mid.rows → new.speaker.wire ≡ mid.speaker.wire → new.stopped ≡ stopped_after mid.stopped r → CameOf g call mid new r
  took e new r asks ends late was_kept made few numbered cause blames version wire stops = record {
    steps = λ kept marks stands. stepped (sight g) call e mid new marks r (asks marks stands) (ends kept marks stands);
    early = never_early r _ late;
    was_kept = was_kept;
    made = made;
    few = few;
    numbered = numbered;
    cause = cause;
    blames = blames;
    version = version;
    wire = wire;
    stops = stops;
  }
