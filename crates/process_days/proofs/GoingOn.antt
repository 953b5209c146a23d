-- The logs of processes, one event after the other, are a day.
use Rattle.std.proofs.Common.{◌≡◌, ◌≢◌, ◌⊎◌, ℕ, inl, inr, refl, sym, ap, ◌∙◌, subst, List, [], ◌∷◌, Bool, true, false}
use Rattle.std.specs.Prelude.{◌==◌, ◌||◌, if◌then◌else◌, Result, Ok, Err}
use Rattle.std.proofs.lemmas.Bool.{eqb-true, eqb-false, eq-eqb}
use Rattle.protocol.specs.Ballots.{IsMember}
use Rattle.protocol.specs.Refusals.{Call}
use Rattle.protocol.specs.Circuit.{with_at}
use Rattle.rows_saved.specs.declared.rows.Rows.{Ghosts}
use Rattle.station.specs.declared.answer.Answer.{Answer}
use Rattle.station.specs.declared.station.Station.{Station}
use Rattle.station.specs.Steps.{tears, IsStep}
use Rattle.refusals.specs.declared.refusal.StepRefusal.{StepRefusal}
use Rattle.refusals.specs.declared.refusal.StepRefusal.TheVariants.{Stopped, Store}
use Rattle.protocol_laws.proofs.Places.{with_at-same}
use Rattle.driver.specs.Events.{Event, asked, took, stored, aside, Aside, Takes}
use Rattle.days.specs.Happening.{Ending, At_rest, In_call, Happened, did, Came}
use Rattle.days.specs.Handing.{Plants, Member, runs, over, after_call}
use Rattle.days.specs.Days.{Day, answers, settles, refuses, ends, DaysAgree}
use Rattle.process_days.specs.Telling.{Order, log_of, day_stored, day_after, IsInTurn, HasLog, IsOver, WasLeft, IsLeftWith, LogsMakeDays, LogsAgree}
use Rattle.process_days.proofs.Storing.{Stored, has_settled, was_torn, had_stopped, what_stored, stored_was_kept}

-- what is changed at one place stays elsewhere
pub with_at-other : {A : Type 0} (f : ℕ → A) (m : ℕ) (x : A) (k : ℕ) → k ≢ m → with_at f m x k ≡ f k
with_at-other f m x k far = go (k == m) refl
  where
    go : (b : Bool) → (k == m) ≡ b → with_at f m x k ≡ f k
    go true e = absurd (far (eqb-true k m e))
    go false e = rw e refl

pub log_here : (k : ℕ) (e : Event) (rest : Order) → log_of k ((k, e) ∷ rest) ≡ e ∷ log_of k rest
log_here k e rest = ap (λ (b : Bool). if b then e ∷ log_of k rest else log_of k rest) (eq-eqb k k refl)

pub log_elsewhere : (m k : ℕ) (e : Event) (rest : Order) → (k == m) ≡ false → log_of m ((k, e) ∷ rest) ≡ log_of m rest
log_elsewhere m k e rest far = ap (λ (b : Bool). if b then e ∷ log_of m rest else log_of m rest) far

no_more : {A : Type 0} {x : A} {xs : List A} → x ∷ xs ≡ [] → ⊥
no_more e = cc

not_both : {b : Bool} → b ≡ true → b ≡ false → ⊥
not_both stops goes = cc

module _ {R : Type 0} (g : Ghosts R) (is_settled : R → Type 0) where
  -- rows that are kept at the end of a log were kept before it
  was_kept : (s last : Station R) (log : List Event) → Takes g is_settled s last log → g.kept last.rows → g.kept s.rows
  was_kept s last [] it kept = subst (λ (t : Station R). g.kept t.rows) it kept
  was_kept s last (asked moment ∷ rest) it kept = was_kept s last rest it kept
  was_kept s last (aside what ∷ rest) it kept = was_kept s last rest it kept
  was_kept s last (took call answer ∷ rest) it kept = it.1.was_kept (was_kept it.0 last rest it.2 kept)
  was_kept s last (stored answer ∷ rest) it kept = stored_was_kept g is_settled s it.0 answer (what_stored answer it.1) (was_kept it.0 last rest it.2 kept)

  -- a process that is over tells nothing more, or goes on with a station that has stopped
  abbrev Goes : Type 0 → Member R → Station R → List Event → Type 0
  Goes Was (runs s) last log = g.kept last.rows × Takes g is_settled s last log
  Goes Was (over ending s) last log = ((t : Station R) × (t.stopped ≡ true) × Takes g is_settled t last log) ⊎ ((log ≡ []) × Was)

  from_log : (u : Member R) (last : Station R) (log : List Event) → HasLog g is_settled u last log → Goes (IsOver u) u last log
  from_log (runs s) last log it = (it.0, it.1 it.0)
  from_log (over ending s) last log it = inr (it, tt)

  -- a process that was over, or stopped its station
  left_over : (u : Member R) (last : Station R) → (last.stopped ≡ true) ⊎ IsOver u → WasLeft u last
  left_over (runs s) last (inl stops) = stops
  left_over (runs s) last (inr was) = absurd was
  left_over (over ending s) last it = tt

  left_so : (first u : Member R) (last : Station R) → Goes (IsOver first) u last [] → IsLeftWith first u last
  left_so first (runs s) last it = it.1
  left_so first (over ending s) last (inl it) = left_over first last (inl (ap (λ (t : Station R). t.stopped) it.2 ∙ it.1))
  left_so first (over ending s) last (inr it) = left_over first last (inr it.1)

  module _ (Was : Type 0) where
    -- the clock was asked
    clock_asked : (u : Member R) (last : Station R) (moment : ℕ) (log : List Event) → Goes Was u last (asked moment ∷ log) → Goes Was u last log
    clock_asked (runs s) last moment log it = it
    clock_asked (over ending s) last moment log (inl it) = inl it
    clock_asked (over ending s) last moment log (inr none) = absurd (no_more none.0)

    -- something passed beside the packets
    passed_by : (u : Member R) (last : Station R) (what : Aside) (log : List Event) → Goes Was u last (aside what ∷ log) → Goes Was u last log
    passed_by (runs s) last what log it = it
    passed_by (over ending s) last what log (inl it) = inl it
    passed_by (over ending s) last what log (inr none) = absurd (no_more none.0)

    refused_on :
        (b : Bool) (call : Call) (old mid last : Station R) (log : List Event) → mid.stopped ≡ (b || old.stopped) → g.kept last.rows → Takes g is_settled mid last log
        → Goes Was (if b then over (In_call call) old else runs mid) last log
    refused_on true call old mid last log stops kept it = inl (mid, stops, it)
    refused_on false call old mid last log stops kept it = (kept, it)

    -- a call was answered
    called : (call : Call) (answer : Result Answer StepRefusal) (old mid last : Station R) (log : List Event) → IsStep g call old mid answer → g.kept last.rows → Takes g is_settled mid last log → Goes Was (after_call call answer old mid) last log
    called call (Ok a) old mid last log step kept it = (kept, it)
    called call (Err r) old mid last log step kept it = refused_on (tears r) call old mid last log step.stops kept it

  module _ (p : Plants) (last : ℕ → Station R) (first : ℕ → Member R) where
    abbrev GoOn : (ℕ → Member R) → Order → Type 0
    GoOn at order = (m : ℕ) → IsMember p.count m → Goes (IsOver (first m)) (at m) (last m) (log_of m order)

    abbrev Ends : List Happened → Type 0
    Ends day = (now : ℕ → Member R) × Day g p day now × ((m : ℕ) → IsMember p.count m → IsLeftWith (first m) (now m) (last m))

    -- where one member's process went on, and the others' stayed
    others_stay :
        (at : ℕ → Member R) (k : ℕ) (e : Event) (rest : Order) (u : Member R) → GoOn at ((k, e) ∷ rest) → Goes (IsOver (first k)) u (last k) (log_of k rest) → GoOn (with_at at k u) rest
    others_stay at k e rest u all here m member = go (m == k) refl
      where
        go : (b : Bool) → (m == k) ≡ b → Goes (IsOver (first m)) (with_at at k u m) (last m) (log_of m rest)
        go true same =
            let is : m ≡ k = eqb-true m k same in
            subst (λ (j : ℕ). Goes (IsOver (first j)) (with_at at k u j) (last j) (log_of j rest)) (sym is) (subst (λ (v : Member R). Goes (IsOver (first k)) v (last k) (log_of k rest)) (sym (with_at-same at k u)) here)
        go false apart =
            let far : m ≢ k = eqb-false m k apart in
            let turned : (k == m) ≡ false = differs k m (λ is. far (sym is)) in
            subst (λ (v : Member R). Goes (IsOver (first m)) v (last m) (log_of m rest)) (sym (with_at-other at k u m far))
            (subst (λ (l : List Event). Goes (IsOver (first m)) (at m) (last m) l) (log_elsewhere m k e rest turned) (all m member))
          where
            differs : (i j : ℕ) → i ≢ j → (i == j) ≡ false
            differs i j ne = by (i == j) refl
              where
                by : (b : Bool) → (i == j) ≡ b → (i == j) ≡ false
                by true is = absurd (ne (eqb-true i j is))
                by false is = is

    all_stay : (at : ℕ → Member R) (k : ℕ) (e : Event) (rest : Order) → GoOn at ((k, e) ∷ rest) → Goes (IsOver (first k)) (at k) (last k) (log_of k rest) → GoOn at rest
    all_stay at k e rest all here m member = go (k == m) refl
      where
        go : (b : Bool) → (k == m) ≡ b → Goes (IsOver (first m)) (at m) (last m) (log_of m rest)
        go true same = subst (λ (j : ℕ). Goes (IsOver (first j)) (at j) (last j) (log_of j rest)) (eqb-true k m same) here
        go false apart = subst (λ (l : List Event). Goes (IsOver (first m)) (at m) (last m) l) (log_elsewhere m k e rest apart) (all m member)

    -- the day goes on by a call of this member's process
    by_call :
        (day : List Happened) (at : ℕ → Member R) (k : ℕ) (call : Call) (answer : Result Answer StepRefusal) (rest : Order) → Day g p day at → IsMember p.count k → Came day k call
        → GoOn at ((k, took call answer) ∷ rest) → (u : Member R) → at k ≡ u → Goes (IsOver (first k)) u (last k) (took call answer ∷ log_of k rest)
        → (next : ℕ → Member R) × Day g p (did k call answer ∷ day) next × GoOn next rest
    by_call day at k call answer rest d member came all (runs s) is it =
        let all_taken : Takes g is_settled s (last k) (took call answer ∷ log_of k rest) = it.1 in
        let mid : Station R = all_taken.0 in
        let u : Member R = after_call call answer s mid in (
          with_at at k u,
          answers d k call s mid answer member is came (was_kept mid (last k) (log_of k rest) all_taken.2 it.0) all_taken.1,
          others_stay at k (took call answer) rest u all (called (IsOver (first k)) call answer s mid (last k) (log_of k rest) all_taken.1 it.0 all_taken.2),
        )
    by_call day at k call answer rest d member came all (over ending s) is (inr none) = absurd (no_more none.0)
    by_call day at k call answer rest d member came all (over ending s) is (inl it) =
        let step = it.2.1 in
        let stopped = step.stopped it.1 in
        let here : Goes (IsOver (first k)) (over ending s) (last k) (log_of k rest) = inl (it.0, it.1, subst (λ (t : Station R). Takes g is_settled t (last k) (log_of k rest)) stopped.1 it.2.2) in (
          at,
          subst (λ (r : Result Answer StepRefusal). Day g p (did k call r ∷ day) at) (sym stopped.0) (refuses d k call ending s member is),
          all_stay at k (took call answer) rest all (subst (λ (v : Member R). Goes (IsOver (first k)) v (last k) (log_of k rest)) (sym is) here),
        )

    abbrev Next : List Happened → Order → Type 0
    Next day rest = (next : ℕ → Member R) × Day g p day next × GoOn next rest

    -- by what this member's process was to store, which runs
    by_store :
        (day : List Happened) (at : ℕ → Member R) (k : ℕ) (answer : Result (Unit {0}) StepRefusal) (rest : Order) → Day g p day at → IsMember p.count k
        → GoOn at ((k, stored answer) ∷ rest) → (s mid : Station R) → at k ≡ runs s → Stored g is_settled s mid answer
        → g.kept (last k).rows → Takes g is_settled mid (last k) (log_of k rest) → Next (day_stored k answer day) rest
    by_store day at k answer rest d member all s mid is (has_settled done it) kept takes = (
      with_at at k (runs mid),
      settles d k s mid member is (was_kept mid (last k) (log_of k rest) takes kept) it.reads,
      others_stay at k (stored (Ok done)) rest (runs mid) all (kept, takes),
    )
    by_store day at k answer rest d member all s mid is (was_torn fault it) kept takes = (
      with_at at k (over At_rest s),
      ends d k At_rest s member is tt,
      others_stay at k (stored (Err (Store fault))) rest (over At_rest s) all (inl (mid, ap (λ (t : Station R). t.stopped) it.only_rows, takes)),
    )
    by_store day at k answer rest d member all s mid is (had_stopped stopped same) kept takes =
        let here : Goes (IsOver (first k)) (runs s) (last k) (log_of k rest) = (kept, subst (λ (t : Station R). Takes g is_settled t (last k) (log_of k rest)) same takes) in
        (at, d, all_stay at k (stored (Err Stopped)) rest all (subst (λ (v : Member R). Goes (IsOver (first k)) v (last k) (log_of k rest)) (sym is) here))

    -- or whose station had stopped: it can answer so alone
    by_no_store :
        (day : List Happened) (at : ℕ → Member R) (k : ℕ) (answer : Result (Unit {0}) StepRefusal) (rest : Order) → Day g p day at
        → GoOn at ((k, stored answer) ∷ rest) → (ending : Ending) (s t mid : Station R) → at k ≡ over ending s → t.stopped ≡ true
        → Stored g is_settled t mid answer → Takes g is_settled mid (last k) (log_of k rest) → Next (day_stored k answer day) rest
    by_no_store day at k answer rest d all ending s t mid is stops (has_settled done it) takes = absurd (not_both stops it.goes)
    by_no_store day at k answer rest d all ending s t mid is stops (was_torn fault it) takes = absurd (not_both stops it.went)
    by_no_store day at k answer rest d all ending s t mid is stops (had_stopped stopped same) takes =
        let rests : Takes g is_settled t (last k) (log_of k rest) = subst (λ (u : Station R). Takes g is_settled u (last k) (log_of k rest)) same takes in
        let here : Goes (IsOver (first k)) (over ending s) (last k) (log_of k rest) = inl (t, stops, rests) in
        (at, d, all_stay at k (stored (Err Stopped)) rest all (subst (λ (v : Member R). Goes (IsOver (first k)) v (last k) (log_of k rest)) (sym is) here))

    by_stored :
        (day : List Happened) (at : ℕ → Member R) (k : ℕ) (answer : Result (Unit {0}) StepRefusal) (rest : Order) → Day g p day at → IsMember p.count k
        → GoOn at ((k, stored answer) ∷ rest) → (u : Member R) → at k ≡ u → Goes (IsOver (first k)) u (last k) (stored answer ∷ log_of k rest) → Next (day_stored k answer day) rest
    by_stored day at k answer rest d member all (runs s) is it =
        let all_taken : Takes g is_settled s (last k) (stored answer ∷ log_of k rest) = it.1 in
        by_store day at k answer rest d member all s all_taken.0 is (what_stored answer all_taken.1) it.0 all_taken.2
    by_stored day at k answer rest d member all (over ending s) is (inr none) = absurd (no_more none.0)
    by_stored day at k answer rest d member all (over ending s) is (inl it) =
        let all_taken : Takes g is_settled it.0 (last k) (stored answer ∷ log_of k rest) = it.2 in
        by_no_store day at k answer rest d all ending s it.0 all_taken.0 is it.1 (what_stored answer all_taken.1) all_taken.2

    log_first : (at : ℕ → Member R) (k : ℕ) (e : Event) (rest : Order) → IsMember p.count k → GoOn at ((k, e) ∷ rest) → Goes (IsOver (first k)) (at k) (last k) (e ∷ log_of k rest)
    log_first at k e rest member all = subst (λ (l : List Event). Goes (IsOver (first k)) (at k) (last k) l) (log_here k e rest) (all k member)

    goes : (order : Order) (day : List Happened) (at : ℕ → Member R) → Day g p day at → GoOn at order → IsInTurn p.count day order → Ends (day_after day order)
    goes [] day at d all turn = (at, d, λ m member. left_so (first m) (at m) (last m) (all m member))
    goes ((k, asked moment) ∷ rest) day at d all turn =
        goes rest day at d (all_stay at k (asked moment) rest all (clock_asked (IsOver (first k)) (at k) (last k) moment (log_of k rest) (log_first at k (asked moment) rest turn.0 all))) turn.2
    goes ((k, aside what) ∷ rest) day at d all turn =
        goes rest day at d (all_stay at k (aside what) rest all (passed_by (IsOver (first k)) (at k) (last k) what (log_of k rest) (log_first at k (aside what) rest turn.0 all))) turn.2
    goes ((k, took call answer) ∷ rest) day at d all turn =
        let next = by_call day at k call answer rest d turn.0 turn.1 all (at k) refl (log_first at k (took call answer) rest turn.0 all) in
        goes rest (did k call answer ∷ day) next.0 next.1 next.2 turn.2
    goes ((k, stored answer) ∷ rest) day at d all turn =
        let next = by_stored day at k answer rest d turn.0 all (at k) refl (log_first at k (stored answer) rest turn.0 all) in
        goes rest (day_stored k answer day) next.0 next.1 next.2 turn.2

pub make_days : {R : Type 0} (g : Ghosts R) (is_settled : R → Type 0) → LogsMakeDays g is_settled
make_days g is_settled p day at order last d all turn =
    goes g is_settled p last at order day at d (λ m member. from_log g is_settled (at m) (last m) (log_of m order) (all m member)) turn

pub agree : {R : Type 0} (g : Ghosts R) (is_settled : R → Type 0) → DaysAgree g → LogsAgree g is_settled
agree g is_settled days p day at order last d all turn =
    let made = make_days g is_settled p day at order last d all turn in days p (day_after day order) made.0 made.1
