-- Stretches of what was driven, one after the other.
use Rattle.std.proofs.Common.{◌≡◌, ℕ, List, [], ◌∷◌, ◌++◌, Bool, ◌||◌, false, Option, Some, None, Result, Ok, Err, OnOk, inl, inr, refl, sym, ap, ◌∙◌, subst, append-nil}
use Rattle.std.specs.Prelude.{OnErr, IfErr}
use Rattle.protocol.specs.Refusals.{Call as StationCall}
use Rattle.station.specs.declared.answer.Answer.{Answer}
use Rattle.refusals.specs.declared.refusal.StepRefusal.{StepRefusal}
use Rattle.refusals.specs.declared.refusal.StepRefusal.TheVariants as steps
use Rattle.station.specs.declared.station.Station.{Station}
use Rattle.station.specs.Settling.{Settling}
use Rattle.station.specs.Steps.{IsStep, tears, stopped_after}
use Rattle.recalls.specs.Spelling.{spelling}
use Rattle.rolls.specs.Spelling.{spelling as roll_spelling}
use Rattle.wire.specs.Passing.{Passed, Passes, Trace, sent, told}
use Rattle.command_ends.specs.Ends.{end_of, end_of_step, IsOfWriting}
use Rattle.command_ends.specs.declared.end.End.{End}
use Rattle.command_ends.specs.declared.end.End.TheVariants as ends
use Rattle.command_ends.specs.declared.fault.Fault.{Fault}
use Rattle.driver.specs.Events.{Event, Aside, asked, took, stored, aside, heard, hailed, rolled, coming, sending, coming_by, going_by, passing_behind, waiting_behind, Takes, HasCause, ended}
use Rattle.wire.proofs.Passing.{Passes-nil, Passes-then}
use Rattle.driver.proofs.Stretches.{settling_kept, takes_kept, takes_then, passing_then, waiting_then, ends_badly, cause_then, refused_cause, unstored_cause}
use Rattle.driver.specs.declared.calls.Call.{Call}
use Rattle.driver.specs.declared.calls.Call.TheVariants.{Offer, Withdraw, Seek}
use Rattle.driver.specs.Calls.{call_of, IsAsked}
use Rattle.driver.specs.Fates.{ByStored, Fates}
use Rattle.driver.specs.TakingIn.{Rests}
use Rattle.driver.specs.Todos.{IsGoodSending, IsHailing}
use Rattle.driver.specs.Driving.{Post, post, post_with, Fate, Known, known, Drove, Anyhow, AtClock, Then, Held, ReceivesNext, SameHands, HasEnded, HandsOutLast, EndsHandedOn, IsUnstored, WasSent, HandsOn, Holds, IsReceiving, IsTakingIn, IsFallingDue, IsSeeingToDue, IsTakingUp, IsDueUp, IsStoring, no_step}
use Rattle.driver.specs.declared.driver.Driver.{Driver}
use Rattle.driver.specs.declared.group.Group.{Group}
use Rattle.driver.specs.declared.sink.TakenStep.{TakenStep}

-- what holds whatever the result is
pub always : {A E : Type 0} (r : Result A E) (P : Type 0) → P → OnOk r P
always (Ok x) P p = p
always (Err e) P p = tt

-- a socket that fails ends nothing as done
pub socket_ends_badly : ends.Socket ≡ ends.Done → ⊥
socket_ends_badly e = cc

writing_cause : (log : List Event) (f : Fault) (old new : Bool) → IsOfWriting f → new ≡ old → HasCause log old new (end_of f)
writing_cause log f old new (inl is) same = subst (λ (f : Fault). HasCause log old new (end_of f)) (sym is) (inl same)
writing_cause log f old new (inr is) same = subst (λ (f : Fault). HasCause log old new (end_of f)) (sym is) same

-- what happened where nothing happened before
pub behind_none : (G : List Event → Type 0) (log : List Event) → Then (λ (first : List Event). first ≡ []) G log → G log
behind_none G log it = subst G (sym (it.joined ∙ ap (λ (l : List Event). l ++ it.last) it.is_first)) it.is_last

-- the forms of steps that were taken, and wait
pub taken_up : (now : ℕ) (a : Answer) (call : StationCall) → IsReceiving now call → IsTakingUp now (took call (Ok a) ∷ [])
taken_up now a call it = inr (it.0, a, ap (λ (x : StationCall). took x (Ok a) ∷ []) it.1)

pub due_up : (now : ℕ) (a : Answer) (call : StationCall) → IsFallingDue now call → IsDueUp now (took call (Ok a) ∷ [])
due_up now a call it = inr (a, ap (λ (x : StationCall). took x (Ok a) ∷ []) it)

-- the forms of steps that were handed on
pub received : (now : ℕ) (a : Answer) (call : StationCall) → IsReceiving now call → IsTakingIn now (took call (Ok a) ∷ stored (Ok tt) ∷ [])
received now a call it = inr (inl (it.0, inl (a, ap (λ (x : StationCall). took x (Ok a) ∷ stored (Ok tt) ∷ []) it.1)))

pub fell_due : (now : ℕ) (a : Answer) (call : StationCall) → IsFallingDue now call → IsSeeingToDue now (took call (Ok a) ∷ stored (Ok tt) ∷ [])
fell_due now a call it = inl (a, ap (λ (x : StationCall). took x (Ok a) ∷ stored (Ok tt) ∷ []) it)

pub was_asked : (c : Call) (now : ℕ) (a : Answer) (call : StationCall) → call ≡ call_of c now → IsAsked c now (took call (Ok a) ∷ stored (Ok tt) ∷ [])
was_asked c now a call it = (a, ap (λ (x : StationCall). took x (Ok a) ∷ stored (Ok tt) ∷ []) it)

-- what ended so answered nothing else
pub no_result : {A : Type 0} (r : Result A Fault) (f : Fault) (P : Type 0) → ended r ≡ end_of f → OnOk r P
no_result (Ok x) f P is = absurd (ends_badly f (sym is))
no_result (Err e) f P is = tt

-- what holds of a good result holds where it ended well
pub went_on : {A : Type 0} (r : Result A Fault) (P : Type 0) → OnOk r P → ended r ≡ ends.Done → P
went_on (Ok x) P p done = p
went_on (Err f) P p done = absurd (ends_badly f done)

-- and what holds where it ended well holds of a good result
pub when_well : {A : Type 0} (r : Result A Fault) (P : Type 0) → (ended r ≡ ends.Done → P) → OnOk r P
when_well (Ok x) P p = p refl
when_well (Err f) P p = tt

-- a driver has the hands that it had before both
pub hands_then : {R N S : Type 0} (a b c : Driver R N S) → SameHands a b → SameHands b c → SameHands a c
hands_then a b c p q = (q.0 ∙ p.0, q.1 ∙ p.1)

-- a group that has ended has no steps
pub none_left_in : {S A : Type 0} (Handed : S → S → List TakenStep → Type 0) (r : Result A Fault) (old new : S) (before after : Group)
    → OnOk r (HasEnded Handed old new before after) → OnOk r (after.steps.items ≡ [])
none_left_in Handed (Ok x) old new before after it = it.none
none_left_in Handed (Err f) old new before after it = tt

-- and what it released went outside last
pub ended_last : {S A : Type 0} (Handed : S → S → List TakenStep → Type 0) (r : Result A Fault) (old new : S) (before after : Group)
    → OnOk r (HasEnded Handed old new before after) → OnOk r (EndsHandedOn Handed new after)
ended_last Handed (Ok x) old new before after it = record { handed = (old, before.steps.items, it.handed); none = it.none }
ended_last Handed (Err f) old new before after it = tt

-- a run ends so, too
pub handed_last : {S A : Type 0} (Handed : S → S → List TakenStep → Type 0) (r : Result A Fault) (new : S) (after : Group)
    → OnOk r (EndsHandedOn Handed new after) → OnOk r (HandsOutLast Handed new)
handed_last Handed (Ok x) new after it = it.handed
handed_last Handed (Err f) new after it = tt

-- no step of its group is left
pub none_after : {S A : Type 0} (Handed : S → S → List TakenStep → Type 0) (r : Result A Fault) (new : S) (after : Group)
    → OnOk r (EndsHandedOn Handed new after) → ended r ≡ ends.Done → after.steps.items ≡ []
none_after Handed (Ok x) new after it done = it.none
none_after Handed (Err f) new after it done = absurd (ends_badly f done)

-- nothing comes for what is asked
pub asked_passes : (call : Call) (now : ℕ) (a : Trace) → Passes a a (coming (call_of call now))
asked_passes (Offer number tape) now a = Passes-nil a
asked_passes (Withdraw number) now a = Passes-nil a
asked_passes (Seek number) now a = Passes-nil a

-- bytes that spell a recall or a roll, sent to the member that it is to, are what passes where it is sent
sent_so : {N : Type 0} (passed : N → Trace) (was is : N) (to m : ℕ) (bytes whole : List ℕ) → bytes ≡ whole → m ≡ to
    → Passes (passed was) (passed is) (sent to bytes ∷ []) → Passes (passed was) (passed is) (sent m whole ∷ [])
sent_so passed was is to m bytes whole spelled same p =
    subst (λ (l : List ℕ). Passes (passed was) (passed is) (sent m l ∷ [])) spelled
    (subst (λ (n : ℕ). Passes (passed was) (passed is) (sent n bytes ∷ [])) (sym same) p)

module _ {R N S : Type 0} (k : Known R N S) where
  -- the form of a log that ended well, seen as another
  pub of_form : (old new : Post R N S) (end : End) (F G : List Event → Type 0) → ((log : List Event) → end ≡ ends.Done → F log → G log) → Drove k old new end F → Drove k old new end G
  of_form old new end F G turn a = record {
    log = a.log;
    driven = a.driven;
    form = λ done. turn a.log done (a.form done);
  }

  -- a moment in which nothing passed over the wire
  pub quiet_behind : (old : Post R N S) (s : Station R) (w v : N) (o : S) (q : List Passed) (end : End) (F : List Event → Type 0) → Passes (k.passed w) (k.passed v) []
      → Drove k old (post_with s w o q) end F → Drove k old (post_with s v o q) end F
  quiet_behind old s w v o q end F p a = record {
    log = a.log;
    driven = record {
      steps = a.driven.steps;
      passes =
          subst (λ (l : List Passed). Passes (k.passed old.wire) (k.passed v) l) (append-nil (passing_behind old.waits a.log))
          (Passes-then (k.passed old.wire) (k.passed w) (k.passed v) (passing_behind old.waits a.log) [] a.driven.passes p);
      waits = a.driven.waits;
      front = a.driven.front;
      whole = a.driven.whole;
      cause = a.driven.cause;
    };
    form = a.form;
  }

  -- the same end, as it is answered
  pub answered : (old new : Post R N S) (end same : End) (F : List Event → Type 0) → same ≡ end → Drove k old new end F → Drove k old new same F
  answered old new end same F is a = subst (λ (e : End). Drove k old new e F) (sym is) a

  -- the same station, wire and sink at the end
  pub left_so : (old : Post R N S) (s t : Station R) (w v : N) (o u : S) (end : End) (F : List Event → Type 0) → t ≡ s → v ≡ w → u ≡ o → Drove k old (post s w o) end F → Drove k old (post t v u) end F
  left_so old s t w v o u end F p q r a =
      subst (λ (x : Station R). Drove k old (post x v u) end F) (sym p)
      (subst (λ (x : N). Drove k old (post s x u) end F) (sym q) (subst (λ (x : S). Drove k old (post s w x) end F) (sym r) a))

  -- the same station, wire and sink at the end
  pub left_with : (old : Post R N S) (s t : Station R) (w v : N) (o u : S) (q : List Passed) (end : End) (F : List Event → Type 0) → t ≡ s → v ≡ w → u ≡ o
      → Drove k old (post_with s w o q) end F → Drove k old (post_with t v u q) end F
  left_with old s t w v o u q end F is is' is'' a =
      subst (λ (x : Station R). Drove k old (post_with x v u q) end F) (sym is)
      (subst (λ (x : N). Drove k old (post_with s x u q) end F) (sym is') (subst (λ (x : S). Drove k old (post_with s w x q) end F) (sym is'') a))

  -- the same waits at the start, which is nothing
  pub waiting_from : (s : Station R) (w : N) (o : S) (q : List Passed) (new : Post R N S) (end : End) (F : List Event → Type 0) → q ≡ []
      → Drove k (post_with s w o q) new end F → Drove k (post s w o) new end F
  waiting_from s w o q new end F none a = subst (λ (l : List Passed). Drove k (post_with s w o l) new end F) none a

  -- nothing waits in the end, which is what is left
  pub none_left : (old : Post R N S) (s : Station R) (w : N) (o : S) (q : List Passed) (end : End) (F : List Event → Type 0) → q ≡ []
      → Drove k old (post s w o) end F → Drove k old (post_with s w o q) end F
  none_left old s w o q end F none a = subst (λ (l : List Passed). Drove k old (post_with s w o l) end F) (sym none) a

  -- at a bad end nothing more is sent, and at a good one nothing waits
  pub none_waits : (old : Post R N S) (s : Station R) (w : N) (o : S) (q : List Passed) (end : End) (F : List Event → Type 0) → (end ≡ ends.Done → q ≡ [])
      → Drove k old (post_with s w o q) end F → Drove k old (post s w o) end F
  none_waits old s w o q end F none a = record {
    log = a.log;
    driven = record {
      steps = a.driven.steps;
      passes = a.driven.passes;
      waits = λ done. sym (none done) ∙ a.driven.waits done;
      front = a.driven.front;
      whole = a.driven.whole;
      cause = a.driven.cause;
    };
    form = a.form;
  }

  -- rows that are kept in the end were kept before
  pub drove_kept : (old new : Post R N S) (end : End) (F : List Event → Type 0) → Drove k old new end F → k.rows.kept new.station.rows → k.rows.kept old.station.rows
  drove_kept old new end F a kept = takes_kept k.rows k.is_settled old.station new.station a.log (a.driven.steps kept) kept

  -- what ended well has not stopped its station
  pub stays : (old new : Post R N S) (end : End) (F : List Event → Type 0) → end ≡ ends.Done → Drove k old new end F → new.station.stopped ≡ old.station.stopped
  stays old new end F is a = subst (λ (e : End). HasCause a.log old.station.stopped new.station.stopped e) is a.driven.cause

-- from here on the sink came as far as this
pub came_from : {R N S : Type 0} (k : Known R N S) (old new : Post R N S) (s : Station R) (w : N) (o : S) (end : End) (F : List Event → Type 0) → old ≡ post s w o
    → Drove k old new end F → (log : List Event) × k.fate.front o new.sink log
came_from {R = R} {N = N} {S = S} k old new s w o end F is d =
    let here : Drove k (post s w o) new end F = subst (λ (p : Post R N S). Drove k p new end F) is d in (here.log, here.driven.front)

-- what became of one sink, from here on, told as what became of another
pub seen_from : {R N S T : Type 0} (k : Known R N S) (fate : Fate T) (old new : Post R N S) (s : Station R) (w : N) (o : S) (end : End) (F : List Event → Type 0) (a b : T) → old ≡ post s w o
    → Drove k old new end F
    → ((log : List Event) → k.fate.front o new.sink log → fate.front a b log) → ((log : List Event) → end ≡ ends.Done → k.fate.lived o new.sink log → fate.lived a b log)
    → Drove (known k.rows k.is_settled k.passed fate) (post s w a) (post_with new.station new.wire b new.waits) end F
seen_from {R = R} {N = N} {S = S} k fate old new s w o end F a b is d front lived =
    let here : Drove k (post s w o) new end F = subst (λ (p : Post R N S). Drove k p new end F) is d in
    record {
      log = here.log;
      driven = record {
        steps = here.driven.steps;
        passes = here.driven.passes;
        waits = here.driven.waits;
        front = front here.log here.driven.front;
        whole = λ done. lived here.log done (here.driven.whole done);
        cause = here.driven.cause;
      };
      form = here.form;
    }

module _ {R N S : Type 0} (k : Known R N S) (may : S → StationCall → Type 0) (fates : Fates k.fate.lived k.fate.front may) where
  -- nothing was taken in, handed out or released
  pub moved : (s : Station R) (w v : N) (o u : S) (q : List Passed) (end : End) (F : List Event → Type 0)
      → Passes (k.passed w) (k.passed v) [] → k.fate.lived o u [] → (end ≡ ends.Done → F []) → HasCause [] s.stopped s.stopped end
      → Drove k (post_with s w o q) (post_with s v u q) end F
  moved s w v o u q end F p lived form cause = record {
    log = [];
    driven = record {
      steps = λ kept. refl;
      passes = p;
      waits = λ done. refl;
      front = fates.begins o u [] lived;
      whole = λ done. lived;
      cause = cause;
    };
    form = form;
  }

  -- the same, and nothing became of the sink
  pub nothing_behind : (s : Station R) (w v : N) (o : S) (q : List Passed) (end : End) (F : List Event → Type 0)
      → Passes (k.passed w) (k.passed v) [] → (end ≡ ends.Done → F []) → HasCause [] s.stopped s.stopped end → Drove k (post_with s w o q) (post_with s v o q) end F
  nothing_behind s w v o q end F p form cause = moved s w v o o q end F p (fates.rests o) form cause

  -- the same, where nothing waits
  pub nothing : (s : Station R) (w v : N) (o : S) (end : End) (F : List Event → Type 0)
      → Passes (k.passed w) (k.passed v) [] → (end ≡ ends.Done → F []) → HasCause [] s.stopped s.stopped end → Drove k (post s w o) (post s v o) end F
  nothing s w v o end F p form cause = nothing_behind s w v o [] end F p form cause

  -- a fault before anything was taken in or handed out
  pub untouched : (s : Station R) (w : N) (o : S) (end same : End) (F : List Event → Type 0) → same ≡ end → (same ≡ ends.Done → ⊥) → HasCause [] s.stopped s.stopped end
      → Drove k (post s w o) (post s w o) same F
  untouched s w o end same F is fails cause =
      nothing s w w o same F (Passes-nil (k.passed w)) (λ done. absurd (fails done)) (subst (λ (e : End). HasCause [] s.stopped s.stopped e) (sym is) cause)

  -- nothing came
  pub rested : (s t : Station R) (w v : N) (o : S) (q : List Passed) (end : End) (F : List Event → Type 0)
      → Rests k.passed s t w v → (end ≡ ends.Done → F []) → HasCause [] s.stopped s.stopped end → Drove k (post_with s w o q) (post_with t v o q) end F
  rested s t w v o q end F rests form cause =
      subst (λ (x : Station R). Drove k (post_with s w o q) (post_with x v o q) end F) (sym rests.same) (nothing_behind s w v o q end F rests.passes form cause)

  -- what came beside the packets was heard, and the station stayed
  pub passed_by : (rest : List ℕ) (s t : Station R) (w v : N) (o u : S) (q : List Passed) (F : List Event → Type 0)
      → t ≡ s → Passes (k.passed w) (k.passed v) (coming_by (heard rest)) → k.fate.lived o u [] → F (aside (heard rest) ∷ [])
      → Drove k (post_with s w o q) (post_with t v u q) ends.Done F
  passed_by rest s t w v o u q F same p lived form =
      let log = aside (heard rest) ∷ [] in
      let whole = fates.joins o o u log [] (fates.besides o (heard rest)) lived in
      subst (λ (x : Station R). Drove k (post_with s w o q) (post_with x v u q) ends.Done F) (sym same) (record {
        log = log;
        driven = record {
          steps = λ kept. refl;
          passes = p;
          waits = λ done. sym (append-nil q);
          front = fates.begins o u log whole;
          whole = λ done. whole;
          cause = refl;
        };
        form = λ done. form;
      })

  -- a step that was refused: passed over, or the cause of the end
  pub refused : {A : Type 0} (call : StationCall) (refusal : StepRefusal) (s t : Station R) (w v : N) (o u : S) (q : List Passed) (r : Result A Fault) (F : List Event → Type 0)
      → may o call → k.fate.lived o u []
      → (k.rows.kept t.rows → IsStep k.rows call s t (Err refusal)) → Passes (k.passed w) (k.passed v) (coming call)
      → t.stopped ≡ stopped_after s.stopped (Err refusal) → OnOk r (tears refusal ≡ false) → IfErr r (λ f. end_of f ≡ end_of_step refusal)
      → OnOk r (F (took call (Err refusal) ∷ [])) → Drove k (post_with s w o q) (post_with t v u q) (ended r) F
  refused {A = A} call refusal s t w v o u q r F m rest step p stops goes_on cause form =
      let log = took call (Err refusal) ∷ [] in
      let lived = fates.joins o o u log [] (fates.refuses o call refusal m) rest in
      record {
        log = log;
        driven = record {
          steps = λ kept. (t, step kept, refl);
          passes = subst (λ (l : List Passed). Passes (k.passed w) (k.passed v) l) (sym (append-nil (coming call))) p;
          waits = λ done. sym (append-nil q);
          front = fates.begins o u log lived;
          whole = λ done. lived;
          cause = its_cause r goes_on cause;
        };
        form = its_form r form;
      }
    where
      its_cause : (r : Result A Fault) → OnOk r (tears refusal ≡ false) → IfErr r (λ f. end_of f ≡ end_of_step refusal) → HasCause (took call (Err refusal) ∷ []) s.stopped t.stopped (ended r)
      its_cause (Ok done) on cause = stops ∙ ap (λ (b : Bool). b || s.stopped) on
      its_cause (Err f) on cause =
          subst (λ (e : End). HasCause (took call (Err refusal) ∷ []) s.stopped t.stopped e) (sym cause) (refused_cause call refusal s.stopped t.stopped stops)

      its_form : (r : Result A Fault) → OnOk r (F (took call (Err refusal) ∷ [])) → ended r ≡ ends.Done → F (took call (Err refusal) ∷ [])
      its_form (Ok done) form is = form
      its_form (Err f) form is = absurd (ends_badly f is)

  -- a step that was refused, which is the fault
  pub denied : (call : StationCall) (refusal : StepRefusal) (s t : Station R) (w : N) (o : S) (f : Fault) (F : List Event → Type 0)
      → may o call → (k.rows.kept t.rows → IsStep k.rows call s t (Err refusal)) → Passes (k.passed w) (k.passed w) (coming call)
      → t.stopped ≡ stopped_after s.stopped (Err refusal) → end_of f ≡ end_of_step refusal → Drove k (post s w o) (post t w o) (end_of f) F
  denied call refusal s t w o f F m step p stops cause = refused {A = Unit {0}} call refusal s t w w o o [] (Err f) F m (fates.rests o) step p stops tt cause tt

  -- a step was taken, or none was, as it is answered
  pub took_one : (Kind : StationCall → Type 0) (F : List Event → Type 0) (old new : Post R N S) (r : Result (Option TakenStep) Fault) (step : TakenStep) → r ≡ Ok (Some step)
      → ReceivesNext k may Kind F old new r → Held k may Kind old new step.answer
  took_one Kind F old new r step is a = subst (λ (x : Result (Option TakenStep) Fault). ReceivesNext k may Kind F old new x) is a

  pub took_no_more : (Kind : StationCall → Type 0) (F : List Event → Type 0) (old new : Post R N S) (r : Result (Option TakenStep) Fault) → r ≡ Ok None
      → ReceivesNext k may Kind F old new r → Drove k old new ends.Done F
  took_no_more Kind F old new r is a = subst (λ (x : Result (Option TakenStep) Fault). ReceivesNext k may Kind F old new x) is a

  -- no step was taken, as it is answered
  pub took_none : (Kind : StationCall → Type 0) (F : List Event → Type 0) (old new : Post R N S) (r : Result (Unit {0}) Fault) (o : Result (Option TakenStep) Fault) → o ≡ no_step r
      → Drove k old new (ended r) F → ReceivesNext k may Kind F old new o
  took_none Kind F old new (Ok done) o is a = subst (λ (x : Result (Option TakenStep) Fault). ReceivesNext k may Kind F old new x) (sym is) a
  took_none Kind F old new (Err f) o is a = subst (λ (x : Result (Option TakenStep) Fault). ReceivesNext k may Kind F old new x) (sym is) a

  -- a step that was taken, of which nothing was handed on yet
  pub held : (call : StationCall) (Kind : StationCall → Type 0) (a : Answer) (s t : Station R) (w v : N) (o u : S) (q : List Passed) → Kind call
      → may u call → (k.rows.kept t.rows → IsStep k.rows call s t (Ok a)) → Passes (k.passed w) (k.passed v) (coming call) → k.fate.lived o u []
      → t.stopped ≡ s.stopped → Held k may Kind (post_with s w o q) (post_with t v u q) a
  held call Kind a s t w v o u q kind m step p rests stays =
      record { call = call; kind = kind; allowed = m; step = step; passes = p; rests = rests; stays = stays }

  -- it was noted, and waits behind what waited; or there was no memory for it
  pub noted : (call : StationCall) (a : Answer) (s t : Station R) (w v : N) (o u x : S) (q y : List Passed) (r : Result (Unit {0}) Fault) (F : List Event → Type 0)
      → k.fate.lived o u [] → may u call → (k.rows.kept t.rows → IsStep k.rows call s t (Ok a)) → Passes (k.passed w) (k.passed v) (coming call)
      → Holds k.fate may u x q y a r → t.stopped ≡ s.stopped → F (took call (Ok a) ∷ [])
      → Drove k (post_with s w o q) (post_with t v x y) (ended r) F
  noted call a s t w v o u x q y r F rest m step p holds same form = go r holds
    where
      log : List Event
      log = took call (Ok a) ∷ []

      passes : Passes (k.passed w) (k.passed v) (passing_behind q log)
      passes = subst (λ (l : List Passed). Passes (k.passed w) (k.passed v) l) (sym (append-nil (coming call))) p

      go : (r : Result (Unit {0}) Fault) → Holds k.fate may u x q y a r → Drove k (post_with s w o q) (post_with t v x y) (ended r) F
      go (Ok done) holds =
          let lived = fates.joins o u x [] log rest (holds.0 call m) in
          record {
            log = log;
            driven = record {
              steps = λ kept. (t, step kept, refl);
              passes = passes;
              waits = λ done. holds.1;
              front = fates.begins o x log lived;
              whole = λ done. lived;
              cause = same;
            };
            form = λ done. form;
          }
      go (Err f) holds = record {
        log = log;
        driven = record {
          steps = λ kept. (t, step kept, refl);
          passes = passes;
          waits = λ done. absurd (ends_badly f done);
          front = fates.joins_front o u x [] log rest (holds.0 call m);
          whole = λ done. absurd (ends_badly f done);
          cause = writing_cause log f s.stopped t.stopped holds.1 same;
        };
        form = λ done. absurd (ends_badly f done);
      }

  -- the same of a step that was taken up
  pub held_back : (Kind : StationCall → Type 0) (F : List Event → Type 0) (a : Answer) (s t : Station R) (w v : N) (o u x : S) (q y : List Passed) (r : Result (Unit {0}) Fault)
      → Held k may Kind (post_with s w o q) (post_with t v u q) a → Holds k.fate may u x q y a r → ((call : StationCall) → Kind call → F (took call (Ok a) ∷ []))
      → Drove k (post_with s w o q) (post_with t v x y) (ended r) F
  held_back Kind F a s t w v o u x q y r h holds form = noted h.call a s t w v o u x q y r F h.rests h.allowed h.step h.passes holds h.stays (form h.call h.kind)

  -- what the station saved was stored, and what waited was handed on
  pub settled_so : (s t : Station R) (w x v : N) (o y u : S) (q : List Passed) → x ≡ w → y ≡ o → Settling k.rows k.is_settled s t (Ok tt) → Passes (k.passed x) (k.passed v) q
      → k.fate.lived y u (stored (Ok tt) ∷ []) → Drove k (post_with s w o q) (post t v u) ends.Done IsStoring
  settled_so s t w x v o y u q is is' settled p rest =
      let log = stored (Ok tt) ∷ [] in
      let lived : k.fate.lived o u log = subst (λ (z : S). k.fate.lived z u log) is' rest in
      let over : Passes (k.passed w) (k.passed v) q = subst (λ (z : N). Passes (k.passed z) (k.passed v) q) is p in
      record {
        log = log;
        driven = record {
          steps = λ kept. (t, settled, refl);
          passes = subst (λ (l : List Passed). Passes (k.passed w) (k.passed v) l) (sym (append-nil q)) over;
          waits = λ done. refl;
          front = fates.begins o u log lived;
          whole = λ done. lived;
          cause = ap (λ (x : Station R). x.stopped) settled.reads.only_rows;
        };
        form = λ done. refl;
      }

  -- it could not be stored, and nothing was handed on
  pub unstored_so : (s t : Station R) (w : N) (o : S) (q x : List Passed) (f : Fault) (F : List Event → Type 0) → IsUnstored k.rows k.is_settled s t f
      → Drove k (post_with s w o q) (post_with t w o x) (end_of f) F
  unstored_so s t w o q x f F unstored =
      let log = stored (Err unstored.0) ∷ [] in
      record {
        log = log;
        driven = record {
          steps = λ kept. (t, unstored.1, refl);
          passes = Passes-nil (k.passed w);
          waits = λ done. absurd (ends_badly f done);
          front = fates.begins o o log (fates.unstored o unstored.0);
          whole = λ done. absurd (ends_badly f done);
          cause = subst (λ (e : End). HasCause log s.stopped t.stopped e) (sym unstored.2) (unstored_cause k.rows k.is_settled s t unstored.0 unstored.1);
        };
        form = λ done. absurd (ends_badly f done);
      }

  -- bytes that spell a recall or a roll were sent to the member that it is to, behind what waited, once what the station saved was stored
  pub hailed_so : (to : ℕ) (bytes : List ℕ) (s t : Station R) (w v z : N) (o u : S) (q : List Passed) → IsGoodSending to bytes
      → Drove k (post_with s w o q) (post t v u) ends.Done IsStoring → Passes (k.passed v) (k.passed z) (sent to bytes ∷ [])
      → Drove k (post_with s w o q) (post t z u) ends.Done (IsHailing to bytes)
  hailed_so to bytes s t w v z o u q good a p = go good
    where
      last : List Event
      last = stored (Ok tt) ∷ []

      is : a.log ≡ last
      is = a.form refl

      by : (what : Aside) (m : ℕ) (whole : List ℕ) → going_by what ≡ sent m whole ∷ [] → coming_by what ≡ [] → bytes ≡ whole → m ≡ to
          → IsHailing to bytes (aside what ∷ last) → Drove k (post_with s w o q) (post t z u) ends.Done (IsHailing to bytes)
      by what m whole goes comes spelled same form =
          let before : Passes (k.passed w) (k.passed v) (passing_behind q last) = subst (λ (l : List Event). Passes (k.passed w) (k.passed v) (passing_behind q l)) is a.driven.passes in
          let over : Passes (k.passed w) (k.passed v) q = subst (λ (l : List Passed). Passes (k.passed w) (k.passed v) l) (append-nil q) before in
          let out : Passes (k.passed w) (k.passed z) (q ++ sent m whole ∷ []) =
          Passes-then (k.passed w) (k.passed v) (k.passed z) q (sent m whole ∷ []) over (sent_so k.passed v z to m bytes whole spelled same p) in
          let lived : k.fate.lived o u (aside what ∷ last) =
          fates.joins o o u (aside what ∷ []) last (fates.besides o what) (subst (λ (l : List Event). k.fate.lived o u l) is (a.driven.whole refl)) in
          record {
            log = aside what ∷ last;
            driven = record {
              steps = λ kept. subst (λ (l : List Event). Takes k.rows k.is_settled s t l) is (a.driven.steps kept);
              passes =
                  subst (λ (l : List Passed). Passes (k.passed w) (k.passed z) (l ++ ((q ++ going_by what) ++ []))) (sym comes)
                  (subst (λ (l : List Passed). Passes (k.passed w) (k.passed z) ((q ++ l) ++ [])) (sym goes)
                  (subst (λ (l : List Passed). Passes (k.passed w) (k.passed z) l) (sym (append-nil (q ++ sent m whole ∷ []))) out));
              waits = λ done. refl;
              front = fates.begins o u (aside what ∷ last) lived;
              whole = λ done. lived;
              cause = a.driven.cause;
            };
            form = λ done. form;
          }

      go : IsGoodSending to bytes → Drove k (post_with s w o q) (post t z u) ends.Done (IsHailing to bytes)
      go (inl r) = by (hailed r.0) r.0.to (spelling r.0) refl refl r.1 r.2 (inl (r.0, r.1, r.2, refl))
      go (inr r) = by (rolled r.0) r.0.to (roll_spelling r.0) refl refl r.1 r.2 (inr (r.0, r.1, r.2, refl))

  -- the same, where nothing waits any more
  pub hailed_behind : (to : ℕ) (bytes : List ℕ) (s t : Station R) (w v z : N) (o u : S) (q r : List Passed) → r ≡ [] → IsGoodSending to bytes
      → Drove k (post_with s w o q) (post_with t v u r) ends.Done IsStoring → Passes (k.passed v) (k.passed z) (sent to bytes ∷ [])
      → Drove k (post_with s w o q) (post_with t z u r) ends.Done (IsHailing to bytes)
  hailed_behind to bytes s t w v z o u q r none good a p =
      subst (λ (l : List Passed). Drove k (post_with s w o q) (post_with t z u l) ends.Done (IsHailing to bytes)) (sym none)
      (hailed_so to bytes s t w v z o u q good (subst (λ (l : List Passed). Drove k (post_with s w o q) (post_with t v u l) ends.Done IsStoring) none a) p)

  -- what was stored and sent was handed on, as far as its release was taken
  pub hands_on : (a : Answer) (s t : Station R) (w x v : N) (o y u : S) (r : Result (Unit {0}) Fault) → x ≡ w → y ≡ o → Settling k.rows k.is_settled s t (Ok tt)
      → Passes (k.passed x) (k.passed v) (sending a.out.items) → OnOk r (ByStored k.fate.lived may y u a) → OnErr r (ByStored k.fate.front may y u a) → IfErr r IsOfWriting
      → HandsOn k may (post s w o) (post t v u) a r
  hands_on a s t w x v o y u r is is' settled p ok err fault = go r ok err fault
    where
      was : WasSent k (post s w o) (post t v u) a
      was = record { settled = settled; passes = subst (λ (z : N). Passes (k.passed z) (k.passed v) (sending a.out.items)) is p }

      go : (r : Result (Unit {0}) Fault) → OnOk r (ByStored k.fate.lived may y u a) → OnErr r (ByStored k.fate.front may y u a) → IfErr r IsOfWriting
          → HandsOn k may (post s w o) (post t v u) a r
      go (Ok done) ok err fault = (was, subst (λ (z : S). ByStored k.fate.lived may z u a) is' ok)
      go (Err f) ok err fault = inr (was, subst (λ (z : S). ByStored k.fate.front may z u a) is' err, fault)

  -- where it was handed on, the station goes on as before
  pub on_goes : (a : Answer) (s t : Station R) (w v : N) (o u : S) (r : Result (Unit {0}) Fault) → HandsOn k may (post s w o) (post t v u) a r
      → s.stopped ≡ false → OnOk r (t.stopped ≡ false)
  on_goes a s t w v o u (Ok done) on goes = ap (λ (y : Station R). y.stopped) on.0.settled.reads.only_rows ∙ goes
  on_goes a s t w v o u (Err f) on goes = tt

  -- a step that was taken, and was handed on as far as its release was taken, or what it saved could not be stored
  pub handed : (Kind : StationCall → Type 0) (a : Answer) (s mid t : Station R) (w v z : N) (o u x : S) (r : Result (Unit {0}) Fault) (F : List Event → Type 0)
      → Held k may Kind (post s w o) (post mid v u) a → HandsOn k may (post mid v u) (post t z x) a r
      → ((call : StationCall) → Kind call → F (took call (Ok a) ∷ stored (Ok tt) ∷ [])) → Drove k (post s w o) (post t z x) (ended r) F
  handed Kind a s mid t w v z o u x r F h on form = go r on
    where
      log : List Event
      log = took h.call (Ok a) ∷ stored (Ok tt) ∷ []

      over : WasSent k (post mid v u) (post t z x) a → Passes (k.passed w) (k.passed z) (passing_behind [] log)
      over was =
          subst (λ (l : List Passed). Passes (k.passed w) (k.passed z) (coming h.call ++ l)) (sym (append-nil (sending a.out.items)))
          (Passes-then (k.passed w) (k.passed v) (k.passed z) (coming h.call) (sending a.out.items) h.passes was.passes)

      before : Settling k.rows k.is_settled mid t (Ok tt) → k.rows.kept t.rows → k.rows.kept mid.rows
      before settled kept = settling_kept k.rows k.is_settled mid t (Ok tt) settled kept

      same : Settling k.rows k.is_settled mid t (Ok tt) → t.stopped ≡ s.stopped
      same settled = ap (λ (y : Station R). y.stopped) settled.reads.only_rows ∙ h.stays

      go : (r : Result (Unit {0}) Fault) → HandsOn k may (post mid v u) (post t z x) a r → Drove k (post s w o) (post t z x) (ended r) F
      go (Ok done) on =
          let lived = fates.joins o u x [] log h.rests (on.1 h.call h.allowed) in
          record {
            log = log;
            driven = record {
              steps = λ kept. (mid, h.step (before on.0.settled kept), (t, on.0.settled, refl));
              passes = over on.0;
              waits = λ done. refl;
              front = fates.begins o x log lived;
              whole = λ done. lived;
              cause = same on.0.settled;
            };
            form = λ done. form h.call h.kind;
          }
      go (Err f) (inr on) = record {
        log = log;
        driven = record {
          steps = λ kept. (mid, h.step (before on.0.settled kept), (t, on.0.settled, refl));
          passes = over on.0;
          waits = λ done. absurd (ends_badly f done);
          front = fates.joins_front o u x [] log h.rests (on.1 h.call h.allowed);
          whole = λ done. absurd (ends_badly f done);
          cause = writing_cause log f s.stopped t.stopped on.2 (same on.0.settled);
        };
        form = λ done. absurd (ends_badly f done);
      }
      go (Err f) (inl on) =
          let refusal = on.unstored.0 in
          let first = took h.call (Ok a) ∷ [] in
          let last = stored (Err refusal) ∷ [] in
          record {
            log = first ++ last;
            driven = record {
              steps = λ kept. (mid, h.step (settling_kept k.rows k.is_settled mid t (Err refusal) on.unstored.1 kept), (t, on.unstored.1, refl));
              passes =
                  subst (λ (y : N). Passes (k.passed w) (k.passed y) (passing_behind [] (first ++ last))) (sym on.wire)
                  (subst (λ (l : List Passed). Passes (k.passed w) (k.passed v) l) (sym (append-nil (coming h.call))) h.passes);
              waits = λ done. absurd (ends_badly f done);
              front =
                  subst (λ (y : S). k.fate.front o y (first ++ last)) (sym on.sink)
                  (fates.joins_front o u u [] (first ++ last) h.rests (fates.withheld u h.call a refusal h.allowed));
              whole = λ done. absurd (ends_badly f done);
              cause =
                  subst (λ (e : End). HasCause (first ++ last) s.stopped t.stopped e) (sym on.unstored.2)
                  (cause_then first last s.stopped mid.stopped t.stopped (end_of_step refusal) h.stays (unstored_cause k.rows k.is_settled mid t refusal on.unstored.1));
            };
            form = λ done. absurd (ends_badly f done);
          }

  -- the clock was asked before
  pub clocked : (s : Station R) (w v : N) (o : S) (q : List Passed) (new : Post R N S) (now : ℕ) (end : End) (F : ℕ → List Event → Type 0)
      → Passes (k.passed w) (k.passed v) (told now ∷ []) → Drove k (post_with s v o q) new end (F now) → Drove k (post_with s w o q) new end (AtClock F)
  clocked s w v o q new now end F p b = record {
    log = asked now ∷ b.log;
    driven = record {
      steps = b.driven.steps;
      passes = Passes-then (k.passed w) (k.passed v) (k.passed new.wire) (told now ∷ []) (passing_behind q b.log) p b.driven.passes;
      waits = b.driven.waits;
      front = fates.joins_front o o new.sink (asked now ∷ []) b.log (fates.clock o now) b.driven.front;
      whole = λ done. fates.joins o o new.sink (asked now ∷ []) b.log (fates.clock o now) (b.driven.whole done);
      cause = cause_then (asked now ∷ []) b.log s.stopped s.stopped new.station.stopped end refl b.driven.cause;
    };
    form = λ done. (now, b.log, b.form done, refl);
  }

  -- the one, and then the other
  pub and_then : (old mid new : Post R N S) (end : End) (F G : List Event → Type 0) → Drove k old mid ends.Done F → Drove k mid new end G → Drove k old new end (Then F G)
  and_then old mid new end F G a b =
      let left : mid.waits ≡ waiting_behind old.waits a.log = a.driven.waits refl in
      let seen : Passes (k.passed mid.wire) (k.passed new.wire) (passing_behind (waiting_behind old.waits a.log) b.log) =
      subst (λ (l : List Passed). Passes (k.passed mid.wire) (k.passed new.wire) (passing_behind l b.log)) left b.driven.passes in
      record {
        log = a.log ++ b.log;
        driven = record {
          steps = λ kept. takes_then k.rows k.is_settled old.station mid.station new.station a.log b.log (a.driven.steps (drove_kept k mid new end G b kept)) (b.driven.steps kept);
          passes =
              subst (λ (l : List Passed). Passes (k.passed old.wire) (k.passed new.wire) l) (sym (passing_then old.waits a.log b.log))
              (Passes-then (k.passed old.wire) (k.passed mid.wire) (k.passed new.wire) (passing_behind old.waits a.log) (passing_behind (waiting_behind old.waits a.log) b.log)
              a.driven.passes seen);
          waits = λ done. b.driven.waits done ∙ ap (λ (l : List Passed). waiting_behind l b.log) left ∙ sym (waiting_then old.waits a.log b.log);
          front = fates.joins_front old.sink mid.sink new.sink a.log b.log (a.driven.whole refl) b.driven.front;
          whole = λ done. fates.joins old.sink mid.sink new.sink a.log b.log (a.driven.whole refl) (b.driven.whole done);
          cause = cause_then a.log b.log old.station.stopped mid.station.stopped new.station.stopped end a.driven.cause b.driven.cause;
        };
        form = λ done. record { first = a.log; last = b.log; is_first = a.form refl; is_last = b.form done; joined = refl };
      }

  -- the same, whatever happened
  pub then_any : (old mid new : Post R N S) (end : End) → Drove k old mid ends.Done Anyhow → Drove k mid new end Anyhow → Drove k old new end Anyhow
  then_any old mid new end a b = of_form k old new end (Then Anyhow Anyhow) Anyhow (λ log done form. tt) (and_then old mid new end Anyhow Anyhow a b)
