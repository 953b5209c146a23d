-- Each step leaves each member with entries that fit its version.
use Rattle.std.proofs.Common.{◌≡◌, ℕ, ◌⊎◌, inl, inr, refl, sym, ap, subst, ◌∙◌, List, [], Option, Some, None, Bool, true, false}
use Rattle.std.specs.Prelude.{Result, Ok, Err, if◌then◌else◌}
use Rattle.protocol.specs.Lists.{or_else}
use Rattle.protocol.specs.Ballots.{IsMember}
use Rattle.protocol.specs.Rows.{Vote, Row}
use Rattle.protocol.specs.Versions.{Version, One, Two}
use Rattle.protocol.specs.Packets.{Packet, Body, Prepare, Promise, Accept, Accepted, Nack}
use Rattle.protocol.specs.Marks.{Mark}
use Rattle.protocol.specs.Proposals.{next_due}
use Rattle.protocol.specs.Turn.{Turn, turn, Event, Offered, Sought, Came_due, Arrived, Recalled, number_of}
use Rattle.protocol.specs.Refusals.{Call, Offering, Seeking, Falling_due, Receiving, Recalling, Refusal, Stopped, wire_refusal, number_refusal, call_refusal, early_refusal, due_event, arrival, event_of}
use Rattle.protocol.specs.Circuit.{Circuit, hears, setup_of, seat_at, State, IsSameState, fresh, Outcome, with_at, saved, MayLeave, Leaves, store_before_save, memory_before_save, at_save, StepsTo, is_refused, is_idle, is_spent, is_done, is_torn, restarts, upgrades, upgrade_is_torn, is_armed, History, starts, goes_on}
use Rattle.protocol.specs.Circuit as circuit
use Rattle.protocol.specs.Fitting.{Fits, VoteFits, MarksFit, BodyFits, EventFits, TurnFits, SpellsWhatFits, MembersFit, HistoriesFit}
use Rattle.protocol_laws.proofs.Places.{with_at_cases, with_at-self, with_at-same, saved_cases, saved-self}
use Rattle.protocol_laws.proofs.Steps.{same_state, due_arrives}
use Rattle.protocol_laws.proofs.Fitting.{turns_fit}

pub first_none : {A : Type 0} (x y : Option A) → or_else x y ≡ None → x ≡ None
first_none None y e = refl
first_none (Some a) y e = let no : Some a ≡ None = e in cc

second_none : {A : Type 0} (x y : Option A) → or_else x y ≡ None → y ≡ None
second_none None y e = e
second_none (Some a) y e = let no : Some a ≡ None = e in cc

pub unstopped : {D F : Type 0} (b : Bool) (x : Option (Refusal D F)) → (if b then Some Stopped else x) ≡ None → x ≡ None
unstopped true x e = let no : Some Stopped ≡ None = e in cc
unstopped false x e = e

some_none : {A : Type 0} {a : A} → Some a ≡ None → ⊥
some_none e = cc

not_too_old : {D F : Type 0} (b : Bool) → wire_refusal {D = D} {F = F} b ≡ None → b ≡ true
not_too_old true e = refl
not_too_old false e = absurd (some_none e)

-- a vote or marks that fit version 1 fit version 2
vote_fits_two : (v : Version) (o : Option Vote) → VoteFits v o → VoteFits Two o
vote_fits_two v None f = tt
vote_fits_two v (Some u) f = refl

body_fits_two : (v : Version) (body : Body) → BodyFits v body → BodyFits Two body
body_fits_two v Prepare f = tt
body_fits_two v (Promise report) f = vote_fits_two v report f
body_fits_two v (Accept entry) f = refl
body_fits_two v (Accepted entry) f = refl
body_fits_two v (Nack p) f = tt

module _ {D G F : Type 0} (z : Circuit D G F) (spells : SpellsWhatFits z) where
  heard_fits : (v : Version) (bytes : List ℕ) (p : Packet) → hears z v bytes ≡ Ok p → BodyFits v p.body
  heard_fits One bytes p e = spells One bytes p e
  heard_fits Two bytes p e = body_fits_two (z.version_of bytes) p.body (spells (z.version_of bytes) bytes p e)

  -- what an unrefused call brings fits
  event_fits :
      (v : Version) (m : ℕ) (stopped : Bool) (marks : List Mark) (call : Call) (e : Event)
      → early_refusal (setup_of z v m) stopped marks call ≡ None → event_of (setup_of z v m) marks call ≡ Some e → EventFits v e
  event_fits v m stopped marks (Offering n entry now) e un is =
      let free = unstopped stopped (call_refusal (setup_of z v m) marks (Offering n entry now)) un in
      let f : Fits v entry = not_too_old _ (second_none (number_refusal n marks) _ free) in
      subst (λ (x : Event). EventFits v x) (inj is) f
    where
      inj : {x y : Event} → Some x ≡ Some y → x ≡ y
      inj h = cc
  event_fits v m stopped marks (Seeking n now) e un is = subst (λ (x : Event). EventFits v x) (inj is) tt
    where
      inj : {x y : Event} → Some x ≡ Some y → x ≡ y
      inj h = cc
  event_fits v m stopped marks (Falling_due now) (Arrived p i) un is = absurd (due_arrives (next_due m now marks) now p i is)
  event_fits v m stopped marks (Falling_due now) (Sought n i) un is = tt
  event_fits v m stopped marks (Falling_due now) (Came_due n i) un is = tt
  event_fits v m stopped marks (Falling_due now) (Offered n t i) un is = absurd (due_offers (next_due m now marks) is)
    where
      due_offers : (o : Option ℕ) → due_event o now ≡ Some (Offered n t i) → ⊥
      due_offers None h = cc
      due_offers (Some k) h = cc
  event_fits v m stopped marks (Falling_due now) (Recalled n to) un is = tt
  event_fits v m stopped marks (Recalling n to) e un is = subst (λ (x : Event). EventFits v x) (inj is) tt
    where
      inj : {x y : Event} → Some x ≡ Some y → x ≡ y
      inj h = cc
  event_fits v m stopped marks (Receiving bytes now) e un is = arrives (hears z v bytes) refl is
    where
      arrives : (r : Result Packet D) → hears z v bytes ≡ r → arrival r now ≡ Some e → EventFits v e
      arrives (Err fault) h i = cc
      arrives (Ok p) h i = let same : Arrived p now ≡ e = cc in subst (λ (x : Event). EventFits v x) same (heard_fits v bytes p h)

  no_marks : (v : Version) → MarksFit v []
  no_marks v = record { each = λ x i. absurd i }

  -- the rows with one that fits
  saved_fit :
      (w : State G F) → MembersFit w → (m n : ℕ) (row : Row) → VoteFits (w.version m) row.vote
      → (k j : ℕ) → VoteFits (w.version k) (saved w.rows m n row k j).vote
  saved_fit w h m n row f k j = elim (saved_cases w.rows m n (w.rows m n) row k j) [
    | inl e ↦ subst (λ (r : Row). VoteFits (w.version k) r.vote) (sym (e ∙ saved-self w.rows m n k j)) (h.rows k j)
    | inr e ↦ subst (λ (r : Row). VoteFits (w.version k) r.vote) (sym e.3) (subst (λ (x : ℕ). VoteFits (w.version x) row.vote) (sym e.0) f)
  ]

  -- the marks with some that fit
  marked_fit :
      (w : State G F) → MembersFit w → (m : ℕ) (marks : List Mark) → MarksFit (w.version m) marks
      → (k : ℕ) → MarksFit (w.version k) (with_at w.marks m marks k)
  marked_fit w h m marks f k = elim (with_at_cases w.marks m (w.marks m) marks k) [
    | inl e ↦ subst (λ (l : List Mark). MarksFit (w.version k) l) (sym (e ∙ with_at-self w.marks m k)) (h.marks k)
    | inr e ↦ subst (λ (l : List Mark). MarksFit (w.version k) l) (sym e.2) (subst (λ (x : ℕ). MarksFit (w.version x) marks) (sym e.0) f)
  ]

  -- a member whose marks are emptied goes on at this version, or at version 2
  turned_fit :
      (w : State G F) → MembersFit w → (m : ℕ) (v : Version) → (v ≡ w.version m) ⊎ (v ≡ Two)
      → (k : ℕ) → ((n : ℕ) → VoteFits (with_at w.version m v k) (w.rows k n).vote) × MarksFit (with_at w.version m v k) (with_at w.marks m [] k)
  turned_fit w h m v t k = elim (with_at_cases w.version m (w.version m) v k) [
    | inl e ↦ let same : with_at w.version m v k ≡ w.version k = e ∙ with_at-self w.version m k in
        subst (λ (x : Version). ((n : ℕ) → VoteFits x (w.rows k n).vote) × MarksFit x (with_at w.marks m [] k)) (sym same) (h.rows k, marked_fit w h m [] (no_marks (w.version m)) k)
    | inr e ↦ subst (λ (x : Version). ((n : ℕ) → VoteFits x (w.rows k n).vote) × MarksFit x (with_at w.marks m [] k)) (sym e.2)
        ((λ n. rows (w.version m) v t (w.rows k n).vote (subst (λ (x : ℕ). VoteFits (w.version x) (w.rows k n).vote) e.0 (h.rows k n))), emptied e.0)
  ]
    where
      rows : (a b : Version) → (b ≡ a) ⊎ (b ≡ Two) → (o : Option Vote) → VoteFits a o → VoteFits b o
      rows a b (inl same) o f = subst (λ (x : Version). VoteFits x o) (sym same) f
      rows a b (inr same) o f = subst (λ (x : Version). VoteFits x o) (sym same) (vote_fits_two a o f)

      emptied : k ≡ m → MarksFit v (with_at w.marks m [] k)
      emptied same = subst (λ (l : List Mark). MarksFit v l) (sym (ap (λ (x : ℕ). with_at w.marks m [] x) same ∙ with_at-same w.marks m [])) (no_marks v)

  may_leave : {A : Type 0} (armed : Option Bool) (o : Outcome D F) (before after now : A) → MayLeave armed o before after now → (now ≡ before) ⊎ (now ≡ after)
  may_leave (Some false) o before after now h = inl h.1
  may_leave (Some true) o before after now h = elim h [ inl x ↦ inr x.1 | inr x ↦ x.1 ]
  may_leave None o before after now h = h.1

  pub taken_fits :
      (w : State G F) → MembersFit w → (m : ℕ) (call : Call) (e : Event) (t : Turn) → IsMember z.count m
      → early_refusal (setup_of z (w.version m) m) (w.is_stopped m) (w.marks m) call ≡ None
      → event_of (setup_of z (w.version m) m) (w.marks m) call ≡ Some e
      → turn (seat_at z m) (w.marks m) (w.rows m (number_of e)) e ≡ Some t → TurnFits (w.version m) t
  taken_fits w h m call e t member un event is =
      turns_fit (w.version m) (seat_at z m) (w.marks m) (w.rows m (number_of e)) e t member is (h.marks m) (h.rows m (number_of e))
      (event_fits (w.version m) m (w.is_stopped m) (w.marks m) call e un event)

  step_fits : (w : State G F) (s : circuit.Step) (o : Outcome D F) (after : State G F) → MembersFit w → StepsTo z w s o after → MembersFit after
  step_fits w s o after h (is_refused m call r task member refused how is) = subst (λ (x : State G F). MembersFit x) (sym (same_state is)) h
  step_fits w s o after h (is_idle m call task member unrefused event how is) = subst (λ (x : State G F). MembersFit x) (sym (same_state is)) h
  step_fits w s o after h (is_spent m call e task member unrefused event turn how is) = subst (λ (x : State G F). MembersFit x) (sym (same_state is)) h
  step_fits w s o after h (is_done m call e t out task member unrefused event taken carried armed how is) =
      let f = taken_fits w h m call e t member (first_none _ _ unrefused) event taken in
      subst (λ (x : State G F). MembersFit x) (sym (same_state is)) (record { rows = saved_fit w h m (number_of e) t.row f.row; marks = marked_fit w h m t.marks f.marks })
  step_fits w s o after h (is_torn m call e row armed task member event leaves is) =
      subst (λ (x : State G F). MembersFit x) (sym (same_state is)) (record { rows = saved_fit w h m (number_of e) row (left leaves); marks = marked_fit w h m [] (no_marks (w.version m)) })
    where
      left : Leaves z w m call e o row armed → VoteFits (w.version m) row.vote
      left (store_before_save how un same stays) = subst (λ (r : Row). VoteFits (w.version m) r.vote) (sym same) (h.rows m (number_of e))
      left (memory_before_save how un same stays) = subst (λ (r : Row). VoteFits (w.version m) r.vote) (sym same) (h.rows m (number_of e))
      left (at_save t un taken changes may disarmed) = elim (may_leave (w.armed m) o (w.rows m (number_of e)) t.row row may) [
        | inl same ↦ subst (λ (r : Row). VoteFits (w.version m) r.vote) (sym same) (h.rows m (number_of e))
        | inr same ↦ subst (λ (r : Row). VoteFits (w.version m) r.vote) (sym same) (taken_fits w h m call e t member (first_none _ _ un) event taken).row
      ]
  step_fits w s o after h (restarts m member is_restart how is) =
      subst (λ (x : State G F). MembersFit x) (sym (same_state is)) (record { rows = h.rows; marks = marked_fit w h m [] (no_marks (w.version m)) })
  step_fits w s o after h (upgrades m member is_upgrade how unarmed is) =
      subst (λ (x : State G F). MembersFit x) (sym (same_state is)) (record { rows = λ k. (turned_fit w h m Two (inr refl) k).0; marks = λ k. (turned_fit w h m Two (inr refl) k).1 })
  step_fits w s o after h (upgrade_is_torn m v member is_upgrade turns is) =
      let t = may_leave (w.armed m) o (w.version m) Two v turns in
      subst (λ (x : State G F). MembersFit x) (sym (same_state is)) (record { rows = λ k. (turned_fit w h m v t k).0; marks = λ k. (turned_fit w h m v t k).1 })
  step_fits w s o after h (is_armed m b member is_balk how is) = subst (λ (x : State G F). MembersFit x) (sym (same_state is)) (record { rows = h.rows; marks = h.marks })

  fresh_fits : (version : ℕ → Version) → MembersFit (fresh {G = G} {F = F} version)
  fresh_fits version = record { rows = λ m n. tt; marks = λ m. no_marks (version m) }

  pub history_fits : {w : State G F} → History z w → MembersFit w
  history_fits (starts version f) = subst (λ (x : State G F). MembersFit x) (sym (same_state f)) (fresh_fits version)
  history_fits (goes_on {w = w} {after = after} h s o st) = step_fits w s o after (history_fits h) st

pub histories_fit : {D G F : Type 0} → HistoriesFit D G F
histories_fit z w spells h = history_fits z spells h
