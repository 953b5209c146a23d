-- Where a mark that stands after a step comes from; and that a Promise that a mark takes in was sent.
use Rattle.std.proofs.Common.{◌≡◌, ℕ, ◌⊎◌, inl, inr, sym, ap, subst, ◌∙◌, List, [], Option, Some}
use Rattle.protocol.specs.Lists.{IsAmong}
use Rattle.protocol.specs.Ballots.{Ballot, IsNoneOrBelow}
use Rattle.protocol.specs.Rows.{Vote}
use Rattle.protocol.specs.Marks.{Mark, Began, Promised}
use Rattle.protocol.specs.Turn.{Event, number_of}
use Rattle.protocol.specs.Refusals.{Call, event_of}
use Rattle.protocol.specs.Circuit.{Circuit, Datagram, State, Step, Outcome, with_at, IsTask, seat_at, setup_of, StepsTo, is_refused, is_idle, is_spent, is_done, is_torn, restarts, upgrades, upgrade_is_torn, is_armed, History, starts, goes_on}
use Rattle.protocol.specs.Agreement.{WasPromised}
use Rattle.protocol_laws.proofs.Places.{among_left, with_at_cases, with_at-self}
use Rattle.protocol_laws.proofs.OneStep.{carried}
use Rattle.protocol_laws.proofs.Steps.{Goes, arrived_sent, history_sound}
use Rattle.roll_laws.specs.Searches.{BegunWereAhead}
use Rattle.roll_laws.proofs.Asking.{MarkAsks}
use Rattle.roll_laws.proofs.Promising.{taken_asks}

module _ {D G F : Type 0} (z : Circuit D G F) where
  -- a step asks m something, and with what comes of it the mark is new
  record IsNewMark (w : State G F) (s : Step) (m : ℕ) (x : Mark) : Type 0 where
    call : Call
    event : Event
    task : IsTask w.sent s m call
    is_event : event_of (setup_of z (w.version m) m) (w.marks m) call ≡ Some event
    asks : MarkAsks (seat_at z m) (w.rows m (number_of event)) event x

  forgets :
      (w : State G F) (s : Step) (m k : ℕ) (x : Mark) (marks : List Mark) → marks ≡ with_at w.marks m [] k
      → IsAmong marks x → IsAmong (w.marks k) x ⊎ IsNewMark w s k x
  forgets w s m k x marks e i = elim (with_at_cases w.marks m (w.marks m) [] k) [
    | inl f ↦ inl (subst (λ (l : List Mark). IsAmong l x) (e ∙ f ∙ with_at-self w.marks m k) i)
    | inr f ↦ absurd (subst (λ (l : List Mark). IsAmong l x) (e ∙ f.2) i)
  ]

  keeps : (w : State G F) (s : Step) (k : ℕ) (x : Mark) (marks : List Mark) → marks ≡ w.marks k → IsAmong marks x → IsAmong (w.marks k) x ⊎ IsNewMark w s k x
  keeps w s k x marks e i = inl (subst (λ (l : List Mark). IsAmong l x) e i)

  step_marks :
      (w : State G F) (s : Step) (o : Outcome D F) (after : State G F) → StepsTo z w s o after
      → (k : ℕ) (x : Mark) → IsAmong (after.marks k) x → IsAmong (w.marks k) x ⊎ IsNewMark w s k x
  step_marks w s o after (is_refused m call r task member refused how is) k x i = keeps w s k x (after.marks k) (is.marks k) i
  step_marks w s o after (is_idle m call task member unrefused event how is) k x i = keeps w s k x (after.marks k) (is.marks k) i
  step_marks w s o after (is_spent m call e task member unrefused event turn how is) k x i = keeps w s k x (after.marks k) (is.marks k) i
  step_marks w s o after (is_done m call e t out task member unrefused event taken carried armed how is) k x i =
      elim (with_at_cases w.marks m (w.marks m) t.marks k) [
        | inl f ↦ inl (subst (λ (l : List Mark). IsAmong l x) (is.marks k ∙ f ∙ with_at-self w.marks m k) i)
        | inr f ↦ subst (λ (y : ℕ). IsAmong (w.marks y) x ⊎ IsNewMark w s y x) (sym f.0)
            (elim ((taken_asks z w m e t member taken).marked.each x (subst (λ (l : List Mark). IsAmong l x) (is.marks k ∙ f.2) i)) [
              | inl old ↦ inl old
              | inr asks ↦ inr (record { call = call; event = e; task = task; is_event = event; asks = asks })
            ])
      ]
  step_marks w s o after (is_torn m call e row armed task member event leaves is) k x i = forgets w s m k x (after.marks k) (is.marks k) i
  step_marks w s o after (restarts m member is_restart how is) k x i = forgets w s m k x (after.marks k) (is.marks k) i
  step_marks w s o after (upgrades m member is_upgrade how unarmed is) k x i = forgets w s m k x (after.marks k) (is.marks k) i
  step_marks w s o after (upgrade_is_torn m v member is_upgrade turns is) k x i = forgets w s m k x (after.marks k) (is.marks k) i
  step_marks w s o after (is_armed m flag member is_balk how is) k x i = keeps w s k x (after.marks k) (is.marks k) i

  -- what was sent stays sent
  sent_stays : (w : State G F) (s : Step) (o : Outcome D F) (after : State G F) → StepsTo z w s o after → (d : Datagram) → IsAmong w.sent d → IsAmong after.sent d
  sent_stays w s o after (is_refused m call r task member refused how is) d i = subst (λ (l : List Datagram). IsAmong l d) (sym is.sent) i
  sent_stays w s o after (is_idle m call task member unrefused event how is) d i = subst (λ (l : List Datagram). IsAmong l d) (sym is.sent) i
  sent_stays w s o after (is_spent m call e task member unrefused event turn how is) d i = subst (λ (l : List Datagram). IsAmong l d) (sym is.sent) i
  sent_stays w s o after (is_done m call e t out task member unrefused event taken carried armed how is) d i =
      subst (λ (l : List Datagram). IsAmong l d) (sym is.sent) (among_left w.sent out d i)
  sent_stays w s o after (is_torn m call e row armed task member event leaves is) d i = subst (λ (l : List Datagram). IsAmong l d) (sym is.sent) i
  sent_stays w s o after (restarts m member is_restart how is) d i = subst (λ (l : List Datagram). IsAmong l d) (sym is.sent) i
  sent_stays w s o after (upgrades m member is_upgrade how unarmed is) d i = subst (λ (l : List Datagram). IsAmong l d) (sym is.sent) i
  sent_stays w s o after (upgrade_is_torn m v member is_upgrade turns is) d i = subst (λ (l : List Datagram). IsAmong l d) (sym is.sent) i
  sent_stays w s o after (is_armed m flag member is_balk how is) d i = subst (λ (l : List Datagram). IsAmong l d) (sym is.sent) i

  stays_promised :
      (w : State G F) (s : Step) (o : Outcome D F) (after : State G F) → StepsTo z w s o after → (k n : ℕ) (b : Ballot) (report : Option Vote)
      → WasPromised z w k n b report → WasPromised z after k n b report
  stays_promised w s o after st k n b report p = record {
    datagram = p.datagram;
    packet = p.packet;
    sent = sent_stays w s o after st p.datagram p.sent;
    spelled = p.spelled;
    from = p.from;
    number = p.number;
    ballot = p.ballot;
    body = p.body;
  }

  -- a new mark of a Promise: it was sent
  newly_sent : {w : State G F} (h : History z w) (s : Step) (m n k : ℕ) (b : Ballot) (report : Option Vote) → IsNewMark w s m (Promised n k b report) → WasPromised z w k n b report
  newly_sent {w = w} h s m n k b report x =
      let all = history_sound h in
      let p = x.asks in
      let (d, i, goes) = carried (Goes z) all.packets w.sent p.packet all.spelled
      (arrived_sent z w s m x.call p.packet p.now all.packets all.spelled x.task (x.is_event ∙ ap Some p.arrived)) in
      record { datagram = d; packet = p.packet; sent = i; spelled = goes.1; from = p.from; number = p.number; ballot = p.ballot; body = p.body }

  pub promise_was_sent : {w : State G F} → History z w → (m n k : ℕ) (b : Ballot) (report : Option Vote) → IsAmong (w.marks m) (Promised n k b report) → WasPromised z w k n b report
  promise_was_sent (starts version f) m n k b report i = absurd (subst (λ (l : List Mark). IsAmong l (Promised n k b report)) (f.marks m) i)
  promise_was_sent (goes_on {w = w} {after = after} h s o st) m n k b report i =
      stays_promised w s o after st k n b report (elim (step_marks w s o after st m (Promised n k b report) i) [
        | inl old ↦ promise_was_sent h m n k b report old
        | inr new ↦ newly_sent h s m n k b report new
      ])

pub begun_were_ahead : {D G F : Type 0} → BegunWereAhead D G F
begun_were_ahead z w after s o st m n b own report now i unmarked = elim (step_marks z w s o after st m (Began n b own report now) i) [
  | inl old ↦ absurd (unmarked old)
  | inr new ↦ (let (owner, low, here) = new.asks in
      let at_number : IsNoneOrBelow (w.rows m n).promised b = subst (λ (x : ℕ). IsNoneOrBelow (w.rows m x).promised b) (sym here) low in
      subst (λ (x : ℕ). IsNoneOrBelow (w.rows x n).promised b) (sym owner) at_number)
]
