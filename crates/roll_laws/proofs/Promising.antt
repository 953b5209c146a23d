-- A promise at a ballot that was not begun yet comes of a member that was promised less, then and at each moment before.
use Rattle.std.proofs.Common.{◌≡◌, ℕ, ◌⊎◌, inl, inr, refl, sym, ap, subst, ◌∙◌, List, [], ◌++◌, Option, Some, None, Bool, true, false}
use Rattle.std.specs.List.{AllZip}
use Rattle.protocol.specs.Lists.{IsAmong}
use Rattle.protocol.specs.Ballots.{Ballot, IsNoneOrBelow, IsMember}
use Rattle.protocol.specs.Rows.{Vote, Row}
use Rattle.protocol.specs.Packets.{Packet, Body, Prepare, Promise, Accept, Accepted, Nack}
use Rattle.protocol.specs.Turn.{Turn, Event, number_of, turn}
use Rattle.protocol.specs.Refusals.{Call, event_of}
use Rattle.protocol.specs.Circuit.{Circuit, Datagram, State, Step, Outcome, saved, IsTask, seat_at, setup_of, MayLeave, Leaves, store_before_save, memory_before_save, at_save, StepsTo, is_refused, is_idle, is_spent, is_done, is_torn, restarts, upgrades, upgrade_is_torn, is_armed, History, starts, goes_on}
use Rattle.protocol.specs.Agreement.{WasPromised}
use Rattle.protocol_laws.proofs.Below.{at_most_below, below_irrefl}
use Rattle.protocol_laws.proofs.Moves.{known_below}
use Rattle.protocol_laws.proofs.Places.{among-append, saved_cases, saved-self, saved-same}
use Rattle.protocol_laws.proofs.Meeting.{is_turn}
use Rattle.protocol_laws.proofs.Steps.{same_state, Goes, all_go, AllZip-append, arrived_sent, read_among}
use Rattle.roll_laws.specs.Votes.{is_same, and_on, GoesOnTo}
use Rattle.roll_laws.specs.Searches.{IsAhead}
use Rattle.roll_laws.proofs.Asking.{IsAskedFor, Rises, rises_same, BodyAsks, TurnAsks, turn_asks}

-- where promises rise, what is below b was below b before
below_before : (row after : Row) (b : Ballot) → Rises row after → IsNoneOrBelow after.promised b → IsNoneOrBelow row.promised b
below_before row after b up low = go row.promised refl
  where
    go : (o : Option Ballot) → row.promised ≡ o → IsNoneOrBelow o b
    go None e = tt
    go (Some p) e = let q = up.promise p e in at_most_below p q.at b q.reaches (known_below after.promised q.at b low q.is)

module _ {D G F : Type 0} (z : Circuit D G F) where
  -- what a turn that a step takes asks and promises
  pub taken_asks :
      (w : State G F) (m : ℕ) (e : Event) (t : Turn) → IsMember z.count m → turn (seat_at z m) (w.marks m) (w.rows m (number_of e)) e ≡ Some t
      → TurnAsks (seat_at z m) (w.marks m) (w.rows m (number_of e)) e t
  taken_asks w m e t member taken =
      turn_asks (seat_at z m) (w.marks m) (w.rows m (number_of e)) e t
      (is_turn (seat_at z m) (w.marks m) (w.rows m (number_of e)) e t member taken)

  saved_rises : (rows : ℕ → ℕ → Row) (m n : ℕ) (row : Row) → Rises (rows m n) row → (k j : ℕ) → Rises (rows k j) (saved rows m n row k j)
  saved_rises rows m n row up k j = elim (saved_cases rows m n (rows m n) row k j) [
    | inl e ↦ subst (λ (r : Row). Rises (rows k j) r) (sym (e ∙ saved-self rows m n k j)) (rises_same (rows k j))
    | inr e ↦ subst (λ (r : Row). Rises r (saved rows m n row k j)) (sym e.2 ∙ saved-self rows m n k j) (subst (λ (r : Row). Rises (rows m n) r) (sym e.3) up)
  ]

  left_rises :
      (w : State G F) (m : ℕ) (call : Call) (e : Event) (o : Outcome D F) (row : Row) (armed : Option Bool) → IsMember z.count m
      → Leaves z w m call e o row armed → Rises (w.rows m (number_of e)) row
  left_rises w m call e o row armed member (store_before_save how un same stays) =
      subst (λ (r : Row). Rises (w.rows m (number_of e)) r) (sym same) (rises_same (w.rows m (number_of e)))
  left_rises w m call e o row armed member (memory_before_save how un same stays) =
      subst (λ (r : Row). Rises (w.rows m (number_of e)) r) (sym same) (rises_same (w.rows m (number_of e)))
  left_rises w m call e o row armed member (at_save t un taken changes may disarmed) =
      elim (may_leave (w.armed m) (w.rows m (number_of e)) t.row row may) [
        | inl same ↦ subst (λ (r : Row). Rises (w.rows m (number_of e)) r) (sym same) (rises_same (w.rows m (number_of e)))
        | inr same ↦ subst (λ (r : Row). Rises (w.rows m (number_of e)) r) (sym same) (taken_asks w m e t member taken).rises
      ]
    where
      may_leave : (armed : Option Bool) (before after now : Row) → MayLeave armed o before after now → (now ≡ before) ⊎ (now ≡ after)
      may_leave (Some false) before after now h = inl h.1
      may_leave (Some true) before after now h = elim h [ inl x ↦ inr x.1 | inr x ↦ x.1 ]
      may_leave None before after now h = h.1

  -- no step lowers a promise
  pub step_rises : (w : State G F) (s : Step) (o : Outcome D F) (after : State G F) → StepsTo z w s o after → (k j : ℕ) → Rises (w.rows k j) (after.rows k j)
  step_rises w s o after (is_refused m call r task member refused how is) k j = subst (λ (r : Row). Rises (w.rows k j) r) (sym (is.rows k j)) (rises_same (w.rows k j))
  step_rises w s o after (is_idle m call task member unrefused event how is) k j = subst (λ (r : Row). Rises (w.rows k j) r) (sym (is.rows k j)) (rises_same (w.rows k j))
  step_rises w s o after (is_spent m call e task member unrefused event turn how is) k j = subst (λ (r : Row). Rises (w.rows k j) r) (sym (is.rows k j)) (rises_same (w.rows k j))
  step_rises w s o after (is_done m call e t out task member unrefused event taken carried armed how is) k j =
      subst (λ (r : Row). Rises (w.rows k j) r) (sym (is.rows k j)) (saved_rises w.rows m (number_of e) t.row (taken_asks w m e t member taken).rises k j)
  step_rises w s o after (is_torn m call e row armed task member event leaves is) k j =
      subst (λ (r : Row). Rises (w.rows k j) r) (sym (is.rows k j)) (saved_rises w.rows m (number_of e) row (left_rises w m call e o row armed member leaves) k j)
  step_rises w s o after (restarts m member is_restart how is) k j = subst (λ (r : Row). Rises (w.rows k j) r) (sym (is.rows k j)) (rises_same (w.rows k j))
  step_rises w s o after (upgrades m member is_upgrade how unarmed is) k j = subst (λ (r : Row). Rises (w.rows k j) r) (sym (is.rows k j)) (rises_same (w.rows k j))
  step_rises w s o after (upgrade_is_torn m v member is_upgrade turns is) k j = subst (λ (r : Row). Rises (w.rows k j) r) (sym (is.rows k j)) (rises_same (w.rows k j))
  step_rises w s o after (is_armed m flag member is_balk how is) k j = subst (λ (r : Row). Rises (w.rows k j) r) (sym (is.rows k j)) (rises_same (w.rows k j))

  -- what is below b was below b at each moment before
  pub was_below :
      {w : State G F} {h : History z w} {v : State G F} {k : History z v} → GoesOnTo h k
      → (m n : ℕ) (b : Ballot) → IsNoneOrBelow (v.rows m n).promised b → IsNoneOrBelow (w.rows m n).promised b
  was_below is_same m n b low = low
  was_below (and_on {v = v} {after = after} g s o st) m n b low =
      was_below g m n b (below_before (v.rows m n) (after.rows m n) b (step_rises v s o after st m n) low)

  module _ (n : ℕ) (b : Ballot) where
    -- the packet is a Prepare of n at b, or a Promise
    abbrev Is : Packet → Type 0
    Is p = (p.number ≡ n) × (p.ballot ≡ b)

    abbrev IsOfPhaseOne : Packet → Body → Type 0
    IsOfPhaseOne p Prepare = Is p
    IsOfPhaseOne p (Promise report) = Is p
    IsOfPhaseOne p (Accept entry) = ⊥
    IsOfPhaseOne p (Accepted entry) = ⊥
    IsOfPhaseOne p (Nack a) = ⊥

    -- none was sent
    record Unasked (w : State G F) : Type 0 where
      packets : List Packet
      spelled : AllZip (Goes z) packets w.sent
      none : (p : Packet) → IsAmong packets p → ¬ IsOfPhaseOne p p.body

    -- the Prepare that a Promise answers was sent
    asked_before :
        (w : State G F) → Unasked w → (s : Step) (m : ℕ) (call : Call) (e : Event) (p : Packet) → IsTask w.sent s m call
        → event_of (setup_of z (w.version m) m) (w.marks m) call ≡ Some e → IsAskedFor e p → Is p → ⊥
    asked_before w u s m call e p task event a (en, eb) =
        u.none a.asked (arrived_sent z w s m call a.asked a.now u.packets u.spelled task (event ∙ ap Some a.arrived))
        (subst (λ (x : Body). IsOfPhaseOne a.asked x) (sym a.body) (a.number ∙ en, a.ballot ∙ eb))

    -- none goes out of a turn, where none was sent before and the owner of b isn't promised b after it
    none_asked :
        (w : State G F) → Unasked w → (s : Step) (m : ℕ) (call : Call) (e : Event) (t : Turn) → IsTask w.sent s m call
        → event_of (setup_of z (w.version m) m) (w.marks m) call ≡ Some e
        → IsNoneOrBelow (saved w.rows m (number_of e) t.row b.owner n).promised b
        → (p : Packet) (body : Body) → BodyAsks (seat_at z m) (w.rows m (number_of e)) e t.row p body → ¬ IsOfPhaseOne p body
    none_asked w u s m call e t task event low p Prepare (owner, is, number) (en, eb) =
        let mine : b.owner ≡ m = ap (λ (x : Ballot). x.owner) (sym eb) ∙ owner in
        let here : n ≡ number_of e = sym en ∙ number in
        let row : saved w.rows m (number_of e) t.row b.owner n ≡ t.row = ap (λ (x : ℕ). saved w.rows m (number_of e) t.row x n) mine ∙ ap (λ (x : ℕ). saved w.rows m (number_of e) t.row m x) here ∙ saved-same w.rows m (number_of e) t.row in
        let promised : (saved w.rows m (number_of e) t.row b.owner n).promised ≡ Some b = ap (λ (x : Row). x.promised) row ∙ is ∙ ap Some eb in
        below_irrefl b (known_below (saved w.rows m (number_of e) t.row b.owner n).promised b b low promised)
    none_asked w u s m call e t task event low p (Promise report) (from, free, a) is = asked_before w u s m call e p task event a is
    none_asked w u s m call e t task event low p (Accept entry) asks is = is
    none_asked w u s m call e t task event low p (Accepted entry) asks is = is
    none_asked w u s m call e t task event low p (Nack x) asks is = is

    unasked_step : (w : State G F) (s : Step) (o : Outcome D F) (after : State G F) → Unasked w → StepsTo z w s o after → IsAhead after n b → Unasked after
    unasked_step w s o after u (is_refused m call r task member refused how is) low = subst (λ (x : State G F). Unasked x) (sym (same_state is)) u
    unasked_step w s o after u (is_idle m call task member unrefused event how is) low = subst (λ (x : State G F). Unasked x) (sym (same_state is)) u
    unasked_step w s o after u (is_spent m call e task member unrefused event turn how is) low = subst (λ (x : State G F). Unasked x) (sym (same_state is)) u
    unasked_step w s o after u (is_done m call e t out task member unrefused event taken carried armed how is) low =
        let f = taken_asks w m e t member taken in
        let ahead : IsNoneOrBelow (saved w.rows m (number_of e) t.row b.owner n).promised b = subst (λ (r : Row). IsNoneOrBelow r.promised b) (is.rows b.owner n) low in
        record {
          packets = u.packets ++ t.out;
          spelled = subst (λ (l : List Datagram). AllZip (Goes z) (u.packets ++ t.out) l) (sym is.sent) (AllZip-append (Goes z) u.packets t.out w.sent out u.spelled (all_go z (w.version m) t.out out carried));
          none = λ p i. elim (among-append u.packets t.out p i) [ inl x ↦ u.none p x | inr x ↦ none_asked w u s m call e t task event ahead p p.body (f.out p x) ];
        }
    unasked_step w s o after u (is_torn m call e row armed task member event leaves is) low = same_sent w after u is.sent
      where
        same_sent : (w after : State G F) → Unasked w → after.sent ≡ w.sent → Unasked after
        same_sent w after u e = record { packets = u.packets; spelled = subst (λ (l : List Datagram). AllZip (Goes z) u.packets l) (sym e) u.spelled; none = u.none }
    unasked_step w s o after u (restarts m member is_restart how is) low = record { packets = u.packets; spelled = subst (λ (l : List Datagram). AllZip (Goes z) u.packets l) (sym is.sent) u.spelled; none = u.none }
    unasked_step w s o after u (upgrades m member is_upgrade how unarmed is) low = record { packets = u.packets; spelled = subst (λ (l : List Datagram). AllZip (Goes z) u.packets l) (sym is.sent) u.spelled; none = u.none }
    unasked_step w s o after u (upgrade_is_torn m v member is_upgrade turns is) low = record { packets = u.packets; spelled = subst (λ (l : List Datagram). AllZip (Goes z) u.packets l) (sym is.sent) u.spelled; none = u.none }
    unasked_step w s o after u (is_armed m flag member is_balk how is) low = record { packets = u.packets; spelled = subst (λ (l : List Datagram). AllZip (Goes z) u.packets l) (sym is.sent) u.spelled; none = u.none }

    -- where the owner of b isn't there yet, nobody was asked for a promise at b, and nobody gave one
    history_unasked : {w : State G F} → History z w → IsAhead w n b → Unasked w
    history_unasked {w = w} (starts version f) low =
        record { packets = []; spelled = subst (λ (l : List Datagram). AllZip (Goes z) [] l) (sym f.sent) tt; none = λ p i. absurd i }
    history_unasked (goes_on {w = w} {after = after} h s o st) low =
        unasked_step w s o after (history_unasked h (below_before (w.rows b.owner n) (after.rows b.owner n) b (step_rises w s o after st b.owner n) low)) st low

    -- no Promise was sent, then
    unpromised : {w : State G F} (m : ℕ) (report : Option Vote) → Unasked w → ¬ WasPromised z w m n b report
    unpromised {w = w} m report u p =
        u.none p.packet (read_among z u.packets w.sent p.datagram p.packet u.spelled p.sent p.spelled)
        (subst (λ (x : Body). IsOfPhaseOne p.packet x) (sym p.body) (p.number, p.ballot))

    -- a Promise that is sent was sent before, or its member was promised less before
    newly_promised :
        (w : State G F) (s : Step) (o : Outcome D F) (after : State G F) → StepsTo z w s o after → (m : ℕ) (report : Option Vote)
        → WasPromised z after m n b report → WasPromised z w m n b report ⊎ IsNoneOrBelow (w.rows m n).promised b
    newly_promised w s o after st m report p = elim (sent_by st) [
      | inl i ↦ inl (record { datagram = p.datagram; packet = p.packet; sent = i; spelled = p.spelled; from = p.from; number = p.number; ballot = p.ballot; body = p.body })
      | inr low ↦ inr low
    ]
      where
        old : after.sent ≡ w.sent → IsAmong w.sent p.datagram ⊎ IsNoneOrBelow (w.rows m n).promised b
        old e = inl (subst (λ (l : List Datagram). IsAmong l p.datagram) e p.sent)

        promises : (k : ℕ) (e : Event) (after : Row) → BodyAsks (seat_at z k) (w.rows k (number_of e)) e after p.packet (Promise report) → IsNoneOrBelow (w.rows m n).promised b
        promises k e after (from, free, a) =
            let mine : k ≡ m = sym from ∙ p.from in
            let here : number_of e ≡ n = ap number_of a.arrived ∙ a.number ∙ p.number in
            let at_member : IsNoneOrBelow (w.rows m (number_of e)).promised p.packet.ballot = subst (λ (x : ℕ). IsNoneOrBelow (w.rows x (number_of e)).promised p.packet.ballot) mine free in
            let at_number : IsNoneOrBelow (w.rows m n).promised p.packet.ballot = subst (λ (x : ℕ). IsNoneOrBelow (w.rows m x).promised p.packet.ballot) here at_member in
            subst (λ (x : Ballot). IsNoneOrBelow (w.rows m n).promised x) p.ballot at_number

        sent_by : StepsTo z w s o after → IsAmong w.sent p.datagram ⊎ IsNoneOrBelow (w.rows m n).promised b
        sent_by (is_refused k call r task member refused how is) = old is.sent
        sent_by (is_idle k call task member unrefused event how is) = old is.sent
        sent_by (is_spent k call e task member unrefused event turn how is) = old is.sent
        sent_by (is_done k call e t out task member unrefused event taken carried armed how is) =
            elim (among-append w.sent out p.datagram (subst (λ (l : List Datagram). IsAmong l p.datagram) is.sent p.sent)) [
              | inl i ↦ inl i
              | inr i ↦ (let among = read_among z t.out out p.datagram p.packet (all_go z (w.version k) t.out out carried) i p.spelled in
                  inr (promises k e t.row (subst (λ (x : Body). BodyAsks (seat_at z k) (w.rows k (number_of e)) e t.row p.packet x) p.body ((taken_asks w k e t member taken).out p.packet among))))
            ]
        sent_by (is_torn k call e row armed task member event leaves is) = old is.sent
        sent_by (restarts k member is_restart how is) = old is.sent
        sent_by (upgrades k member is_upgrade how unarmed is) = old is.sent
        sent_by (upgrade_is_torn k v member is_upgrade turns is) = old is.sent
        sent_by (is_armed k flag member is_balk how is) = old is.sent

    -- who promised at b was promised less at each moment at which b was yet to be begun
    pub promised_later :
        {w : State G F} {h : History z w} {v : State G F} {k : History z v} → GoesOnTo h k → IsAhead w n b
        → (m : ℕ) (report : Option Vote) → WasPromised z v m n b report → IsNoneOrBelow (w.rows m n).promised b
    promised_later {h = h} is_same low m report p = absurd (unpromised m report (history_unasked h low) p)
    promised_later (and_on {v = v} {after = after} g s o st) low m report p = elim (newly_promised v s o after st m report p) [
      | inl old ↦ promised_later g low m report old
      | inr below ↦ was_below g m n b below
    ]
