-- A call of a station is a step of the state, however it is answered.
use Rattle.std.proofs.Common.{◌≡◌, ℕ, inl, inr, refl, sym, ap, subst, ◌∙◌, List, [], ◌++◌, Some, None, Option, false, append-nil}
use Rattle.std.specs.Prelude.{Result, Ok, Err}
use Rattle.protocol.specs.Packets.{Packet}
use Rattle.protocol.specs.Marks.{Mark}
use Rattle.protocol.specs.Proposals.{next_due}
use Rattle.protocol.specs.Turn.{Event}
use Rattle.protocol.specs.Refusals.{Setup, Call, Offering, Seeking, Falling_due, Receiving, Recalling, due_event, arrival, event_of}
use Rattle.protocol.specs.Refusals as refusals
use Rattle.protocol.specs.Circuit as circuit
use Rattle.protocol.specs.Circuit.{offers_with}
use Rattle.packets.specs.Reading.{packet_at}
use Rattle.packets.specs.declared.fault.PacketFault.{PacketFault}
use Rattle.line_check.specs.Laws.{OneSetting}
use Rattle.rows_saved.specs.declared.balky.Balky.{Balky}
use Rattle.station.specs.declared.station.Station.{Station}
use Rattle.rows_saved.specs.declared.fault.RowsFault.{RowsFault}
use Rattle.line_check.specs.declared.fault.SetFault.{SetFault}
use Rattle.station.specs.declared.answer.Answer.{Answer}
use Rattle.station.specs.declared.answer.Release.{Release}
use Rattle.refusals.specs.declared.refusal.StepRefusal.{StepRefusal}
use Rattle.refusals.specs.declared.refusal.StepRefusal.TheVariants.{Stopped, BadDatagram, WrongCircuit, NotForMe, Stranger, BadNumber, NoSuchMember, AlreadyReleased, AlreadyOpen, WireTooOld, TapeFaulty, RoundsSpent, Store, OutOfMemory}
use Rattle.node_core.specs.Turns.{note_value}
use Rattle.station.specs.Stations.{Sight, setup_of}
use Rattle.station.specs.Steps.{Steps}
use Rattle.world.specs.declared.world.World.{World}
use Rattle.world.specs.Setups.{StationCircuit, StationState}
use Rattle.world.specs.Reach.{IsAt, StandsFor}
use Rattle.world.specs.Taking.{EndsAs, is_torn}
use Rattle.world.specs.Logging.{logged, offer_of, offered_of, out_of, outcome_of, released_of}
use Rattle.world.proofs.Members.{Changes, some_is}
use Rattle.world.proofs.Turning.{balky_sight, Comes, Own, Sends, refused_comes, idle_comes, spent_comes, done_comes, memory_comes, store_comes}

-- what a call adds to the offers where it ended so
abbrev pub offers_of : ℕ → Call → Result Answer StepRefusal → List circuit.Offer
offers_of m call r = offered_of (offer_of m call) (outcome_of r)

no_event : {X : Type 0} {a : X} → None ≡ Some a → ⊥
no_event e = cc

no_error : {X : Type 0} {a : X} → Some a ≡ None → ⊥
no_error e = cc

due_offers : (os : List circuit.Offer) (m now : ℕ) (o : Option ℕ) (e : Event) → due_event o now ≡ Some e → os ++ [] ≡ offers_with os m e
due_offers os m now None e is = absurd (no_event is)
due_offers os m now (Some n) e is = append-nil os ∙ ap (offers_with os m) (some_is is)

arrived_offers : (os : List circuit.Offer) (m now : ℕ) (q : Result Packet PacketFault) (e : Event) → arrival q now ≡ Some e → os ++ [] ≡ offers_with os m e
arrived_offers os m now (Err fault) e is = absurd (no_event is)
arrived_offers os m now (Ok p) e is = append-nil os ∙ ap (offers_with os m) (some_is is)

module _ {R : Type 0} (s : Station R) (marks : List Mark) (os : List circuit.Offer) (m : ℕ) where
  -- the offers with that of a step that was done or torn
  with_done : (call : Call) (e : Event) (a : Answer) → event_of (setup_of s) marks call ≡ Some e → os ++ offers_of m call (Ok a) ≡ offers_with os m e
  with_done (Offering n entry now) e a is = ap (offers_with os m) (some_is is)
  with_done (Seeking n now) e a is = append-nil os ∙ ap (offers_with os m) (some_is is)
  with_done (Falling_due now) e a is = due_offers os m now (next_due s.speaker.core.me now marks) e is
  with_done (Receiving bytes now) e a is = arrived_offers os m now (packet_at s.speaker.wire bytes) e is
  with_done (Recalling n to) e a is = append-nil os ∙ ap (offers_with os m) (some_is is)

  with_store : (call : Call) (e : Event) (fault : RowsFault) → event_of (setup_of s) marks call ≡ Some e → os ++ offers_of m call (Err (Store fault)) ≡ offers_with os m e
  with_store (Offering n entry now) e fault is = ap (offers_with os m) (some_is is)
  with_store (Seeking n now) e fault is = append-nil os ∙ ap (offers_with os m) (some_is is)
  with_store (Falling_due now) e fault is = due_offers os m now (next_due s.speaker.core.me now marks) e is
  with_store (Receiving bytes now) e fault is = arrived_offers os m now (packet_at s.speaker.wire bytes) e is
  with_store (Recalling n to) e fault is = append-nil os ∙ ap (offers_with os m) (some_is is)

  with_memory : (call : Call) (e : Event) → event_of (setup_of s) marks call ≡ Some e → os ++ offers_of m call (Err OutOfMemory) ≡ offers_with os m e
  with_memory (Offering n entry now) e is = ap (offers_with os m) (some_is is)
  with_memory (Seeking n now) e is = append-nil os ∙ ap (offers_with os m) (some_is is)
  with_memory (Falling_due now) e is = due_offers os m now (next_due s.speaker.core.me now marks) e is
  with_memory (Receiving bytes now) e is = arrived_offers os m now (packet_at s.speaker.wire bytes) e is
  with_memory (Recalling n to) e is = append-nil os ∙ ap (offers_with os m) (some_is is)

  -- a refused offer is not logged
  with_refused : (call : Call) (q : StepRefusal) → is_torn q ≡ false → os ++ offers_of m call (Err q) ≡ os
  with_refused (Offering n entry now) q un = rw un (append-nil os)
  with_refused (Seeking n now) q un = append-nil os
  with_refused (Falling_due now) q un = append-nil os
  with_refused (Receiving bytes now) q un = append-nil os
  with_refused (Recalling n to) q un = append-nil os

  -- a step without an event is no offer
  with_none : (call : Call) (a : Answer) → event_of (setup_of s) marks call ≡ None → os ++ offers_of m call (Ok a) ≡ os
  with_none (Offering n entry now) a is = absurd (no_error is)
  with_none (Seeking n now) a is = append-nil os
  with_none (Falling_due now) a is = append-nil os
  with_none (Receiving bytes now) a is = append-nil os
  with_none (Recalling n to) a is = append-nil os

module _ {R : Type 0} (x : Sight R) (count : R → ℕ) (one : OneSetting) (z : StationCircuit) (v v' : World R) (w : StationState) (i m : ℕ) (s s' : Station (Balky R))
    (ch : Changes v v' i m s s') (h : StandsFor x.is_open x.saved x.version z v w) (at : IsAt x.version (w.version m) s') (step : circuit.Step) (call : Call)
    (task : Sends x count z v v' w i m s s' ch h at step call) where
  abbrev To : circuit.Outcome PacketFault SetFault → Type 0
  To o = Comes x count z v v' w i m s s' ch h at step o

  -- the logs after an answer
  pub record Logs (r : Result Answer StepRefusal) : Type 0 where
    pub sent : v'.sent.items ≡ v.sent.items ++ out_of r
    pub offers : v'.offers.items ≡ v.offers.items ++ offers_of m call r
    pub releases : v'.releases.items ≡ v.releases.items ++ released_of m r

  refused :
      (r : refusals.Refusal PacketFault SetFault) (q : StepRefusal) → is_torn q ≡ false → refusals.refusal (setup_of s) s.stopped (w.marks m) call ≡ Some r → s' ≡ s → Logs (Err q)
      → To (circuit.Refused r)
  refused r q un is same l =
      refused_comes x count z v v' w i m s s' ch h at step call r task is same
      (l.sent ∙ append-nil v.sent.items) (l.offers ∙ with_refused s (w.marks m) v.offers.items m call q un) (l.releases ∙ append-nil v.releases.items)

  -- the step ended as what is seen of it
  abbrev pub Ended : Result Answer StepRefusal → Type 0
  Ended r = (o : circuit.Outcome PacketFault SetFault) × EndsAs (outcome_of r) (Own x count z v v' w i m s s' ch h at) o × To o

  pub answered : x.kept s'.rows.rows → (r : Result Answer StepRefusal) → Steps (balky_sight x count) call s s' (w.marks m) r → Logs r → Ended r
  answered kept (Ok a) (inl d) l = (
    circuit.Done (note_value a.note),
    refl,
    subst (λ (o : circuit.Outcome PacketFault SetFault). To o) (ap circuit.Done (sym d.note))
        (idle_comes x count z v v' w i m s s' ch h at step call task d.unrefused d.no_event d.same
        (l.sent ∙ (ap (λ (g : List circuit.Datagram). v.sent.items ++ g) d.out ∙ append-nil v.sent.items))
        (l.offers ∙ with_none s (w.marks m) v.offers.items m call a d.no_event)
        (l.releases ∙ (ap (λ (o : Option Release). v.releases.items ++ logged m o) d.release ∙ append-nil v.releases.items))),
  )
  answered kept (Ok a) (inr d) l = (
    circuit.Done (note_value a.note),
    refl,
    done_comes x count z v v' w i m s s' ch h at one step call d.0 a task d.1 d.2 l.sent (l.offers ∙ with_done s (w.marks m) v.offers.items m call d.0 a d.1.event) l.releases,
  )
  answered kept (Err Stopped) d l = (_, refl, refused refusals.Stopped Stopped refl d.0 d.1 l)
  answered kept (Err (BadDatagram fault)) d l = (_, refl, refused (refusals.Bad_datagram fault) (BadDatagram fault) refl d.0 d.1 l)
  answered kept (Err WrongCircuit) d l = (_, refl, refused refusals.Wrong_circuit WrongCircuit refl d.0 d.1 l)
  answered kept (Err NotForMe) d l = (_, refl, refused refusals.Not_for_me NotForMe refl d.0 d.1 l)
  answered kept (Err Stranger) d l = (_, refl, refused refusals.Stranger Stranger refl d.0 d.1 l)
  answered kept (Err BadNumber) d l = (_, refl, refused refusals.Bad_number BadNumber refl d.0 d.1 l)
  answered kept (Err NoSuchMember) d l = (_, refl, refused refusals.No_such_member NoSuchMember refl d.0 d.1 l)
  answered kept (Err AlreadyReleased) d l = (_, refl, refused refusals.Already_released AlreadyReleased refl d.0 d.1 l)
  answered kept (Err AlreadyOpen) d l = (_, refl, refused refusals.Already_open AlreadyOpen refl d.0 d.1 l)
  answered kept (Err WireTooOld) d l = (_, refl, refused refusals.Wire_too_old WireTooOld refl d.0 d.1 l)
  answered kept (Err (TapeFaulty fault)) d l = (_, refl, refused (refusals.Tape_faulty fault) (TapeFaulty fault) refl d.0 d.1 l)
  answered kept (Err RoundsSpent) d l = (
    _,
    refl,
    spent_comes x count z v v' w i m s s' ch h at step call d.0 task d.1 d.2
        (l.sent ∙ append-nil v.sent.items) (l.offers ∙ with_refused s (w.marks m) v.offers.items m call RoundsSpent refl) (l.releases ∙ append-nil v.releases.items),
  )
  answered kept (Err (Store fault)) d l =
      store_comes x count z v v' w i m s s' ch h at step call d.0 task d.1 kept d.2
      (l.sent ∙ append-nil v.sent.items) (l.offers ∙ with_store s (w.marks m) v.offers.items m call d.0 fault d.1.event) (l.releases ∙ append-nil v.releases.items)
  answered kept (Err OutOfMemory) d l = (
    _,
    refl,
    memory_comes x count z v v' w i m s s' ch h at step call d.0 task d.1 d.2
        (l.sent ∙ append-nil v.sent.items) (l.offers ∙ with_memory s (w.marks m) v.offers.items m call d.0 d.1.event) (l.releases ∙ append-nil v.releases.items),
  )
