-- What a process asks its station is a task of the circuit; what it offers, the circuit's state has offered.
use Rattle.std.proofs.Common.{◌≡◌, ℕ, zero, suc, ◌-◌, ◌⊎◌, inl, inr, refl, sym, ap, subst, ◌∙◌, arith, List, [], ◌∷◌, Some, None, Option}
use Rattle.std.specs.Prelude.{Result, Ok, Err, slice_get}
use Rattle.protocol.specs.Lists.{IsAmong}
use Rattle.protocol.specs.Packets.{Packet}
use Rattle.protocol.specs.Marks.{Mark}
use Rattle.protocol.specs.Proposals.{next_due}
use Rattle.protocol.specs.Turn.{Event}
use Rattle.protocol.specs.Refusals.{Setup, Call, Offering, Seeking, Falling_due, Receiving, Recalling, due_event, arrival, event_of}
use Rattle.protocol.specs.Circuit as circuit
use Rattle.protocol.specs.Circuit.{Datagram, Offer, IsTask, delivery, datagram_at, offers_with}
use Rattle.protocol_laws.proofs.Places.{among-append}
use Rattle.world.proofs.Asking.{datagram_is}
use Rattle.world.proofs.Members.{some_is}
use Rattle.days.specs.Happening.{IsOffering}

-- what stands in a list stands at some place of it
pub place_of : {A : Type 0} (xs : List A) (x : A) → IsAmong xs x → (k : ℕ) × (slice_get xs k ≡ Some x)
place_of [] x i = absurd i
place_of (y ∷ xs) x (inl e) = (zero, ap Some (sym e))
place_of (y ∷ xs) x (inr i) = let at = place_of xs x i in (suc at.0, at.1)

-- what was sent has a number among all that was
sent_at : (sent : List Datagram) (d : Datagram) → IsAmong sent d → (k : ℕ) × (datagram_at sent k ≡ Some d)
sent_at sent d i =
    let at = place_of sent d i in
    let k : ℕ = at.0 in
    let back : suc k - 1 ≡ k = omega arith in
    (suc k, datagram_is sent (suc k) (omega arith) ∙ ap (slice_get sent) back ∙ at.1)

-- what a call brings from the network was sent to this member
abbrev pub WasSent : List Datagram → ℕ → Call → Type 0
WasSent sent m (Offering n entry now) = Unit {0}
WasSent sent m (Seeking n now) = Unit {0}
WasSent sent m (Falling_due now) = Unit {0}
WasSent sent m (Receiving bytes now) = IsAmong sent (record { to = m; bytes = bytes })
WasSent sent m (Recalling n to) = Unit {0}

-- a call is what some step of the circuit asks
pub task_for : (sent : List Datagram) (m : ℕ) (call : Call) → WasSent sent m call → (s : circuit.Step) × IsTask sent s m call
task_for sent m (Offering n entry now) came = (circuit.Offers m n entry now, refl)
task_for sent m (Seeking n now) came = (circuit.Seeks m n now, refl)
task_for sent m (Falling_due now) came = (circuit.Falls_due m now, refl)
task_for sent m (Receiving bytes now) came =
    let at = sent_at sent (record { to = m; bytes = bytes }) came in
    (circuit.Delivers at.0 now, ap (λ (o : Option Datagram). delivery o now) at.1)
task_for sent m (Recalling n to) came = (circuit.Recalls m n to, refl)

none_some : {A : Type 0} {a : A} → None ≡ Some a → ⊥
none_some e = cc

-- it offers what the event of this call does
abbrev pub Adds : ℕ → List Offer → Event → Call → Type 0
Adds m os e call = (x : Offer) → IsAmong (offers_with os m e) x → IsAmong os x ⊎ IsOffering x.number x.entry call

due_adds : (m : ℕ) (os : List Offer) (e : Event) (now : ℕ) (o : Option ℕ) → due_event o now ≡ Some e → Adds m os e (Falling_due now)
due_adds m os e now None is = absurd (none_some is)
due_adds m os e now (Some n) is = λ x i. inl (subst (λ (f : Event). IsAmong (offers_with os m f) x) (sym (some_is is)) i)

arrival_adds : (m : ℕ) (os : List Offer) (e : Event) (bytes : List ℕ) (now : ℕ) {D : Type 0} (q : Result Packet D) → arrival q now ≡ Some e → Adds m os e (Receiving bytes now)
arrival_adds m os e bytes now (Err fault) is = absurd (none_some is)
arrival_adds m os e bytes now (Ok p) is = λ x i. inl (subst (λ (f : Event). IsAmong (offers_with os m f) x) (sym (some_is is)) i)

-- the offers with that of an event are those before, and what its call offers
pub call_adds : {D G F : Type 0} (s : Setup D G F) (marks : List Mark) (m : ℕ) (os : List Offer) (call : Call) (e : Event) → event_of s marks call ≡ Some e → Adds m os e call
call_adds s marks m os (Offering n entry now) e is = λ x i. elim (among-append os (record { member = m; number = n; entry = entry } ∷ []) x (subst (λ (f : Event). IsAmong (offers_with os m f) x) (sym (some_is is)) i)) [
  | inl before ↦ inl before
  | inr last ↦ elim last [ inl same ↦ inr (ap (λ (y : Offer). y.number) same, ap (λ (y : Offer). y.entry) same) | inr none ↦ absurd none ]
]
call_adds s marks m os (Seeking n now) e is = λ x i. inl (subst (λ (f : Event). IsAmong (offers_with os m f) x) (sym (some_is is)) i)
call_adds s marks m os (Falling_due now) e is = due_adds m os e now (next_due s.seat.me now marks) is
call_adds s marks m os (Receiving bytes now) e is = arrival_adds m os e bytes now (s.reads bytes) is
call_adds s marks m os (Recalling n to) e is = λ x i. inl (subst (λ (f : Event). IsAmong (offers_with os m f) x) (sym (some_is is)) i)
