-- What a door lets in was handed out.
use Rattle.std.proofs.Common.{◌≡◌, ℕ, List, [], ◌∷◌, inl, inr, refl, Bool, true, false, sym, subst, ap, ◌∙◌}
use Rattle.std.specs.Prelude.{◌==◌}
use Rattle.std.proofs.lemmas.Bool.{eqb-true}
use Rattle.std.specs.declared.net.socket_addr.SocketAddr.{SocketAddr}
use Rattle.protocol.specs.Ballots.{IsMember}
use Rattle.protocol.specs.Refusals.{Call, Offering, Seeking, Falling_due, Receiving, Recalling}
use Rattle.rows_saved.specs.declared.rows.Rows.{Ghosts}
use Rattle.pace.specs.declared.share.Incoming.{Incoming}
use Rattle.seals.specs.Sealing.{label_of}
use Rattle.seals.specs.Opening.{IsKeyAt, Opens}
use Rattle.seals.specs.declared.label.Label.{Label}
use Rattle.seals.specs.declared.opening.Keys.{Keys}
use Rattle.seals.specs.declared.opening.KeyPlace.{KeyPlace}
use Rattle.seals.specs.declared.opening.KeyPlace.TheVariants as places
use Rattle.circuit_keys.specs.declared.key_file.SharedKeys.{SharedKeys}
use Rattle.sealed_door.specs.declared.door.SealedDoor.{SealedDoor}
use Rattle.sealed_door.specs.Admitting.{BringsSealed}
use Rattle.driver.specs.Events.{Event, asked, took, stored, aside}
use Rattle.days.specs.Happening.{Happened, Came}
use Rattle.process_days.specs.Telling.{Order, AllTaken, CallTakes, CameWith, IsInTurn, LogsAgree, ReceivesSuch, day_with, log_of}
use Rattle.process_days.proofs.GoingOn.{log_here, log_elsewhere}
use Rattle.process_days.specs.Keyed.{AreKeysOf, AreSealed, BearsTagOf, CallNeedsKey, IsDoorOf, IsKeyOf, IsLetIn, NeedKey, NeedsKey, SealedLogsAgree, SealedOrdersAreInTurn, SealedPacketsCame}

-- a key of a station is a key of its circuit
key_of : (shared : SharedKeys) (number count : ℕ) (keys : Keys) (place : KeyPlace) (block : List ℕ) → AreKeysOf shared number count keys → IsKeyAt keys place block → IsKeyOf shared number count block
key_of shared number count keys places.First block are at = inl (sym at ∙ are.first)
key_of shared number count keys places.Second block are at = inr (sym at ∙ are.second)

key_is : (keys : Keys) (place : KeyPlace) (a b : List ℕ) → IsKeyAt keys place a → IsKeyAt keys place b → a ≡ b
key_is keys places.First a b is is' = sym is ∙ is'
key_is keys places.Second a b is is' = let e = sym is ∙ is' in cc

-- the datagram bears the tag of the packet that it brings
bears : (shared : SharedKeys) (number count m : ℕ) (door : SealedDoor) (sender : SocketAddr) (bytes packet : List ℕ) (d : Incoming)
    → IsDoorOf shared number count m door → BringsSealed door sender bytes d → packet ≡ d.bytes.items → BearsTagOf shared number count m bytes packet
bears shared number count m door sender bytes packet d is_door b is =
    let p = b.piece in
    let o = b.is_piece in
    let s = b.sealed in
    let same = key_is door.keys p.place s.0 o.block s.1 o.is_key in
    let to : p.label.to ≡ m = o.opens.to ∙ is_door.own in
    record {
      block = o.block;
      is_key = key_of shared number count door.keys p.place o.block is_door.keys o.is_key;
      label = p.label;
      index = p.index;
      part = p.part.now;
      opens = subst (λ (n : ℕ). Opens o.block n bytes p.label p.index p.part.now) is_door.own o.opens;
      sealed = s.2
          ∙ ap (λ (k : List ℕ). label_of k p.label.from p.label.to d.bytes.items) same
          ∙ ap (λ (n : ℕ). label_of o.block p.label.from n d.bytes.items) to
          ∙ ap (λ (l : List ℕ). label_of o.block p.label.from m l) (sym is);
    }

module _ {S : Type 0} (came : S → SocketAddr → List ℕ → Type 0) where
  pub packets_came : SealedPacketsCame came
  packets_came = λ shared number count day m socket door packet now is_door it premise.
      premise it.1.0 it.1.1 it.1.2 (bears shared number count m door it.1.0 it.1.1 packet it.0 is_door it.1.3 it.2)

  call_came : (shared : SharedKeys) (number count : ℕ) (day : List Happened) (m : ℕ) (socket : S) (door : SealedDoor) (call : Call) → IsDoorOf shared number count m door
      → CallTakes (IsLetIn (came socket) door) call → CallNeedsKey shared number count (came socket) day m call → Came day m call
  call_came shared number count day m socket door (Receiving packet now) is_door it premise = packets_came shared number count day m socket door packet now is_door it premise
  call_came shared number count day m socket door (Offering n entry now) is_door it premise = tt
  call_came shared number count day m socket door (Seeking n now) is_door it premise = tt
  call_came shared number count day m socket door (Falling_due now) is_door it premise = tt
  call_came shared number count day m socket door (Recalling n to) is_door it premise = tt

  event_came : (shared : SharedKeys) (number count : ℕ) (day : List Happened) (m : ℕ) (socket : S) (door : SealedDoor) (event : Event) → IsDoorOf shared number count m door
      → ReceivesSuch (IsLetIn (came socket) door) event → NeedsKey shared number count (came socket) day m event → CameWith day m event
  event_came shared number count day m socket door (asked moment) is_door it premise = tt
  event_came shared number count day m socket door (aside what) is_door it premise = tt
  event_came shared number count day m socket door (took call answer) is_door it premise = call_came shared number count day m socket door call is_door it premise
  event_came shared number count day m socket door (stored answer) is_door it premise = tt

  -- what holds of a member's log holds of its first event, and of what is left of the log
  first_taken : (Is : List ℕ → Type 0) (m : ℕ) (event : Event) (rest : Order) → AllTaken Is (log_of m ((m, event) ∷ rest)) → ReceivesSuch Is event × AllTaken Is (log_of m rest)
  first_taken Is m event rest all = subst (AllTaken Is) (log_here m event rest) all

  rest_taken : (Is : List ℕ → Type 0) (m k : ℕ) (event : Event) (rest : Order) → AllTaken Is (log_of m ((k, event) ∷ rest)) → AllTaken Is (log_of m rest)
  rest_taken Is m k event rest all = go (k == m) refl
    where
      go : (b : Bool) → (k == m) ≡ b → AllTaken Is (log_of m rest)
      go true same = (first_taken Is m event rest (subst (λ (n : ℕ). AllTaken Is (log_of m ((n, event) ∷ rest))) (eqb-true k m same) all)).1
      go false apart = subst (AllTaken Is) (log_elsewhere m k event rest apart) all

  in_turn : (shared : SharedKeys) (number count : ℕ) (day : List Happened) (sockets : ℕ → S) (order : Order)
      → AreSealed came shared number count sockets order → NeedKey shared number count (λ m. came (sockets m)) day order → IsInTurn count day order
  in_turn shared number count day sockets [] s premise = tt
  in_turn shared number count day sockets ((k, event) ∷ rest) s premise = (
    premise.0,
    event_came shared number count day k (sockets k) (s.doors k) event (s.are_doors k premise.0)
        (first_taken (IsLetIn (came (sockets k)) (s.doors k)) k event rest (s.let_in k premise.0)).0 premise.1,
    in_turn shared number count (day_with k event day) sockets rest
        (record { doors = s.doors; are_doors = s.are_doors; let_in = λ m is. rest_taken (IsLetIn (came (sockets m)) (s.doors m)) m k event rest (s.let_in m is) }) premise.2,
  )

  pub orders_are_in_turn : SealedOrdersAreInTurn came
  orders_are_in_turn = in_turn

  pub logs_agree : {R : Type 0} (g : Ghosts R) (is_settled : R → Type 0) → LogsAgree g is_settled → SealedLogsAgree g is_settled came
  logs_agree g is_settled agree = λ p shared day at sockets order last d logs s premise.
      agree p day at order last d logs (in_turn shared p.number p.count day sockets order s premise)
