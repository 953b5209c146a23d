-- What a key does for a day: whatever comes to a member was handed out to it, where no tag is made without the key.
use Rattle.std.specs.Prelude.{◌≡◌, ◌⊎◌, ℕ, List, [], ◌∷◌, Some, option_map}
use Rattle.std.specs.declared.net.socket_addr.SocketAddr.{SocketAddr}
use Rattle.protocol.specs.Ballots.{IsMember}
use Rattle.protocol.specs.Refusals.{Call, Offering, Seeking, Falling_due, Receiving, Recalling}
use Rattle.rows_saved.specs.declared.rows.Rows.{Ghosts}
use Rattle.station.specs.declared.station.Station.{Station}
use Rattle.hmac.specs.Hmac.{key_block, hmac_sha256}
use Rattle.wire.specs.Doors.{AreOf, LetIn}
use Rattle.seals.specs.Sealing.{label_of}
use Rattle.seals.specs.Opening.{Opens}
use Rattle.seals.specs.declared.label.Label.{Label}
use Rattle.seals.specs.declared.opening.Keys.{Keys}
use Rattle.circuit_keys.specs.Circuit.{circuit_text}
use Rattle.circuit_keys.specs.declared.key_file.SharedKeys.{SharedKeys}
use Rattle.sealed_door.specs.declared.door.SealedDoor.{SealedDoor}
use Rattle.sealed_door.specs.Admitting.{BringsSealed}
use Rattle.driver.specs.Events.{Event, asked, took, stored, aside}
use Rattle.days.specs.Happening.{Happened, WasHandedOut, Came}
use Rattle.days.specs.Handing.{Plants, Member}
use Rattle.days.specs.Days.{Day, IsDayAgreed, OfferedFirst}
use Rattle.process_days.specs.Telling.{Order, AllTaken, HaveLogs, day_after, day_with, log_of, IsInTurn}

-- the key that a shared key gives the circuit of this number and count
abbrev pub circuit_key : ℕ → ℕ → List ℕ → List ℕ
circuit_key number count shared = key_block (hmac_sha256 shared (circuit_text number count))

-- a station of the circuit of this number and count has these keys, as `circuit_keys` makes them of the shared ones
pub record AreKeysOf (shared : SharedKeys) (number count : ℕ) (keys : Keys) : Type 0 where
  pub first : keys.first ≡ circuit_key number count shared.first
  pub second : keys.second ≡ option_map (circuit_key number count) shared.second

-- this is the door of the station of this member
pub record IsDoorOf (shared : SharedKeys) (number count m : ℕ) (door : SealedDoor) : Type 0 where
  pub keys : AreKeysOf shared number count door.keys
  pub own : door.own ≡ m

-- this is the first of the circuit's keys, or the second, where there is one
abbrev pub IsKeyOf : SharedKeys → ℕ → ℕ → List ℕ → Type 0
IsKeyOf shared number count block =
    (block ≡ circuit_key number count shared.first) ⊎ (Some block ≡ option_map (circuit_key number count) shared.second)

-- a datagram for this member bears, under a key of the circuit, the tag of this whole packet for it
pub record BearsTagOf (shared : SharedKeys) (number count m : ℕ) (bytes packet : List ℕ) : Type 0 where
  pub block : List ℕ
  pub is_key : IsKeyOf shared number count block
  pub label : Label
  pub index : ℕ
  pub part : List ℕ
  pub opens : Opens block m bytes label index part
  pub sealed : label ≡ label_of block label.from m packet

-- the one premise: whoever lacks the key can make no tag. So where a datagram came to a member, and bears the tag of a packet under a key made of
-- the shared key, this number and this count, a process of the circuit of that number and count made it, which had handed the packet out for
-- that member before
abbrev pub NoTagWithoutKey : SharedKeys → ℕ → ℕ → (SocketAddr → List ℕ → Type 0) → List Happened → ℕ → List ℕ → Type 0
NoTagWithoutKey shared number count came day m packet =
    (sender : SocketAddr) (bytes : List ℕ) → came sender bytes → BearsTagOf shared number count m bytes packet → WasHandedOut day m packet

-- a datagram came that brought this packet at a door, as `GuardedWire` tells of all that it gives the station
abbrev pub IsLetIn : (SocketAddr → List ℕ → Type 0) → SealedDoor → List ℕ → Type 0
IsLetIn came door packet = AreOf (LetIn came (BringsSealed door)) packet

-- each packet that a door lets in came as a day asks it: it was handed out to the door's member in the day
abbrev pub SealedPacketsCame : {S : Type 0} → (S → SocketAddr → List ℕ → Type 0) → Type 0
SealedPacketsCame {S = S} came =
    (shared : SharedKeys) (number count : ℕ) (day : List Happened) (m : ℕ) (socket : S) (door : SealedDoor) (packet : List ℕ) (now : ℕ)
    → IsDoorOf shared number count m door → IsLetIn (came socket) door packet → NoTagWithoutKey shared number count (came socket) day m packet
    → Came day m (Receiving packet now)

-- of what a call takes in nobody made a tag without the key
abbrev pub CallNeedsKey : SharedKeys → ℕ → ℕ → (SocketAddr → List ℕ → Type 0) → List Happened → ℕ → Call → Type 0
CallNeedsKey shared number count came day m (Receiving packet now) = NoTagWithoutKey shared number count came day m packet
CallNeedsKey shared number count came day m (Offering n entry now) = Unit {0}
CallNeedsKey shared number count came day m (Seeking n now) = Unit {0}
CallNeedsKey shared number count came day m (Falling_due now) = Unit {0}
CallNeedsKey shared number count came day m (Recalling n to) = Unit {0}

-- nor of what an event takes in
abbrev pub NeedsKey : SharedKeys → ℕ → ℕ → (SocketAddr → List ℕ → Type 0) → List Happened → ℕ → Event → Type 0
NeedsKey shared number count came day m (asked moment) = Unit {0}
NeedsKey shared number count came day m (aside what) = Unit {0}
NeedsKey shared number count came day m (took call answer) = CallNeedsKey shared number count came day m call
NeedsKey shared number count came day m (stored answer) = Unit {0}

-- each event is of a member of the circuit, and of what it takes in nobody made a tag without the key
abbrev pub NeedKey : SharedKeys → ℕ → ℕ → (ℕ → SocketAddr → List ℕ → Type 0) → List Happened → Order → Type 0
NeedKey shared number count came day [] = Unit {0}
NeedKey shared number count came day (x ∷ rest) =
    IsMember count x.0 × NeedsKey shared number count (came x.0) day x.0 x.1 × NeedKey shared number count came (day_with x.0 x.1 day) rest

-- each member's process takes in such packets alone as its own door of the circuit let in, of what came to its own socket
pub record AreSealed {S : Type 0} (came : S → SocketAddr → List ℕ → Type 0) (shared : SharedKeys) (number count : ℕ) (sockets : ℕ → S) (order : Order) : Type 0 where
  pub doors : ℕ → SealedDoor
  pub are_doors : (m : ℕ) → IsMember count m → IsDoorOf shared number count m (doors m)
  pub let_in : (m : ℕ) → IsMember count m → AllTaken (IsLetIn (came (sockets m)) (doors m)) (log_of m order)

-- with a key, that the events of a day are in turn rests on the key alone
abbrev pub SealedOrdersAreInTurn : {S : Type 0} → (S → SocketAddr → List ℕ → Type 0) → Type 0
SealedOrdersAreInTurn {S = S} came =
    (shared : SharedKeys) (number count : ℕ) (day : List Happened) (sockets : ℕ → S) (order : Order)
    → AreSealed came shared number count sockets order → NeedKey shared number count (λ m. came (sockets m)) day order → IsInTurn count day order

-- so what sealed processes release agrees, with all that was released before in the day, on the key alone
abbrev pub SealedLogsAgree : {R S : Type 0} → Ghosts R → (R → Type 0) → (S → SocketAddr → List ℕ → Type 0) → Type 0
SealedLogsAgree {R = R} {S = S} g is_settled came =
    (p : Plants) (shared : SharedKeys) (day : List Happened) (at : ℕ → Member R) (sockets : ℕ → S) (order : Order) (last : ℕ → Station R)
    → Day g p day at → HaveLogs g is_settled p.count at last order → AreSealed came shared p.number p.count sockets order
    → NeedKey shared p.number p.count (λ m. came (sockets m)) day order → IsDayAgreed p (day_after day order) × OfferedFirst (day_after day order)
