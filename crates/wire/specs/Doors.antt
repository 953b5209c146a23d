-- What comes in by a door.
use Rattle.std.specs.Prelude.{◌≡◌, ◌↔◌, ℕ, Bool, List, []}
use Rattle.std.specs.List.{All}
use Rattle.pace.specs.declared.share.Incoming.{Incoming}
use Rattle.std.specs.declared.net.socket_addr.SocketAddr.{SocketAddr}
use Rattle.pace.specs.Room.{WaitingValue, lost_one, puts, share_at}
use Rattle.wire.specs.declared.door.Brought.{Brought}
use Rattle.wire.specs.declared.door.Brought.TheVariants as brought
use Rattle.wire.specs.declared.strangers.ReasonTally.{ReasonTally}
use Rattle.wire.specs.declared.wire.Arrival.{Arrival}
use Rattle.wire.specs.declared.wire.Arrival.TheVariants as arrivals
use Rattle.wire.specs.Strangers.{with_counted}

-- a packet that is brought is such
abbrev pub BringsOnly : (Incoming → Type 0) → Brought → Type 0
BringsOnly Is (brought.Packet d) = Is d
BringsOnly Is brought.Part = Unit {0}
BringsOnly Is brought.Lost = Unit {0}
BringsOnly Is (brought.Refused reason) = Unit {0}

-- what brings packets brings the same
abbrev pub BringsAlike : (SocketAddr → List ℕ → Incoming → Type 0) → (SocketAddr → List ℕ → Incoming → Type 0) → Type 0
BringsAlike brings brings' = (sender : SocketAddr) (bytes : List ℕ) (d : Incoming) → brings' sender bytes d ↔ brings sender bytes d

-- a datagram came that brought this packet
abbrev pub LetIn : (SocketAddr → List ℕ → Type 0) → (SocketAddr → List ℕ → Incoming → Type 0) → Incoming → Type 0
LetIn came brings d = (sender : SocketAddr) × (bytes : List ℕ) × came sender bytes × brings sender bytes d

-- these are the bytes of such a packet
abbrev pub AreOf : (Incoming → Type 0) → List ℕ → Type 0
AreOf Is bytes = (d : Incoming) × Is d × (bytes ≡ d.bytes.items)

-- all that wait are such
abbrev pub AllWait : (Incoming → Type 0) → WaitingValue → Type 0
AllWait Is waiting = (place : ℕ) → All Is (share_at place waiting).datagrams

-- none waits of any member
abbrev pub NoneWaits : WaitingValue → Type 0
NoneWaits waiting = (place : ℕ) → (share_at place waiting).datagrams ≡ []

-- what arrives is such a packet, whole
abbrev pub ComesAs : (Incoming → Type 0) → Arrival → Type 0
ComesAs Is arrivals.Nothing = Unit {0}
ComesAs Is (arrivals.Datagram bytes) = AreOf Is bytes.items
ComesAs Is arrivals.Failed = Unit {0}

-- what is let in stays the same
abbrev pub Alike : (Incoming → Type 0) → (Incoming → Type 0) → Type 0
Alike Is Is' = (d : Incoming) → Is' d ↔ Is d

-- what is let in stays the same, and all that wait are such if they were
pub record Stays (Is Is' : Incoming → Type 0) (old new : WaitingValue) : Type 0 where
  pub alike : Alike Is Is'
  pub wait : AllWait Is old → AllWait Is' new

-- what becomes of what a datagram of this sender brings: a packet waits, or finds no place; a part is for the door alone; what finds no
-- memory is lost; and what is refused is counted
abbrev pub IsKept : Brought → SocketAddr → WaitingValue → List ReasonTally → WaitingValue → List ReasonTally → Type 0
IsKept (brought.Packet d) sender old told new told' = ((found : Bool) × (new ≡ puts found d old)) × (told' ≡ told)
IsKept brought.Part sender old told new told' = (new ≡ old) × (told' ≡ told)
IsKept brought.Lost sender old told new told' = (new ≡ lost_one old) × (told' ≡ told)
IsKept (brought.Refused reason) sender old told new told' = (new ≡ old) × (told' ≡ with_counted reason sender told)
