-- Which datagrams a station without a key takes in.
use Rattle.std.specs.Prelude.{◌≡◌, ◌⊎◌, ℕ, List, length, slice_index, slice_index_or, Bool, false, not, ◌&&◌, ◌||◌, ◌==◌, nat_lt, Option, Some, None, MatchOption, if◌then◌else◌}
use Rattle.std.specs.List.{All}
use Rattle.std.specs.declared.net.socket_addr.SocketAddr.{SocketAddr}
use Rattle.std.specs.declared.vec.Vec.{Vec}
use Rattle.std.specs.Global.{Global}
use Rattle.pace.specs.declared.share.Incoming.{Incoming}
use Rattle.wire.specs.Addresses.{IsAt, IsFirstAt, address_of}
use Rattle.wire.specs.declared.address.Address.{Address}
use Rattle.wire.specs.declared.door.Brought.{Brought}
use Rattle.wire.specs.declared.door.Brought.TheVariants as brought
use Rattle.wire.specs.declared.plain.PlainDoor.{PlainDoor}
use Rattle.wire.specs.declared.reason.Reason.{Reason}
use Rattle.wire.specs.declared.reason.Reason.TheVariants as reasons

-- the door of this member, over these addresses of the stations
abbrev pub plain_door : ℕ → Vec Address Global → PlainDoor
plain_door own stations = record { own = own; stations = stations }

-- a datagram begins with T and this letter
abbrev pub has_mark : ℕ → List ℕ → Bool
has_mark letter bytes = nat_lt 1 (length bytes) && (slice_index bytes 0 == 84 && slice_index bytes 1 == letter)

-- a packet (TN), a recall or a roll call (TR) that names, in its seventh byte, another sender than this member
abbrev pub names_another : ℕ → List ℕ → Bool
names_another member bytes =
    (has_mark 78 bytes || has_mark 82 bytes) && (nat_lt 6 (length bytes) && not (slice_index bytes 6 == member))

-- what stands against a datagram from where this member listens: it is the station itself; it is sealed (TS); it names another
abbrev pub reason_against : ℕ → ℕ → List ℕ → Option Reason
reason_against own member bytes =
    if member == own then Some reasons.OwnAddress else
    if has_mark 83 bytes then Some reasons.Sealed else
    if names_another member bytes then Some reasons.OtherSender else None

-- a datagram of this sender comes from where this member listens, and nothing stands against it
pub record IsFrom (own : ℕ) (stations : List Address) (sender : SocketAddr) (member : ℕ) (bytes : List ℕ) : Type 0 where
  pub place : ℕ
  pub at : IsFirstAt stations sender place
  pub is : (a : Address) → (slice_index_or stations place a).member ≡ member
  pub clean : reason_against own member bytes ≡ None

-- for this reason a datagram of this sender is not taken in: it comes from no station, or this stands against it as one of a station
abbrev pub IsAgainst : ℕ → List Address → SocketAddr → List ℕ → Reason → Type 0
IsAgainst own stations sender bytes reason =
    ((reason ≡ reasons.Stranger) × All (λ a. ¬ IsAt a sender) stations)
    ⊎ ((place : ℕ) × IsFirstAt stations sender place × ((a : Address) → reason_against own (slice_index_or stations place a).member bytes ≡ Some reason))

-- a datagram is taken in as it is, as one of the member that listens where it came from; or it is lost for memory, or something stands
-- against it
abbrev pub AdmitsPlain : ℕ → List Address → SocketAddr → List ℕ → Brought → Type 0
AdmitsPlain own stations sender bytes (brought.Packet d) = IsFrom own stations sender d.sender bytes × (d.bytes.items ≡ bytes)
AdmitsPlain own stations sender bytes brought.Part = ⊥
AdmitsPlain own stations sender bytes brought.Lost = (member : ℕ) × IsFrom own stations sender member bytes
AdmitsPlain own stations sender bytes (brought.Refused reason) = IsAgainst own stations sender bytes reason

-- a datagram of this sender brings this packet at a station without a key: it is the packet, comes from where its sender listens, and nothing
-- stands against it
abbrev pub brings_plain : ℕ → List Address → SocketAddr → List ℕ → Incoming → Type 0
brings_plain own stations sender bytes d = IsFrom own stations sender d.sender bytes × (d.bytes.items ≡ bytes)

-- a packet is sent as it is, where the addressee has an address
abbrev pub sends_plain : List Address → (Address → List ℕ → Bool → Type 0) → ℕ → List ℕ → Bool → Type 0
sends_plain stations given to bytes sent = MatchOption (address_of stations to) (sent ≡ false) (λ address. given address bytes sent)

-- a packet is sent so through a plain door, which stays as it is
pub record SendsPlain (old new : PlainDoor) (given : Address → List ℕ → Bool → Type 0) (to : ℕ) (bytes : List ℕ) (sent : Bool) : Type 0 where
  pub sends : sends_plain old.stations.items given to bytes sent
  pub door : new ≡ old

-- it is the packet of these bytes, of this member; or it is lost for memory
abbrev pub IsPacketOf : ℕ → List ℕ → Brought → Type 0
IsPacketOf sender bytes (brought.Packet d) = (d.sender ≡ sender) × (d.bytes.items ≡ bytes)
IsPacketOf sender bytes brought.Part = ⊥
IsPacketOf sender bytes brought.Lost = Unit {0}
IsPacketOf sender bytes (brought.Refused reason) = ⊥
