-- What a datagram brings to a station on a sealed wire.
use Rattle.std.specs.Prelude.{◌≡◌, ◌≢◌, ◌⊎◌, ℕ, ◌<◌, Bool, true, false, List, Some, None, length, slice_index}
use Rattle.std.specs.List.{All}
use Rattle.std.specs.declared.net.socket_addr.SocketAddr.{SocketAddr}
use Rattle.pace.specs.declared.share.Incoming.{Incoming}
use Rattle.wire.specs.declared.address.Address.{Address}
use Rattle.wire.specs.Addresses.{IsAt, ComesFrom, address_of}
use Rattle.wire.specs.Plain.{has_mark}
use Rattle.wire.specs.declared.door.Brought.{Brought}
use Rattle.wire.specs.declared.door.Brought.TheVariants as brought
use Rattle.wire.specs.declared.reason.Reason.{Reason}
use Rattle.wire.specs.declared.reason.Reason.TheVariants as reasons
use Rattle.seals.specs.Sealing.{count_of, label_of, sealed}
use Rattle.seals.specs.Opening.{OpensAt, OpensNone}
use Rattle.seals.specs.declared.head.SealFault.{SealFault}
use Rattle.seals.specs.declared.head.SealFault.TheVariants as faults
use Rattle.seals.specs.declared.label.Label.{Label}
use Rattle.seals.specs.declared.opening.Keys.{Keys}
use Rattle.seals.specs.declared.opening.Piece.{Piece}
use Rattle.seals.specs.Parts.{Parts, IsSealedAs}
use Rattle.seals.specs.Places.{Gathers}
use Rattle.sealed_door.specs.declared.door.SealedDoor.{SealedDoor}

-- the packet names these as its sender and its addressee, in its seventh byte and its eighth
abbrev pub IsFromTo : List ℕ → ℕ → ℕ → Type 0
IsFromTo packet from to = (7 < length packet) × (slice_index packet 6 ≡ from) × (slice_index packet 7 ≡ to)

-- the datagram is, under the key at the piece's place, this part of the packet with its label
abbrev pub IsPiece : Keys → ℕ → List ℕ → Piece → Type 0
IsPiece keys own bytes p = OpensAt keys p.place own bytes p.label p.index p.part.now

-- what is said of a datagram that is not opened
abbrev pub reason_of : SealFault → Reason
reason_of faults.BadTag = reasons.OtherKey
reason_of faults.Short = reasons.NoPart
reason_of faults.BadMark = reasons.NoPart
reason_of faults.BadVersion = reasons.NoPart
reason_of faults.BadMember = reasons.NoPart
reason_of faults.NotForMe = reasons.NoPart
reason_of faults.BadLength = reasons.NoPart

-- a packet that names both is brought as it is, and another is refused
abbrev pub IsNamed : ℕ → ℕ → List ℕ → Brought → Type 0
IsNamed from to packet (brought.Packet d) = IsFromTo packet from to × (d.sender ≡ from) × (d.bytes.items ≡ packet)
IsNamed from to packet brought.Part = ⊥
IsNamed from to packet brought.Lost = ⊥
IsNamed from to packet (brought.Refused reason) = (¬ IsFromTo packet from to) × (reason ≡ reasons.NoPart)

-- a piece whose packet has this part alone brings it where it was sealed so; it may be lost for memory
abbrev pub AdmitsAlone : Keys → ℕ → Piece → Brought → Type 0
AdmitsAlone keys own p (brought.Packet d) =
    IsSealedAs keys p.place p.label d.bytes.items × (d.sender ≡ p.label.from) × IsFromTo d.bytes.items d.sender own
AdmitsAlone keys own p brought.Part = ⊥
AdmitsAlone keys own p brought.Lost = Unit {0}
AdmitsAlone keys own p (brought.Refused reason) =
    (reason ≡ reasons.NoPart)
    × ((¬ IsSealedAs keys p.place p.label p.part.now)
    ⊎ ((packet : List ℕ) × IsSealedAs keys p.place p.label packet × (¬ IsFromTo packet p.label.from own)))

-- a piece whose packet has several parts brings it with the last that lacked; it may be lost for memory
abbrev pub AdmitsPart : Keys → ℕ → Piece → List Parts → List Parts → Brought → Type 0
AdmitsPart keys own p old new (brought.Packet d) =
    IsSealedAs keys p.place p.label d.bytes.items × (d.sender ≡ p.label.from) × IsFromTo d.bytes.items d.sender own
AdmitsPart keys own p old new brought.Part = Gathers keys p.place p.label p.index p.part.now old new None
AdmitsPart keys own p old new brought.Lost = Unit {0}
AdmitsPart keys own p old new (brought.Refused reason) =
    (reason ≡ reasons.NoPart)
    × ((packet : List ℕ) × IsSealedAs keys p.place p.label packet × (¬ IsFromTo packet p.label.from own))

-- what a piece brings, by how many parts its packet has
abbrev pub AdmitsPiece : SealedDoor → SealedDoor → Piece → Brought → Type 0
AdmitsPiece old new p b =
    ((count_of p.label.length ≡ 1) × AdmitsAlone old.keys old.own p b)
    ⊎ ((count_of p.label.length ≢ 1) × AdmitsPart old.keys old.own p old.gathering new.gathering b)

-- a datagram of this sender is opened and comes from where its sender listens, and brings what its piece brings
pub record BringsPiece (old new : SealedDoor) (sender : SocketAddr) (bytes : List ℕ) (b : Brought) : Type 0 where
  pub piece : Piece
  pub is_piece : IsPiece old.keys old.own bytes piece
  pub comes : ComesFrom old.stations.items piece.label.from sender
  pub admits : AdmitsPiece old new piece b

-- what a datagram of this sender brings: it is refused as one of a stranger, as not sealed, as under no key of the circuit or no part of
-- a packet for this member, or as one from elsewhere than its sender listens; or else it brings what its piece brings
abbrev pub AdmitsSealed : SealedDoor → SealedDoor → SocketAddr → List ℕ → Brought → Type 0
AdmitsSealed old new sender bytes b =
    ((b ≡ brought.Refused reasons.Stranger) × All (λ a. ¬ IsAt a sender) old.stations.items)
    ⊎ (((b ≡ brought.Refused reasons.NotSealed) × (has_mark 83 bytes ≡ false))
    ⊎ (((fault : SealFault) × (b ≡ brought.Refused (reason_of fault)) × OpensNone old.keys old.own bytes)
    ⊎ (((piece : Piece) × (b ≡ brought.Refused reasons.Elsewhere) × IsPiece old.keys old.own bytes piece × (¬ ComesFrom old.stations.items piece.label.from sender))
    ⊎ BringsPiece old new sender bytes b)))

-- a datagram of this sender brings this packet: under a key of the station, it bears the tag of the whole packet, sealed by the member that
-- the packet names as its sender, for this station, which it names as well; and it comes from where that member listens
pub record BringsSealed (door : SealedDoor) (sender : SocketAddr) (bytes : List ℕ) (d : Incoming) : Type 0 where
  pub piece : Piece
  pub is_piece : IsPiece door.keys door.own bytes piece
  pub sealed : IsSealedAs door.keys piece.place piece.label d.bytes.items
  pub from : d.sender ≡ piece.label.from
  pub comes : ComesFrom door.stations.items piece.label.from sender
  pub names : IsFromTo d.bytes.items d.sender door.own

-- a door stays as it is, but for the packets of which some parts are there
pub record KeepsDoor (old new : SealedDoor) : Type 0 where
  pub keys : new.keys ≡ old.keys
  pub own : new.own ≡ old.own
  pub stations : new.stations ≡ old.stations

-- the socket was given the first datagrams of a packet for an address, sealed under this key with this label, and took each
abbrev pub TookFirst : (Address → List ℕ → Bool → Type 0) → Address → List ℕ → Label → List ℕ → ℕ → Type 0
TookFirst given address block label packet count = (index : ℕ) → index < count → given address (sealed block label index packet) true

-- all of them
abbrev pub TookAll : (Address → List ℕ → Bool → Type 0) → Address → List ℕ → Label → List ℕ → Type 0
TookAll given address block label packet = TookFirst given address block label packet (count_of label.length)

-- a packet is sent where the addressee has an address, and the packet a length that is sealed: as each of its datagrams, sealed under the first
-- key for the addressee. Where that is answered the socket took them all
abbrev pub sends_sealed : SealedDoor → (Address → List ℕ → Bool → Type 0) → ℕ → List ℕ → Bool → Type 0
sends_sealed door given to bytes sent =
    sent ≡ true → (address : Address) × (address_of door.stations.items to ≡ Some address) × TookAll given address door.keys.first (label_of door.keys.first door.own to bytes) bytes
