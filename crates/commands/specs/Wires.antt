-- What a wire of the machine that the program runs on is opened for, and what its door does.
use Rattle.std.specs.Prelude.{◌≡◌, ℕ, Bool, List, Option, Some, None}
use Rattle.std.specs.declared.net.socket_addr.SocketAddr.{SocketAddr}
use Rattle.pace.specs.declared.share.Incoming.{Incoming}
use Rattle.wire.specs.declared.address.Address.{Address}
use Rattle.wire.specs.Guarded.{passed_of}
use Rattle.wire.specs.Passing.{Trace}
use Rattle.wire.specs.Doors.{NoneWaits}
use Rattle.wire.specs.Plain.{brings_plain, sends_plain}
use Rattle.seals.specs.declared.opening.Keys.{Keys}
use Rattle.sealed_door.specs.Admitting.{BringsSealed, sends_sealed}
use Rattle.commands.specs.declared.host_door.HostDoor.{HostDoor}
use Rattle.commands.specs.declared.host_door.HostDoor.TheVariants as doors
use Rattle.commands.specs.declared.host_wire.HostWire.{HostWire}

-- which packet a datagram of a sender brings
abbrev pub BringsAt : HostDoor → SocketAddr → List ℕ → Incoming → Type 0
BringsAt (doors.Plain door) = brings_plain door.own door.stations.items
BringsAt (doors.Sealed door) = BringsSealed door

-- how a packet is sent to a member
abbrev pub sends_at : HostDoor → (Address → List ℕ → Bool → Type 0) → ℕ → List ℕ → Bool → Type 0
sends_at (doors.Plain door) = sends_plain door.stations.items
sends_at (doors.Sealed door) = sends_sealed door

-- the door of the member of this address, of these stations: sealed under these keys, or plain where there are none
abbrev pub IsHostDoor : HostDoor → Address → List Address → Option Keys → Type 0
IsHostDoor (doors.Plain door) own stations keys = (keys ≡ None) × (door.own ≡ own.member) × (door.stations.items ≡ stations)
IsHostDoor (doors.Sealed door) own stations keys = (keys ≡ Some door.keys) × (door.own ≡ own.member) × (door.stations.items ≡ stations)

-- a wire behind such a door, in which nothing waits yet
abbrev pub IsHostWire : HostWire → Address → List Address → Option Keys → Type 0
IsHostWire w own stations keys = IsHostDoor w.wire.door own stations keys × NoneWaits w.wire.waiting

-- what such a wire tells: each datagram that comes is a packet that its door let in. Of what comes to a socket of this machine nothing is known
abbrev pub host_passed : HostWire → Trace
host_passed w = passed_of (λ socket sender bytes. Unit {0}) BringsAt w.wire
