-- What the head of a datagram says.
use Rattle.std.specs.Prelude.{ℕ, List, Option, Some, None, Result, Ok, Err, ◌==◌, if◌then◌else◌, slice_index}
use Rattle.protocol.specs.Packets.{Packet}
use Rattle.protocol.specs.Versions.{Two}
use Rattle.packets.specs.Rules.{kind_of}
use Rattle.packets.specs.Reading.{packet_at}
use Rattle.packets.specs.declared.fault.PacketFault.{PacketFault}
use Rattle.tape_frames.specs.declared.version.Version.{Version}
use Rattle.tape_frames.specs.declared.version.Version.TheVariants as versions
use Rattle.driver.specs.declared.said.Said.{Said}

-- the version in which bytes say that they are spelled: their third byte
abbrev pub version_in : List ℕ → Version
version_in bytes = if slice_index bytes 2 == 2 then versions.Two else versions.One

-- who sent a packet of this version, about which number and whose ballot, and of which kind it is
abbrev pub said_of : Version → Result Packet PacketFault → Option Said
said_of v (Ok p) = Some (record { sender = p.from; number = p.number; owner = p.ballot.owner; kind = kind_of p.body; version = v })
said_of v (Err fault) = None

-- what bytes say, in the layout that they are of
abbrev pub said_in : List ℕ → Option Said
said_in bytes = said_of (version_in bytes) (packet_at Two bytes)
