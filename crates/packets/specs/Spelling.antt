-- The bytes that a packet is written as in a version, each number big-endian.
use Rattle.std.specs.Prelude.{ℕ, List, [], ◌∷◌, ◌++◌, length, Option, Some, None}
use Rattle.std.specs.Int.{w16, w32, to_be_bytes}
use Rattle.tape_frames.specs.Entries.{entry_frames}
use Rattle.tape_frames.specs.Packing.{packing_of}
use Rattle.protocol.specs.Ballots.{Ballot}
use Rattle.protocol.specs.Entries.{Entry}
use Rattle.protocol.specs.Rows.{Vote}
use Rattle.protocol.specs.Versions.{Version, One, Two}
use Rattle.protocol.specs.Packets.{Packet, Body, Prepare, Promise, Accept, Accepted, Nack}
use Rattle.packets.specs.Rules.{kind_of}
use Rattle.packets.specs.Grammar.{number_of_version}
use Rattle.packets.specs.declared.body.PacketKind.{PacketKind}
use Rattle.packets.specs.declared.body.PacketKind.TheVariants as kinds

-- the number of a kind
abbrev pub kind_byte : PacketKind → ℕ
kind_byte kinds.Prepare = 1
kind_byte kinds.Promise = 2
kind_byte kinds.Accept = 3
kind_byte kinds.Accepted = 4
kind_byte kinds.Nack = 5

-- a round and its owner
abbrev pub ballot_bytes : Ballot → List ℕ
ballot_bytes b = to_be_bytes w32 b.round ++ b.owner ∷ []

-- the fields of a header
abbrev pub header_bytes : Version → PacketKind → ℕ → ℕ → ℕ → ℕ → Ballot → List ℕ
header_bytes v kind circuit from to number ballot =
    84 ∷ 78 ∷ number_of_version v ∷ kind_byte kind ∷ [] ++ to_be_bytes w16 circuit ++ from ∷ to ∷ [] ++ to_be_bytes w32 number ++ ballot_bytes ballot

-- the header of a packet
abbrev pub header_of : Version → Packet → List ℕ
header_of v p = header_bytes v (kind_of p.body) p.circuit p.from p.to p.number p.ballot

-- frames: one a byte in version 1, packed in version 2
abbrev pub frame_bytes : Version → List ℕ → List ℕ
frame_bytes One frames = frames
frame_bytes Two frames = packing_of frames

-- how many frames an entry has, none for a withdrawal, and the frames
abbrev pub entry_bytes : Version → Entry → List ℕ
entry_bytes v entry = to_be_bytes w16 (length (entry_frames entry)) ++ frame_bytes v (entry_frames entry)

-- a flag, and behind a 1 the vote
abbrev pub report_bytes : Version → Option Vote → List ℕ
report_bytes v None = 0 ∷ []
report_bytes v (Some vote) = 1 ∷ [] ++ ballot_bytes vote.ballot ++ entry_bytes v vote.entry

-- what stands after the header
abbrev pub body_bytes : Version → Body → List ℕ
body_bytes v Prepare = []
body_bytes v (Promise report) = report_bytes v report
body_bytes v (Accept entry) = entry_bytes v entry
body_bytes v (Accepted entry) = entry_bytes v entry
body_bytes v (Nack promised) = ballot_bytes promised

-- the bytes that a packet is written as
abbrev pub spelling : Version → Packet → List ℕ
spelling v p = header_of v p ++ body_bytes v p.body
