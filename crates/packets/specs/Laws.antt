-- The laws of the grammar and of reading.
use Rattle.std.specs.Prelude.{◌≡◌, ℕ, ◌<◌, ◌≤◌, List, [], ◌∷◌, ◌++◌, length, Ok}
use Rattle.tape_frames.specs.Packing.{OnePacking, PackingIsGiven, UnpackingUndoes, TapesArePacked, PackedAreTapes}
use Rattle.protocol.specs.Entries.{Tape, Entry}
use Rattle.protocol.specs.Versions.{Version, One, Two}
use Rattle.protocol.specs.Packets.{Packet, Accepted}
use Rattle.tape_frames.specs.Entries.{IsEntry}
use Rattle.protocol.specs.Limits.{most_members}
use Rattle.protocol.specs.Circuit.{Circuit}
use Rattle.protocol.specs.Fitting.{BodyFits, SpellsWhatFits}
use Rattle.protocol.specs.Progress.{SpellsWhatMayBeSaid}
use Rattle.packets.specs.declared.fault.PacketFault.{PacketFault}
use Rattle.packets.specs.Grammar.{IsBytes, Spells, IsPacket, said_version}
use Rattle.packets.specs.Reading.{packet_in, packet_at}

-- each packet whose entries fit the version has a spelling in it, and only one
abbrev pub HasOneSpelling : Type 0
HasOneSpelling =
    (v : Version) (p : Packet) → IsPacket p → BodyFits v p.body
    → (bytes : List ℕ) × Spells v bytes p × ((other : List ℕ) → Spells v other p → other ≡ bytes)

-- nothing else has one: what is spelled in a version is a packet, and its entries fit the version
abbrev pub OnlyWhatFits : Type 0
OnlyWhatFits = (v : Version) (bytes : List ℕ) (p : Packet) → Spells v bytes p → IsPacket p × BodyFits v p.body

-- what spells a packet in a version says that it is of it
abbrev pub SaysItsVersion : Type 0
SaysItsVersion = (v : Version) (bytes : List ℕ) (p : Packet) → Spells v bytes p → said_version bytes ≡ v

-- no bytes spell two packets, of one version or of two
abbrev pub OnePacket : Type 0
OnePacket = (v w : Version) (bytes : List ℕ) (p q : Packet) → Spells v bytes p → Spells w bytes q → (v ≡ w) × (p ≡ q)

-- no spelling of either version is the front of another's: two of which one begins with the other are equal
abbrev pub NoFront : Type 0
NoFront = (v w : Version) (short long rest : List ℕ) (p q : Packet) → Spells v short p → Spells w long q → long ≡ short ++ rest → short ≡ long

-- the fewest bytes of a packet: a Prepare is its header alone, the ballot in it
abbrev pub shortest : ℕ
shortest = 17

-- the most bytes of a packet in a version: a Promise that reports a vote for the longest tape of the version. Behind the 17 bytes
-- of the header stand a flag, the reported ballot in 5 bytes, a length in 2 and the frames: 4,096 of them in version 1, one a byte,
-- and in version 2 16,384, packed in 12,288 bytes
abbrev pub longest : Version → ℕ
longest One = 4121
longest Two = 12313

-- what spells a packet in a version has no fewer bytes than the shortest, and no more than the longest of the version
abbrev pub LengthsAreBounded : Type 0
LengthsAreBounded = (v : Version) (bytes : List ℕ) (p : Packet) → Spells v bytes p → (shortest ≤ length bytes) × (length bytes ≤ longest v)

-- what spells a packet in a version is read as it in that version
abbrev pub ReadsItAgain : Type 0
ReadsItAgain = (v : Version) (bytes : List ℕ) (p : Packet) → Spells v bytes p → packet_in v bytes ≡ Ok p

-- and nothing else is
abbrev pub FindsWhatIsSpelled : Type 0
FindsWhatIsSpelled = (v : Version) (bytes : List ℕ) (p : Packet) → IsBytes bytes → packet_in v bytes ≡ Ok p → Spells v bytes p

-- what is read in a version says that it is of it
abbrev pub ReadAsSaid : Type 0
ReadAsSaid = (v : Version) (bytes : List ℕ) (p : Packet) → packet_in v bytes ≡ Ok p → said_version bytes ≡ v

-- the entries of what is read in a version fit it
abbrev pub ReadWhatFits : Type 0
ReadWhatFits = (v : Version) (bytes : List ℕ) (p : Packet) → packet_in v bytes ≡ Ok p → BodyFits v p.body

-- a station of version 2 reads what is spelled in either version
abbrev pub TwoReadsBoth : Type 0
TwoReadsBoth = (v : Version) (bytes : List ℕ) (p : Packet) → packet_in v bytes ≡ Ok p → packet_at Two bytes ≡ Ok p

-- what is known of packings
pub record Packings : Type 0 where
  pub one : OnePacking
  pub given : PackingIsGiven
  pub undoes : UnpackingUndoes
  pub tapes : TapesArePacked
  pub are_tapes : PackedAreTapes

-- of member 2 to member 1 of circuit 7: that it voted for this entry for number 12 at ballot 1.1
abbrev pub worked_packet : Entry → Packet
worked_packet entry = record { circuit = 7; from = 2; to = 1; number = 12; ballot = record { round = 1; owner = 1 }; body = Accepted entry }

-- a tape of seven frames
abbrev pub worked_tape : Tape
worked_tape = 1 ∷ 2 ∷ 3 ∷ 1 ∷ 3 ∷ 2 ∷ 4 ∷ []

-- its frames, packed
abbrev pub worked_packing : List ℕ
worked_packing = 4 ∷ 32 ∷ 193 ∷ 12 ∷ 33 ∷ 0 ∷ []

-- the packet's spelling in version 2 as far as the entry
abbrev pub worked_front : List ℕ
worked_front = 84 ∷ 78 ∷ 2 ∷ 4 ∷ 0 ∷ 7 ∷ 2 ∷ 1 ∷ 0 ∷ 0 ∷ 0 ∷ 12 ∷ 0 ∷ 0 ∷ 0 ∷ 1 ∷ 1 ∷ []

-- a circuit of no more members than there may be, whose number has two bytes and that reads by the grammar: what it reads fits,
-- and it has a spelling for each packet that a member may send, whose entry is one and fits
abbrev pub MembersCanSpeak : (G F : Type 0) → Type 0
MembersCanSpeak G F =
    (z : Circuit PacketFault G F) → z.number < 65536 → z.count ≤ most_members → ((v : Version) (bytes : List ℕ) → z.reads v bytes ≡ packet_in v bytes)
    → SpellsWhatFits z × ((v : Version) → SpellsWhatMayBeSaid z v IsEntry)
