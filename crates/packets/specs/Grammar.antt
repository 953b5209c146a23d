-- The grammar of packets, in either version: which bytes spell which packet. Every number is big-endian.
-- It says what each field is, and neither how a packet is read nor how it is written.
-- Version 1 spells tapes alone, one frame a byte; version 2 spells each entry, its frames packed. Else they differ in one byte.
use Rattle.std.specs.Prelude.{◌≡◌, ℕ, ◌+◌, ◌*◌, ◌<◌, ◌≤◌, ◌⊎◌, List, [], ◌∷◌, ◌++◌, length, slice_index, Some, None, IsTrue, ◌==◌, if◌then◌else◌}
use Rattle.tape_frames.specs.Frames.{AreFrames}
use Rattle.tape_frames.specs.Packing.{AreBytes, Packs}
use Rattle.tape_frames.specs.Entries.{entry_frames, IsEntry}
use Rattle.protocol.specs.Ballots.{Ballot, IsBallot, IsMember}
use Rattle.protocol.specs.Entries.{Tape, Entry, Void, Taped}
use Rattle.protocol.specs.Rows.{Vote}
use Rattle.protocol.specs.Versions.{Version, One, Two}
use Rattle.protocol.specs.Packets.{Packet, Body, Prepare, Promise, Accept, Accepted, Nack}
use Rattle.protocol.specs.Limits.{most_members, last_number, most_frames_one}
use Rattle.packets.specs.Rules.{keeps_rules}

-- a tape that version 1 spells: one frame or more, up to its most
pub record IsTapeOne (tape : Tape) : Type 0 where
  pub some : 1 ≤ length tape
  pub few : length tape ≤ most_frames_one
  pub small : AreFrames tape

-- each of the list is a byte
abbrev pub IsBytes : List ℕ → Type 0
IsBytes bytes = (i : ℕ) → slice_index bytes i < 256

-- two bytes that are the number
abbrev pub SpellsTwo : List ℕ → ℕ → Type 0
SpellsTwo (b1 ∷ b0 ∷ []) n = (b1 < 256) × (b0 < 256) × (n ≡ 256 * b1 + b0)
SpellsTwo bytes n = ⊥

-- four bytes that are the number
abbrev pub SpellsFour : List ℕ → ℕ → Type 0
SpellsFour (b3 ∷ b2 ∷ b1 ∷ b0 ∷ []) n =
    (b3 < 256) × (b2 < 256) × (b1 < 256) × (b0 < 256) × (n ≡ 16777216 * b3 + 65536 * b2 + 256 * b1 + b0)
SpellsFour bytes n = ⊥

-- the round in four bytes, and the owner
pub record SpellsBallot (bytes : List ℕ) (b : Ballot) : Type 0 where
  pub round : List ℕ
  pub are : bytes ≡ round ++ b.owner ∷ []
  pub spells_round : SpellsFour round b.round
  pub is_ballot : IsBallot b

-- version 1: the length of a tape in two bytes, and its frames
pub record SpellsTape (bytes : List ℕ) (tape : Tape) : Type 0 where
  pub count : List ℕ
  pub are : bytes ≡ count ++ tape
  pub spells_count : SpellsTwo count (length tape)
  pub is_tape : IsTapeOne tape

-- version 2: how many frames the entry has, in two bytes, 0 for a withdrawal; and the frames packed
pub record SpellsPacked (bytes : List ℕ) (entry : Entry) : Type 0 where
  pub count : List ℕ
  pub packed : List ℕ
  pub are : bytes ≡ count ++ packed
  pub spells_count : SpellsTwo count (length (entry_frames entry))
  pub packs : Packs (entry_frames entry) packed
  pub are_bytes : AreBytes packed
  pub is_entry : IsEntry entry

-- an entry in either version; version 1 spells no withdrawal
abbrev pub SpellsEntry : Version → List ℕ → Entry → Type 0
SpellsEntry One bytes Void = ⊥
SpellsEntry One bytes (Taped tape) = SpellsTape bytes tape
SpellsEntry Two bytes entry = SpellsPacked bytes entry

-- a 1, the ballot and the entry
pub record SpellsVote (v : Version) (bytes : List ℕ) (vote : Vote) : Type 0 where
  pub ballot : List ℕ
  pub entry : List ℕ
  pub are : bytes ≡ 1 ∷ ballot ++ entry
  pub spells_ballot : SpellsBallot ballot vote.ballot
  pub spells_entry : SpellsEntry v entry vote.entry

-- the number of a version
abbrev pub number_of_version : Version → ℕ
number_of_version One = 1
number_of_version Two = 2

-- the number of the kind
abbrev pub number_of_kind : Body → ℕ
number_of_kind Prepare = 1
number_of_kind (Promise report) = 2
number_of_kind (Accept entry) = 3
number_of_kind (Accepted entry) = 4
number_of_kind (Nack promised) = 5

-- what stands after the header
abbrev pub SpellsBody : Version → List ℕ → Body → Type 0
SpellsBody v bytes Prepare = bytes ≡ []
SpellsBody v bytes (Promise None) = bytes ≡ 0 ∷ []
SpellsBody v bytes (Promise (Some vote)) = SpellsVote v bytes vote
SpellsBody v bytes (Accept entry) = SpellsEntry v bytes entry
SpellsBody v bytes (Accepted entry) = SpellsEntry v bytes entry
SpellsBody v bytes (Nack promised) = SpellsBallot bytes promised

-- the bytes spell the packet in this version: the mark TN, the version, the kind, the circuit, the sender, the addressee,
-- the number and the ballot, and then the body
pub record Spells (v : Version) (bytes : List ℕ) (p : Packet) : Type 0 where
  pub circuit : List ℕ
  pub number : List ℕ
  pub ballot : List ℕ
  pub body : List ℕ
  pub are :
      bytes
      ≡ 84 ∷ 78 ∷ number_of_version v ∷ number_of_kind p.body ∷ [] ++ circuit ++ p.from ∷ p.to ∷ [] ++ number ++ ballot ++ body
  pub spells_circuit : SpellsTwo circuit p.circuit
  pub from_is_member : IsMember most_members p.from
  pub to_is_member : IsMember most_members p.to
  pub spells_number : SpellsFour number p.number
  pub number_low : 1 ≤ p.number
  pub number_high : p.number ≤ last_number
  pub spells_ballot : SpellsBallot ballot p.ballot
  pub spells_body : SpellsBody v body p.body
  pub rules : IsTrue (keeps_rules p)

-- the bytes spell what says the same, to whatever member
abbrev pub SpellsAlike : Version → List ℕ → Packet → Type 0
SpellsAlike v bytes p = (to : ℕ) × Spells v bytes (record p { to = to })

-- the bytes spell the packet in a version that a station of this version reads: at version 1 in that alone, at version 2 in either
abbrev pub SpellsAt : Version → List ℕ → Packet → Type 0
SpellsAt One bytes p = Spells One bytes p
SpellsAt Two bytes p = Spells One bytes p ⊎ Spells Two bytes p

-- of which version bytes say that they are: their third byte
abbrev pub said_version : List ℕ → Version
said_version bytes = if slice_index bytes 2 == 2 then Two else One

-- the ballots and entries of a body are such
abbrev pub IsBody : Body → Type 0
IsBody Prepare = Unit {0}
IsBody (Promise None) = Unit {0}
IsBody (Promise (Some vote)) = IsBallot vote.ballot × IsEntry vote.entry
IsBody (Accept entry) = IsEntry entry
IsBody (Accepted entry) = IsEntry entry
IsBody (Nack promised) = IsBallot promised

-- each field of the header is in its range
pub record IsHeader (p : Packet) : Type 0 where
  pub circuit : p.circuit < 65536
  pub from : IsMember most_members p.from
  pub to : IsMember most_members p.to
  pub number_low : 1 ≤ p.number
  pub number_high : p.number ≤ last_number
  pub ballot : IsBallot p.ballot

-- what has a spelling in some version: each field is in its range, and the rules are kept
pub record IsPacket (p : Packet) : Type 0 where
  pub circuit : p.circuit < 65536
  pub from : IsMember most_members p.from
  pub to : IsMember most_members p.to
  pub number_low : 1 ≤ p.number
  pub number_high : p.number ≤ last_number
  pub ballot : IsBallot p.ballot
  pub body : IsBody p.body
  pub rules : IsTrue (keeps_rules p)
