-- Reading a packet from its front, with the first fault in the stated order.
use Rattle.std.specs.Prelude.{◌≡◌, ℕ, zero, suc, ◌+◌, List, [], ◌∷◌, length, take, drop, slice_index, not, ◌&&◌, ◌==◌, Option, Some, None, is_some, Result, Ok, Err, nat_lt, nat_le, if◌then◌else◌}
use Rattle.std.specs.Int.{w16, w32, from_be_bytes}
use Rattle.tape_frames.specs.Frames.{most_frames, tape_fault}
use Rattle.tape_frames.specs.Packing.{packed_len, pad_of, unpacked}
use Rattle.protocol.specs.Ballots.{Ballot, is_below}
use Rattle.protocol.specs.Entries.{Tape, Entry, Void, Taped}
use Rattle.protocol.specs.Rows.{Vote, vote_for}
use Rattle.protocol.specs.Versions.{Version, One, Two}
use Rattle.protocol.specs.Packets.{Packet, Body, Prepare, Promise, Accept, Accepted, Nack}
use Rattle.protocol.specs.Limits.{most_members, is_number, most_frames_one}
use Rattle.packets.specs.Rules.{may_send, packet_with}
use Rattle.packets.specs.Grammar.{number_of_version, said_version}
use Rattle.packets.specs.declared.fault.PacketFault.{PacketFault}
use Rattle.packets.specs.declared.fault.PacketFault.TheVariants.{Short, BadMark, BadVersion, BadKind, BadMember, BadNumber, BadBallot, BadSender, BadReport, BadFrames, BadPad, Long}
use Rattle.packets.specs.declared.body.PacketKind.{PacketKind}
use Rattle.packets.specs.declared.body.PacketKind.TheVariants as kinds
use Rattle.packets.specs.declared.header.Header.{Header}

-- one step after another, up to the first fault
infixl 10 ◌>>=◌
abbrev pub ◌>>=◌ : {A B : Type 0} → Result A PacketFault → (A → Result B PacketFault) → Result B PacketFault
(Ok x) >>= f = f x
(Err e) >>= f = Err e

-- what a function returned, seen by view, is what reading gives
abbrev pub Seen : {X Y : Type 0} → (X → Y) → Result X PacketFault → Result Y PacketFault → Type 0
Seen view (Ok x) read = read ≡ Ok (view x)
Seen view (Err e) read = read ≡ Err e

-- a value, or this fault where there is none
abbrev pub wanted : {A : Type 0} → PacketFault → Option A → Result A PacketFault
wanted fault None = Err fault
wanted fault (Some x) = Ok x

-- a number of two bytes at this place
abbrev pub u16_at : List ℕ → ℕ → ℕ
u16_at bytes at = from_be_bytes w16 (take 2 (drop at bytes))

-- a number of four bytes at this place
abbrev pub u32_at : List ℕ → ℕ → ℕ
u32_at bytes at = from_be_bytes w32 (take 4 (drop at bytes))

-- the kind of this number
abbrev pub kind_of_byte : ℕ → Option PacketKind
kind_of_byte n =
    if n == 1 then Some kinds.Prepare else
    if n == 2 then Some kinds.Promise else
    if n == 3 then Some kinds.Accept else
    if n == 4 then Some kinds.Accepted else
    if n == 5 then Some kinds.Nack else None

-- the length, the mark, the version and the kind
unfoldable pub kind_at : Version → List ℕ → Result PacketKind PacketFault
kind_at v bytes =
    if nat_lt (length bytes) 17 then Err Short else
    if not (slice_index bytes 0 == 84 && slice_index bytes 1 == 78) then Err BadMark else
    if not (slice_index bytes 2 == number_of_version v) then Err BadVersion else
    wanted BadKind (kind_of_byte (slice_index bytes 3))

-- the member at this place
unfoldable pub member_at : List ℕ → ℕ → Result ℕ PacketFault
member_at bytes at = if nat_le 1 (slice_index bytes at) && nat_le (slice_index bytes at) most_members then Ok (slice_index bytes at) else Err BadMember

-- two members that differ
unfoldable pub members_at : List ℕ → Result (ℕ × ℕ) PacketFault
members_at bytes = do
  from ← member_at bytes 6
  to ← member_at bytes 7
  if from == to then Err BadMember else Ok (from, to)

-- the circuit number
unfoldable pub number_at : List ℕ → Result ℕ PacketFault
number_at bytes = if is_number (u32_at bytes 8) then Ok (u32_at bytes 8) else Err BadNumber

-- a round and an owner, where they are a ballot
unfoldable pub ballot_at : List ℕ → ℕ → Option Ballot
ballot_at bytes at =
    if nat_le 1 (u32_at bytes at) && (nat_le 1 (slice_index bytes (at + 4)) && nat_le (slice_index bytes (at + 4)) most_members)
    then Some (record { round = u32_at bytes at; owner = slice_index bytes (at + 4) })
    else None

-- the header, its fields in order and then whose ballot it is
unfoldable pub header_at : Version → List ℕ → Result Header PacketFault
header_at v bytes = do
  kind ← kind_at v bytes
  ends ← members_at bytes
  number ← number_at bytes
  ballot ← wanted BadBallot (ballot_at bytes 12)
  if may_send kind ballot.owner ends.0 ends.1
      then Ok (record { kind = kind; route = record { circuit = u16_at bytes 4; from = ends.0; to = ends.1 }; number = number; ballot = ballot })
      else Err BadSender

-- a length that version 1 spells and that many frames, and what follows them
unfoldable pub frames_at : List ℕ → Result (Tape × List ℕ) PacketFault
frames_at bytes =
    if nat_lt (length bytes) 2 then Err Short else
    if not (nat_le 1 (u16_at bytes 0) && nat_le (u16_at bytes 0) most_frames_one) then Err BadFrames else
    if nat_lt (length (drop 2 bytes)) (u16_at bytes 0) then Err Short else
    if is_some (tape_fault (take (u16_at bytes 0) (drop 2 bytes))) then Err BadFrames else
    Ok (take (u16_at bytes 0) (drop 2 bytes), drop (u16_at bytes 0) (drop 2 bytes))

-- the entry of so many packed frames, a withdrawal where there is none; no bit behind the last frame is set
unfoldable pub packed_entry : ℕ → List ℕ → Result Entry PacketFault
packed_entry count bytes =
    if count == 0 then Ok Void else
    if pad_of count bytes == 0 then Ok (Taped (unpacked count bytes)) else Err BadPad

-- a length up to that of the longest tape and that many frames, packed, and what follows them
unfoldable pub packed_at : List ℕ → Result (Entry × List ℕ) PacketFault
packed_at bytes =
    if nat_lt (length bytes) 2 then Err Short else
    if nat_lt most_frames (u16_at bytes 0) then Err BadFrames else
    if nat_lt (length (drop 2 bytes)) (packed_len (u16_at bytes 0)) then Err Short else
    packed_entry (u16_at bytes 0) (take (packed_len (u16_at bytes 0)) (drop 2 bytes)) >>= λ entry.
    Ok (entry, drop (packed_len (u16_at bytes 0)) (drop 2 bytes))

-- an entry as this version spells it, and what follows it
unfoldable pub entry_at : Version → List ℕ → Result (Entry × List ℕ) PacketFault
entry_at One bytes = do
  tape ← frames_at bytes
  Ok (Taped tape.0, tape.1)
entry_at Two bytes = packed_at bytes

-- this, where no bytes follow
abbrev pub ends : {A : Type 0} → A → List ℕ → Result A PacketFault
ends x [] = Ok x
ends x (b ∷ bytes) = Err Long

-- an entry and nothing after it
unfoldable pub whole_entry_at : Version → List ℕ → Result Entry PacketFault
whole_entry_at v bytes = do
  entry ← entry_at v bytes
  ends entry.0 entry.1

-- a vote below the ballot, and what follows it
unfoldable pub vote_at : Version → Ballot → List ℕ → Result (Vote × List ℕ) PacketFault
vote_at v ballot bytes =
    if nat_lt (length bytes) 7 then Err Short else wanted BadReport (ballot_at bytes 0) >>= λ reported.
    if not (is_below reported ballot) then Err BadReport else entry_at v (drop 5 bytes) >>= λ entry.
    Ok (vote_for reported entry.0, entry.1)

-- the body of a Promise: a flag, and behind a 1 the vote that it reports
unfoldable pub promise_at : Version → Ballot → List ℕ → Result Body PacketFault
promise_at v ballot [] = Err Short
promise_at v ballot (zero ∷ rest) = ends (Promise None) rest
promise_at v ballot (suc zero ∷ rest) = do
  vote ← vote_at v ballot rest
  ends (Promise (Some vote.0)) vote.1
promise_at v ballot (suc (suc n) ∷ rest) = Err BadReport

-- the body of a Nack: a promise above the ballot
unfoldable pub nack_at : Ballot → List ℕ → Result Body PacketFault
nack_at ballot bytes =
    if nat_lt (length bytes) 5 then Err Short else wanted BadReport (ballot_at bytes 0) >>= λ promised.
    if not (is_below ballot promised) then Err BadReport else ends (Nack promised) (drop 5 bytes)

-- what stands after the header, by the kind
unfoldable pub body_at : Version → PacketKind → Ballot → List ℕ → Result Body PacketFault
body_at v kinds.Prepare ballot bytes = ends Prepare bytes
body_at v kinds.Promise ballot bytes = promise_at v ballot bytes
body_at v kinds.Accept ballot bytes = do
  entry ← whole_entry_at v bytes
  Ok (Accept entry)
body_at v kinds.Accepted ballot bytes = do
  entry ← whole_entry_at v bytes
  Ok (Accepted entry)
body_at v kinds.Nack ballot bytes = nack_at ballot bytes

-- the packet that the bytes spell in this version, or their first fault
unfoldable pub packet_in : Version → List ℕ → Result Packet PacketFault
packet_in v bytes = do
  header ← header_at v bytes
  body ← body_at v header.kind header.ballot (drop 17 bytes)
  Ok (packet_with header.route header.number header.ballot body)

-- what a station of this version reads: version 1 alone at version 1, and at version 2 the version that the bytes say they are of
abbrev pub packet_at : Version → List ℕ → Result Packet PacketFault
packet_at One bytes = packet_in One bytes
packet_at Two bytes = packet_in (said_version bytes) bytes
