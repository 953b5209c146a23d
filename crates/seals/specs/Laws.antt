-- The laws of sealing and opening.
use Rattle.std.specs.Prelude.{◌≡◌, ◌≢◌, ℕ, ◌<◌, ◌≤◌, List, [], ◌∷◌, ◌++◌, length}
use Rattle.protocol.specs.Limits.{most_members}
use Rattle.protocol.specs.Ballots.{IsMember}
use Rattle.seals.specs.declared.label.Label.{Label}
use Rattle.seals.specs.Sealing.{most_packet, label_of, count_of, part_of, head_of, sealed}
use Rattle.seals.specs.Opening.{Opens}

-- each datagram that a packet goes as is opened by its addressee, under the same key, as that part of it
abbrev pub OpensWhatIsSealed : Type 0
OpensWhatIsSealed =
    (block : List ℕ) (from to : ℕ) (packet : List ℕ) (index : ℕ)
    → IsMember most_members from → IsMember most_members to → from ≢ to
    → 1 ≤ length packet → length packet ≤ most_packet → index < count_of (length packet)
    → Opens block to (sealed block (label_of block from to packet) index packet) (label_of block from to packet) index (part_of packet index)

-- the same bytes are one part of one packet, whatever the keys
abbrev pub OnePiece : Type 0
OnePiece =
    (block other : List ℕ) (own : ℕ) (bytes : List ℕ) (label label' : Label) (index index' : ℕ) (part part' : List ℕ)
    → Opens block own bytes label index part → Opens other own bytes label' index' part'
    → (label ≡ label') × (index ≡ index') × (part ≡ part')

-- no datagram has more bytes than every path carries in one piece
abbrev pub DatagramsAreShort : Type 0
DatagramsAreShort =
    (block : List ℕ) (own : ℕ) (bytes : List ℕ) (label : Label) (index : ℕ) (part : List ℕ)
    → Opens block own bytes label index part → length bytes ≤ 1232

-- a packet goes as 11 datagrams at most
abbrev pub FewDatagrams : Type 0
FewDatagrams = (length : ℕ) → length ≤ most_packet → count_of length ≤ 11

-- what is tagged for a datagram is never what is tagged for an id
abbrev pub TagsAreApart : Type 0
TagsAreApart =
    (label : Label) (index from to : ℕ) (part packet : List ℕ) → head_of label index ++ part ≢ 84 ∷ 87 ∷ from ∷ to ∷ [] ++ packet
