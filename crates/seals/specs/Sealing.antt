-- How a packet is sealed: the datagrams that it goes as. A tag is the first half of an HMAC-SHA-256.
use Rattle.std.specs.Prelude.{ℕ, ◌+◌, ◌-◌, ◌*◌, ◌/◌, ◌%◌, List, [], ◌∷◌, ◌++◌, length, take, drop, min}
use Rattle.hmac.specs.Hmac.{hmac_of_block}
use Rattle.seals.specs.declared.label.Label.{Label}

-- the most bytes of a packet
abbrev pub most_packet : ℕ
most_packet = 12313

-- the tag of bytes under the key of this block
abbrev pub tag_of : List ℕ → List ℕ → List ℕ
tag_of block bytes = take 16 (hmac_of_block block bytes)

-- the bytes, and their tag behind them
abbrev pub tagged : List ℕ → List ℕ → List ℕ
tagged block bytes = bytes ++ tag_of block bytes

-- the label of a packet: its id is the tag of TW, the sender, the addressee and the packet
abbrev pub label_of : List ℕ → ℕ → ℕ → List ℕ → Label
label_of block from to packet =
    record { from = from; to = to; length = length packet; id = tag_of block (84 ∷ 87 ∷ from ∷ to ∷ [] ++ packet) }

-- how many datagrams a packet of so many bytes takes
abbrev pub count_of : ℕ → ℕ
count_of length = (length + 1191) / 1192

-- the part of a packet in the datagram of this index
abbrev pub part_of : List ℕ → ℕ → List ℕ
part_of packet index = take 1192 (drop (1192 * index) packet)

-- how many bytes that part has, of a packet of so many
abbrev pub part_len : ℕ → ℕ → ℕ
part_len length index = min (length - 1192 * index) 1192

-- the head of a datagram: TS, the version 1, the sender, the addressee, the index, the packet's length in two bytes, and the id
abbrev pub head_of : Label → ℕ → List ℕ
head_of label index =
    84 ∷ 83 ∷ 1 ∷ label.from ∷ label.to ∷ index ∷ label.length / 256 ∷ label.length % 256 ∷ [] ++ label.id

-- the datagram of this index of a packet with this label
abbrev pub sealed : List ℕ → Label → ℕ → List ℕ → List ℕ
sealed block label index packet = tagged block (head_of label index ++ part_of packet index)
