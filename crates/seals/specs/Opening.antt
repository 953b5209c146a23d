-- What opening a datagram means.
use Rattle.std.specs.Prelude.{◌≡◌, ◌≢◌, ℕ, ◌-◌, ◌<◌, ◌≤◌, List, ◌++◌, length, take, drop, Option, Some, None}
use Rattle.protocol.specs.Limits.{most_members}
use Rattle.protocol.specs.Ballots.{IsMember}
use Rattle.seals.specs.Sealing.{most_packet, tag_of, tagged, count_of, part_len, head_of}
use Rattle.seals.specs.declared.label.Label.{Label}
use Rattle.seals.specs.declared.opening.Keys.{Keys}
use Rattle.seals.specs.declared.opening.KeyPlace.{KeyPlace}
use Rattle.seals.specs.declared.opening.KeyPlace.TheVariants as places

-- the bytes end with the tag of what stands before it
abbrev pub IsTagged : List ℕ → List ℕ → Type 0
IsTagged block bytes = tag_of block (take (length bytes - 16) bytes) ≡ drop (length bytes - 16) bytes

-- it is the key at this place
abbrev pub IsKeyAt : Keys → KeyPlace → List ℕ → Type 0
IsKeyAt keys places.First block = keys.first ≡ block
IsKeyAt keys places.Second block = keys.second ≡ Some block

-- under which key the bytes are tagged: the first that fits, and none where none does
abbrev pub IsPlaceOf : Keys → List ℕ → Option KeyPlace → Type 0
IsPlaceOf keys bytes None = (place : KeyPlace) (block : List ℕ) → IsKeyAt keys place block → ¬ IsTagged block bytes
IsPlaceOf keys bytes (Some place) = (block : List ℕ) × IsKeyAt keys place block × IsTagged block bytes

-- the datagram is, under the key of this block, one for this member with this label, index and part
pub record Opens (block : List ℕ) (own : ℕ) (bytes : List ℕ) (label : Label) (index : ℕ) (part : List ℕ) : Type 0 where
  pub are : bytes ≡ tagged block (head_of label index ++ part)
  pub from : IsMember most_members label.from
  pub to_is_member : IsMember most_members label.to
  pub to : label.to ≡ own
  pub differ : label.from ≢ label.to
  pub some : 1 ≤ label.length
  pub few : label.length ≤ most_packet
  pub index_low : index < count_of label.length
  pub part_length : length part ≡ part_len label.length index
  pub id_length : length label.id ≡ 16

-- it is one under the key at this place
pub record OpensAt (keys : Keys) (place : KeyPlace) (own : ℕ) (bytes : List ℕ) (label : Label) (index : ℕ) (part : List ℕ) : Type 0 where
  pub block : List ℕ
  pub is_key : IsKeyAt keys place block
  pub opens : Opens block own bytes label index part

-- it is none, under no key
abbrev pub OpensNone : Keys → ℕ → List ℕ → Type 0
OpensNone keys own bytes =
    (place : KeyPlace) (label : Label) (index : ℕ) (part : List ℕ) → ¬ OpensAt keys place own bytes label index part

-- the length in a label is that of a packet
pub record IsLabel (label : Label) : Type 0 where
  pub some : 1 ≤ label.length
  pub few : label.length ≤ most_packet

-- it is a part of a packet with this label
pub record IsPart (label : Label) (index : ℕ) (part : List ℕ) : Type 0 where
  pub is_label : IsLabel label
  pub index_low : index < count_of label.length
  pub part_length : length part ≡ part_len label.length index
