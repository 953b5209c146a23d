-- Reading the head of a datagram, with the first fault in the stated order.
use Rattle.std.specs.Prelude.{ℕ, ◌+◌, ◌*◌, List, length, take, drop, slice_index, Bool, not, ◌&&◌, ◌==◌, Result, Ok, Err, nat_lt, nat_le, if◌then◌else◌}
use Rattle.protocol.specs.Limits.{most_members}
use Rattle.seals.specs.Sealing.{most_packet, count_of, part_len}
use Rattle.seals.specs.declared.head.SealFault.{SealFault}
use Rattle.seals.specs.declared.head.SealFault.TheVariants.{Short, BadMark, BadVersion, BadMember, NotForMe, BadLength}
use Rattle.seals.specs.declared.head.Head.{Head}

-- one step after another, up to the first fault
infixl 10 ◌>>=◌
abbrev pub ◌>>=◌ : {A B : Type 0} → Result A SealFault → (A → Result B SealFault) → Result B SealFault
(Ok x) >>= f = f x
(Err e) >>= f = Err e

-- the id
abbrev pub id_at : List ℕ → List ℕ
id_at bytes = take 16 (drop 8 bytes)

-- the member at this place
unfoldable pub member_at : List ℕ → ℕ → Result ℕ SealFault
member_at bytes at = if nat_le 1 (slice_index bytes at) && nat_le (slice_index bytes at) most_members then Ok (slice_index bytes at) else Err BadMember

-- the sender and the addressee, two members; the addressee is this one
unfoldable pub ends_at : ℕ → List ℕ → Result (ℕ × ℕ) SealFault
ends_at own bytes = do
  from ← member_at bytes 3
  to ← member_at bytes 4
  if from == to then Err BadMember else (if to == own then Ok (from, to) else Err NotForMe)

-- a datagram of so many bytes has the part of this index of a packet of this length
abbrev pub has_part : ℕ → ℕ → ℕ → Bool
has_part length index datagram =
    (nat_le 1 length && nat_le length most_packet) && (nat_lt index (count_of length) && (datagram == 24 + part_len length index + 16))

-- the head of a datagram for this member
unfoldable pub head_at : ℕ → List ℕ → Result Head SealFault
head_at own bytes =
    if nat_lt (length bytes) 41 then Err Short else
    if not (slice_index bytes 0 == 84 && slice_index bytes 1 == 83) then Err BadMark else
    if not (slice_index bytes 2 == 1) then Err BadVersion else
    ends_at own bytes >>= λ ends.
    let size = slice_index bytes 6 * 256 + slice_index bytes 7 in
    if has_part size (slice_index bytes 5) (length bytes)
    then Ok (record { label = record { from = ends.0; to = ends.1; length = size; id = id_at bytes }; index = slice_index bytes 5 })
    else Err BadLength
