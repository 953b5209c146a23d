-- What each recall and each roll begins with: who asks or answers whom, in which circuit, and as which of the asker's.
use Rattle.std.specs.Prelude.{ℕ, Bool, List, length, take, drop, slice_index, not, ◌&&◌, ◌==◌, Option, Some, None, nat_le, nat_lt, if◌then◌else◌}
use Rattle.std.specs.Int.{w16, w32, from_be_bytes}
use Rattle.protocol.specs.Limits.{most_members}

-- a ticket: the circuit that it belongs to, from which member, to which, and a number of the asker's
pub record Ticket : Type 0 where
  pub circuit : ℕ
  pub from : ℕ
  pub to : ℕ
  pub asked : ℕ

-- a number of two bytes at this place
abbrev pub u16_at : List ℕ → ℕ → ℕ
u16_at bytes at = from_be_bytes w16 (take 2 (drop at bytes))

-- a number of four bytes at this place
abbrev pub u32_at : List ℕ → ℕ → ℕ
u32_at bytes at = from_be_bytes w32 (take 4 (drop at bytes))

-- the byte at this place is a member
abbrev pub is_member_at : List ℕ → ℕ → Bool
is_member_at bytes at = nat_le 1 (slice_index bytes at) && nat_le (slice_index bytes at) most_members

-- what stands in the bytes of a ticket
abbrev pub ticket_in : List ℕ → Ticket
ticket_in bytes = record { circuit = u16_at bytes 4; from = slice_index bytes 6; to = slice_index bytes 7; asked = u32_at bytes 8 }

-- the ticket of bytes, if they have one: they are long enough, and the sender and the addressee are members, and differ
unfoldable pub ticket_at : List ℕ → Option Ticket
ticket_at bytes =
    if nat_lt (length bytes) 12 then None else
    if not (is_member_at bytes 6) then None else
    if not (is_member_at bytes 7) then None else
    if slice_index bytes 6 == slice_index bytes 7 then None else Some (ticket_in bytes)
