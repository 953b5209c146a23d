-- The datagrams that wait, which of them find a place, and which is taken next.
use Rattle.std.specs.Prelude.{◌≡◌, ◌≤◌, ◌<◌, ℕ, ◌+◌, ◌-◌, ◌^◌, ◌/◌, Bool, Option, Some, None, max, min, nat_lt, List, [], ◌∷◌, ◌++◌, length, drop, position, replicate, slice_index_or, slice_set, option_to_list, vec_len, if◌then◌else◌}
use Rattle.std.specs.List.{sum_by}
use Rattle.pace.specs.declared.share.Incoming.{Incoming}

-- those of one member that wait, the first of them first, and how many and of how many bytes in all they are at most
pub record ShareValue : Type 0 where
  pub datagrams : List Incoming
  pub most : ℕ
  pub most_bytes : ℕ

-- those of each member, in rising order; the place from which on the next is taken; and how many found no place
pub record WaitingValue : Type 0 where
  pub shares : List ShareValue
  pub next : ℕ
  pub lost : ℕ

-- how many bytes they have in all
abbrev pub bytes_of : List Incoming → ℕ
bytes_of datagrams = sum_by (λ (d : Incoming). vec_len d.bytes) datagrams

-- a share of so many datagrams, and so many bytes, of which none waits
abbrev pub nothing_of : ℕ → ℕ → ShareValue
nothing_of most most_bytes = record { datagrams = []; most = most; most_bytes = most_bytes }

-- the share of one of so many members: the same part for each of 8,192 datagrams and of 16 megabytes
abbrev pub empty_share : ℕ → ShareValue
empty_share members = nothing_of (8192 / max members 1) (16_777_216 / max members 1)

-- so many shares of one of so many members
abbrev pub no_shares : ℕ → ℕ → List ShareValue
no_shares members count = replicate count (empty_share members)

-- nothing waits of any of so many members
abbrev pub nothing_waits : ℕ → WaitingValue
nothing_waits members = record { shares = no_shares members members; next = 0; lost = 0 }

-- a datagram waits
abbrev pub has_one : ShareValue → Bool
has_one s = nat_lt 0 (length s.datagrams)

-- one more of so many bytes is within the share
abbrev pub FitsShare : ℕ → ShareValue → Type 0
FitsShare bytes s = (length s.datagrams < s.most) × (bytes_of s.datagrams + bytes ≤ s.most_bytes)

-- it stands behind the others where it found a place
abbrev pub puts_behind : Bool → Incoming → ShareValue → ShareValue
puts_behind found d s = if found then record s { datagrams = s.datagrams ++ d ∷ [] } else s

-- the share at a place; behind the last there is room for none
abbrev pub share_at : ℕ → WaitingValue → ShareValue
share_at place w = slice_index_or w.shares place (nothing_of 0 0)

-- these wait at a place, and the rest stays
abbrev pub with_share : ℕ → ShareValue → WaitingValue → WaitingValue
with_share place s w = record w { shares = slice_set w.shares place s }

-- one more of this member, of so many bytes, finds a place: it is one of the circuit, and this is within its share
abbrev pub HasRoom : ℕ → ℕ → WaitingValue → Type 0
HasRoom member bytes w = (member - 1 < length w.shares) × FitsShare bytes (share_at (member - 1) w)

-- one more was lost, as far as there are numbers
abbrev pub lost_one : WaitingValue → WaitingValue
lost_one w = record w { lost = min (w.lost + 1) (2 ^ 64 - 1) }

-- it stands behind the others of its sender where it found a place, and else is lost
abbrev pub puts : Bool → Incoming → WaitingValue → WaitingValue
puts found d w =
    if found then with_share (d.sender - 1) (puts_behind found d (share_at (d.sender - 1) w)) w else lost_one w

-- a place that is sought from the next on, and else among all
abbrev pub turn_from : Option ℕ → ℕ → Option ℕ → Option ℕ
turn_from (Some place) next all = Some (next + place)
turn_from None next all = all

-- the place of the member whose turn it is: the first that has a datagram from the next on, or else of all
abbrev pub turn_of : WaitingValue → Option ℕ
turn_of w = turn_from (position has_one (drop w.next w.shares)) w.next (position has_one w.shares)

-- of the member at a place the first was taken, and the next turn is that of the place behind it
abbrev pub taken_at : ℕ → Option Incoming → WaitingValue → WaitingValue → Type 0
taken_at place taken old new =
    ((share_at place old).datagrams ≡ option_to_list taken ++ (share_at place new).datagrams)
    × (new ≡ with_share place (record (share_at place old) { datagrams = drop 1 (share_at place old).datagrams }) (record old { next = place + 1 }))
