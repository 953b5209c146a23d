-- Which members are behind what a station asked of its circuit.
use Rattle.std.specs.Prelude.{ℕ, ◌+◌, ◌-◌, ◌/◌, ◌^◌, Bool, false, ◌==◌, ◌&&◌, ◌||◌, nat_le, nat_lt, min, max, List, [], ◌∷◌, ◌++◌, length, drop, Option, Some, None, slice_index_or, slice_set, if◌then◌else◌}
use Rattle.std.specs.List.{list_any, fold}
use Rattle.std.proofs.Common.{replicate}
use Rattle.protocol.specs.Limits.{most_members}
use Rattle.pace.specs.declared.members.SeenBallot.{SeenBallot}
use Rattle.pace.specs.declared.members.Follower.{Follower}

-- how many units were asked for, when the newest, and how many by when no datagram waited last; the ballots that came up last, each
-- with how many units were asked for by then, its serial; and of each member, in rising order, what is known of it
pub record PaceValue : Type 0 where
  pub asked : ℕ
  pub asked_at : ℕ
  pub settled : ℕ
  pub known : List SeenBallot
  pub followers : List Follower

-- a member of whom nothing was heard
abbrev pub nobody : Follower
nobody = record { serial = 0; heard = None }

-- before anything is asked for
abbrev pub first_pace : PaceValue
first_pace = record { asked = 0; asked_at = 0; settled = 0; known = []; followers = replicate most_members nobody }

-- an entry is a unit, and one more for each 2,048 bytes
abbrev pub units_of : ℕ → ℕ
units_of length = length / 2048 + 1

-- the serial of a ballot of this number and owner
abbrev pub serial_for : ℕ → ℕ → SeenBallot → ℕ
serial_for number owner k = if (k.number == number) && (k.owner == owner) then k.serial else 0

-- the greatest serial of the ballots of this number and owner
abbrev pub newest_of : ℕ → ℕ → List SeenBallot → ℕ
newest_of number owner known = fold (λ newest k. max newest (serial_for number owner k)) 0 known

-- the ballots that are kept in mind with one more: 128 at most, the newest
abbrev pub with_newest : SeenBallot → List SeenBallot → List SeenBallot
with_newest k known = (if nat_lt (length known) 128 then known else drop 1 known) ++ k ∷ []

-- an own ballot for an entry of so many bytes was begun
abbrev pub asked_for : ℕ → ℕ → ℕ → ℕ → PaceValue → PaceValue
asked_for number own length now p =
    let serial = min (p.asked + units_of length) (2 ^ 64 - 1) in
    record p { asked = serial; asked_at = now; known = with_newest (record { number = number; owner = own; serial = serial }) p.known }

-- a ballot of another member came up: the first of its owner for the number that has a serial counts
abbrev pub came_up : ℕ → ℕ → PaceValue → PaceValue
came_up number owner p =
    if newest_of number owner p.known == 0 then record p { known = with_newest (record { number = number; owner = owner; serial = p.settled }) p.known } else p

-- a member was heard, and has voted for a ballot of this serial
abbrev pub seen_by : ℕ → ℕ → ℕ → PaceValue → PaceValue
seen_by member serial now p =
    let before = slice_index_or p.followers (member - 1) nobody in
    record p { followers = slice_set p.followers (member - 1) (record { serial = max before.serial serial; heard = Some now }) }

-- a vote of a member was heard for a ballot of this number and owner, which shows how far it is, unless the ballot is its own
abbrev pub spoken_by : ℕ → ℕ → ℕ → ℕ → PaceValue → PaceValue
spoken_by member number owner now p = seen_by member (if member == owner then 0 else newest_of number owner p.known) now p

-- there was such a moment, and less than this span ago
abbrev pub is_within : Option ℕ → ℕ → ℕ → Bool
is_within None span now = false
is_within (Some moment) span now = nat_lt now (moment + span)

-- the member was heard less than this span ago
abbrev pub heard_within : Follower → ℕ → ℕ → Bool
heard_within f span now = is_within f.heard span now

-- the member lacks 8 units or more of what was asked for; it was heard, and the newest was asked for, less than 3 seconds ago, and one
-- of the two less than half a second
abbrev pub is_behind : ℕ → PaceValue → Follower → Bool
is_behind now p f =
    nat_le (f.serial + 8) p.asked && heard_within f 3000 now && nat_lt now (p.asked_at + 3000)
    && (heard_within f 500 now || nat_lt now (p.asked_at + 500))

-- some member is behind
abbrev pub is_any_behind : ℕ → PaceValue → Bool
is_any_behind now p = list_any (is_behind now p) p.followers
