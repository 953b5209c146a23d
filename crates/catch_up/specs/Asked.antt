-- What the members of a circuit asked to be told again, and who is told next.
use Rattle.std.specs.Prelude.{◌≡◌, ℕ, ◌+◌, ◌-◌, ◌^◌, Bool, not, ◌&&◌, ◌||◌, nat_lt, nat_le, min, List, [], ◌∷◌, ◌++◌, length, drop, position, replicate, Option, Some, None, option_to_list, slice_index_or, slice_set, if◌then◌else◌}
use Rattle.std.specs.List.{fold}
use Rattle.healing.specs.Lists.{is_among}
use Rattle.roll_call.specs.Answers.{is_second_on}

-- a member: the numbers that wait to be told to it, the first asked first; when its present second began; and how many bytes it was
-- told in it
pub record AskerValue : Type 0 where
  pub waiting : List ℕ
  pub since : Option ℕ
  pub told : ℕ

-- all members in rising order, the place from which on the next is sought, and how many numbers were dropped
pub record AskedValue : Type 0 where
  pub askers : List AskerValue
  pub next : ℕ
  pub dropped : ℕ

-- a member that asked for nothing, and was told nothing
abbrev pub nobody : AskerValue
nobody = record { waiting = []; since = None; told = 0 }

-- nobody asked for anything
abbrev pub nothing_asked : AskedValue
nothing_asked = record { askers = replicate 15 nobody; next = 0; dropped = 0 }

-- the number waits already, or fewer than 64 wait
abbrev pub has_place : ℕ → AskerValue → Bool
has_place number s = is_among s.waiting number || nat_lt (length s.waiting) 64

-- the number waits behind the others, unless it waits already or 64 wait
abbrev pub asks : ℕ → AskerValue → AskerValue
asks number s =
    if is_among s.waiting number then s
    else if nat_lt (length s.waiting) 64 then record s { waiting = s.waiting ++ number ∷ [] } else s

-- a number waits, and fewer than 1,000,000 bytes were told in the present second
abbrev pub is_ready : ℕ → AskerValue → Bool
is_ready now s = nat_lt 0 (length s.waiting) && not (is_second_on s.since now && nat_le 1_000_000 s.told)

-- so many bytes more were told: in the present second, or as the first of one that begins
abbrev pub counts : ℕ → ℕ → AskerValue → AskerValue
counts bytes now s =
    if is_second_on s.since now then record s { told = min (s.told + bytes) (2 ^ 64 - 1) } else record s { since = Some now; told = bytes }

-- the number that waits longest is taken, if one waits
pub record IsTaken (old new : AskerValue) (number : Option ℕ) : Type 0 where
  pub first : old.waiting ≡ option_to_list number ++ new.waiting
  pub none : number ≡ None → old.waiting ≡ []
  pub rest : new ≡ record old { waiting = new.waiting }

-- the member at a place
abbrev pub asker_at : ℕ → AskedValue → AskerValue
asker_at place a = slice_index_or a.askers place nobody

-- what waits to be told to a member
abbrev pub waiting_for : ℕ → AskedValue → List ℕ
waiting_for member a = (asker_at (member - 1) a).waiting

-- the member at a place is so, and the rest stays
abbrev pub with_asker : ℕ → AskerValue → AskedValue → AskedValue
with_asker place s a = record a { askers = slice_set a.askers place s }

-- one number more was dropped, as far as there are numbers, or none
abbrev pub dropped_after : Bool → ℕ → ℕ
dropped_after found dropped = if found then dropped else min (dropped + 1) (2 ^ 64 - 1)

-- a member asks for a number: it waits, or is dropped
abbrev pub asked_one : ℕ → AskedValue → ℕ → AskedValue
asked_one member a number =
    let s = asker_at (member - 1) a in
    record (with_asker (member - 1) (asks number s) a) { dropped = dropped_after (has_place number s) a.dropped }

-- a member asks for these numbers, one after the other
abbrev pub asked_all : ℕ → List ℕ → AskedValue → AskedValue
asked_all member numbers a = fold (asked_one member) a numbers

-- a place that is sought from the next on, and else among all
abbrev pub turn_from : Option ℕ → ℕ → Option ℕ → Option ℕ
turn_from (Some place) next all = Some (next + place)
turn_from None next all = all

-- the place of the member whose turn it is: the first that is ready from the next on, or else of all
abbrev pub turn_of : ℕ → AskedValue → Option ℕ
turn_of now a = turn_from (position (is_ready now) (drop a.next a.askers)) a.next (position (is_ready now) a.askers)

-- the member whose turn it is is told the number that waits longest, and the next turn is that of the member behind it; nobody is,
-- where none is ready
abbrev pub TakesTurn : ℕ → Option (ℕ × ℕ) → AskedValue → AskedValue → Type 0
TakesTurn now None old new = (turn_of now old ≡ None) × (new ≡ old)
TakesTurn now (Some (number, member)) old new =
    (turn_of now old ≡ Some (member - 1)) × (waiting_for member old ≡ number ∷ waiting_for member new)
    × (new ≡ with_asker (member - 1) (record (asker_at (member - 1) old) { waiting = waiting_for member new }) (record old { next = member }))

-- so many bytes were told to a member
abbrev pub told_to : ℕ → ℕ → ℕ → AskedValue → AskedValue
told_to member bytes now a = with_asker (member - 1) (counts bytes now (asker_at (member - 1) a)) a
