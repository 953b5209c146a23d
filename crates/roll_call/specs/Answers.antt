-- What the members of a circuit ask of the station, and who is answered next.
use Rattle.std.specs.Prelude.{◌≡◌, ℕ, ◌+◌, ◌-◌, ◌^◌, Bool, false, not, ◌&&◌, nat_lt, nat_le, min, List, [], ◌∷◌, ◌++◌, length, drop, position, replicate, Option, Some, None, option_to_list, slice_index_or, slice_set, if◌then◌else◌}
use Rattle.roll_call.specs.declared.ask.Ask.{Ask}

-- a member: what it asks and waits for, the first asked first; when its present second began; and how often it was answered in it
pub record AskerValue : Type 0 where
  pub waiting : List Ask
  pub since : Option ℕ
  pub told : ℕ

-- all members in rising order, the place from which on the next is sought, and how many asks were dropped
pub record AnswersValue : Type 0 where
  pub askers : List AskerValue
  pub next : ℕ
  pub dropped : ℕ

-- a member that asked for nothing, and was told nothing
abbrev pub nobody : AskerValue
nobody = record { waiting = []; since = None; told = 0 }

-- nobody asked for anything
abbrev pub nothing_asked : AnswersValue
nothing_asked = record { askers = replicate 15 nobody; next = 0; dropped = 0 }

-- fewer than four asks wait
abbrev pub has_place : AskerValue → Bool
has_place s = nat_lt (length s.waiting) 4

-- the ask waits behind the others, unless four wait
abbrev pub asks : Ask → AskerValue → AskerValue
asks ask s = if has_place s then record s { waiting = s.waiting ++ ask ∷ [] } else s

-- the second that began then is not over
abbrev pub is_second_on : Option ℕ → ℕ → Bool
is_second_on None now = false
is_second_on (Some since) now = nat_lt (now - since) 1000

-- an ask waits, and fewer than eight were answered in the present second
abbrev pub is_ready : ℕ → AskerValue → Bool
is_ready now s = nat_lt 0 (length s.waiting) && not (is_second_on s.since now && nat_le 8 s.told)

-- one ask more is answered: in the present second, or as the first of one that begins
abbrev pub answered : ℕ → AskerValue → AskerValue
answered now s = if is_second_on s.since now then record s { told = s.told + 1 } else record s { since = Some now; told = 1 }

-- the ask that waits longest is taken, if one waits, to be answered now
pub record IsTaken (now : ℕ) (old new : AskerValue) (ask : Option Ask) : Type 0 where
  pub first : old.waiting ≡ option_to_list ask ++ new.waiting
  pub none : ask ≡ None → old.waiting ≡ []
  pub rest : new ≡ record (answered now old) { waiting = new.waiting }

-- the member at a place
abbrev pub asker_at : ℕ → AnswersValue → AskerValue
asker_at place a = slice_index_or a.askers place nobody

-- what a member waits for
abbrev pub waiting_for : ℕ → AnswersValue → List Ask
waiting_for member a = (asker_at (member - 1) a).waiting

-- the member at a place is so, and the rest stays
abbrev pub with_asker : ℕ → AskerValue → AnswersValue → AnswersValue
with_asker place s a = record a { askers = slice_set a.askers place s }

-- one ask more was dropped, as far as there are numbers, or none
abbrev pub dropped_after : Bool → ℕ → ℕ
dropped_after found dropped = if found then dropped else min (dropped + 1) (2 ^ 64 - 1)

-- a member asks: the ask waits, or is dropped
abbrev pub asked_one : ℕ → Ask → AnswersValue → AnswersValue
asked_one member ask a =
    let s = asker_at (member - 1) a in
    record (with_asker (member - 1) (asks ask s) a) { dropped = dropped_after (has_place s) a.dropped }

-- a place that is sought from the next on, and else among all
abbrev pub turn_from : Option ℕ → ℕ → Option ℕ → Option ℕ
turn_from (Some place) next all = Some (next + place)
turn_from None next all = all

-- the place of the member whose turn it is: the first that is ready from the next on, or else of all
abbrev pub turn_of : ℕ → AnswersValue → Option ℕ
turn_of now a = turn_from (position (is_ready now) (drop a.next a.askers)) a.next (position (is_ready now) a.askers)

-- the member whose turn it is is answered what it waits for longest, and the next turn is that of the member behind it; nobody is,
-- where none is ready
abbrev pub TakesTurn : ℕ → Option (Ask × ℕ) → AnswersValue → AnswersValue → Type 0
TakesTurn now None old new = (turn_of now old ≡ None) × (new ≡ old)
TakesTurn now (Some (ask, member)) old new =
    (turn_of now old ≡ Some (member - 1)) × (waiting_for member old ≡ ask ∷ waiting_for member new)
    × (new ≡ with_asker (member - 1) (record (answered now (asker_at (member - 1) old)) { waiting = waiting_for member new }) (record old { next = member }))
