-- Slots: what was heard of each member of a circuit, in rising order of members.
use Rattle.std.specs.Prelude.{ℕ, Bool, true, List, [], Option, Some, None, length, map, filter_map, find, count_by, nat_lt, MatchOption, ◌≡◌, ◌<◌, ◌*◌, ◌-◌, slice_index_or, slice_set, if◌then◌else◌}
use Rattle.std.specs.Global.{Box}
use Rattle.arrayvec.specs.ArrayVec.{ArrayVec}
use Rattle.protocol.specs.Ballots.{Ballot, is_below, is_same, members}
use Rattle.protocol.specs.Entries.{Entry}
use Rattle.protocol.specs.Rows.{Vote, vote_for}
use Rattle.protocol.specs.Learner.{votes_at}

-- the vote that stands in a slot's box, if there is one
abbrev pub unboxed : Option (Box Vote) → Option Vote
unboxed None = None
unboxed (Some vote) = Some vote.value

-- the slots of c members before anything is heard of them
abbrev pub nothing_heard : ℕ → List (Option Vote)
nothing_heard c = map (λ m. None) (members c)

-- the slots that are written down: none as long as nothing is heard
abbrev pub written : Option (Box (ArrayVec (Option Vote))) → List (Option Vote)
written None = []
written (Some slots) = slots.value.items

-- the slots of c members, where none is written down as long as nothing is heard
abbrev pub opened : ℕ → Option (Box (ArrayVec (Option Vote))) → List (Option Vote)
opened c None = nothing_heard c
opened c (Some slots) = slots.value.items

-- a vote at b takes the slot: no vote stands there, or one at a ballot below b
abbrev pub is_newer : Ballot → Option Vote → Bool
is_newer b None = true
is_newer b (Some v) = is_below v.ballot b

-- what stands in the slot of member m
abbrev pub slot_of : List (Option Vote) → ℕ → Option Vote
slot_of slots m = slice_index_or slots (m - 1) None

-- the slots once a vote of member m for t at b is heard
abbrev pub kept : List (Option Vote) → ℕ → Ballot → Entry → List (Option Vote)
kept slots m b t = if is_newer b (slot_of slots m) then slice_set slots (m - 1) (Some (vote_for b t)) else slots

-- the votes that stand in the slots, in order
abbrev pub votes_in : List (Option Vote) → List Vote
votes_in slots = filter_map (λ o. o) slots

-- votes at the vote's ballot stand in more than half of the slots
abbrev pub is_ripe_in : List (Option Vote) → Vote → Bool
is_ripe_in slots v = nat_lt (length slots) (2 * count_by (votes_at v.ballot) slots)

-- the first vote at whose ballot votes stand in more than half of the slots
abbrev pub ripe_in : List (Option Vote) → Option Vote
ripe_in slots = find (is_ripe_in slots) (votes_in slots)

-- the first vote at b
abbrev pub least_in : Ballot → List (Option Vote) → Option Vote
least_in b slots = find (λ (v : Vote). is_same v.ballot b) (votes_in slots)

-- it is the place of that vote, if there is one
abbrev pub IsPlaceOfLeast : Option ℕ → Ballot → List (Option Vote) → Type 0
IsPlaceOfLeast place b slots =
    MatchOption place (least_in b slots ≡ None) (λ i. (i < length slots) × (slice_index_or slots i None ≡ least_in b slots))
