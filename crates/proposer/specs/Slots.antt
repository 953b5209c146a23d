-- Slots: of each member of a circuit, in rising order of members, what it reported, where it is counted.
use Rattle.std.specs.Prelude.{ℕ, List, Option, Some, None, map, slice_index_or, slice_set, ◌-◌}
use Rattle.std.specs.Global.{Box}
use Rattle.arrayvec.specs.ArrayVec.{ArrayVec}
use Rattle.protocol.specs.Ballots.{members}
use Rattle.protocol.specs.Rows.{Vote}

-- what stands in a slot: the report where its member is counted, its vote in a box
abbrev pub unboxed : Option (Option (Box Vote)) → Option (Option Vote)
unboxed None = None
unboxed (Some None) = Some None
unboxed (Some (Some vote)) = Some (Some vote.value)

-- the slots of c members, of whom none is counted
abbrev pub nothing_counted : ℕ → List (Option (Option Vote))
nothing_counted c = map (λ m. None) (members c)

-- the slots of c members, of whom `me` alone is counted, with its own report, as long as none is written down
abbrev pub slots_with : ℕ → ℕ → Option Vote → Option (Box (ArrayVec (Option (Option Vote)))) → List (Option (Option Vote))
slots_with c me own None = slice_set (nothing_counted c) (me - 1) (Some own)
slots_with c me own (Some slots) = slots.value.items

-- what stands in the slot of member m
abbrev pub report_at : List (Option (Option Vote)) → ℕ → Option (Option Vote)
report_at slots m = slice_index_or slots (m - 1) None

-- the vote in a slot: none where its member is not counted, or reported none
abbrev pub reported : Option (Option Vote) → Option Vote
reported None = None
reported (Some report) = report

-- the vote that member m reported, where it is counted and reported one
abbrev pub vote_at : List (Option (Option Vote)) → ℕ → Option Vote
vote_at slots m = reported (report_at slots m)
