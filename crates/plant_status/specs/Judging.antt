-- Whether a station is well.
use Rattle.std.specs.Prelude.{ℕ, ◌-◌, ◌/◌, ◌||◌, Bool, false, not, nat_le, nat_lt, List, length, count_by, Option, Some, None}
use Rattle.plant_status.specs.declared.health.Health.{Health}

-- nothing is amiss
abbrev pub is_well : Health → Bool
is_well h = not (h.is_old || (h.is_alone || h.is_missing))

-- a member that was heard so many seconds ago was heard of late
abbrev pub is_recent : ℕ → Bool
is_recent ago = nat_le ago 180

-- more than half of the others, heard so many seconds ago, were not heard of late: those that were and the station itself are no majority
abbrev pub is_alone : List ℕ → Bool
is_alone heard = nat_lt (length heard / 2) (length heard - count_by is_recent heard)

-- something is missing for longer than a minute
abbrev pub is_long_missing : Option ℕ → Bool
is_long_missing None = false
is_long_missing (Some ago) = nat_lt 60 ago
