-- What stations say to one another beside packets, as it is read.
use Rattle.std.specs.Prelude.{ℕ, Bool, ◌&&◌, List, length, slice_index, is_some, nat_lt, if◌then◌else◌}
use Rattle.recalls.specs.Reading.{recall_at}
use Rattle.rolls.specs.Kinds.{kind_of_byte}
use Rattle.rolls.specs.Reading.{roll_at}
use Rattle.rolls.specs.declared.aside.Aside.{Aside}
use Rattle.rolls.specs.declared.aside.Aside.TheVariants.{Recall, Roll}

-- there is a fourth byte, and it is the kind of a roll
abbrev pub is_aside_of_rolls : List ℕ → Bool
is_aside_of_rolls bytes = nat_lt 3 (length bytes) && is_some (kind_of_byte (slice_index bytes 3))

-- what the bytes are read as: a roll where their fourth byte is the kind of one, else a recall
unfoldable pub aside_in : List ℕ → Aside
aside_in bytes = if is_aside_of_rolls bytes then Roll (roll_at bytes) else Recall (recall_at bytes)
