-- Which numbers are missing at a plant.
use Rattle.std.specs.Prelude.{ℕ, Bool, false, ◌&&◌, ◌||◌, not, List, Option, Some, None}
use Rattle.catch_up.specs.Calls.{has_vote_in}
use Rattle.catch_up.specs.Lacking.{gone_in}
use Rattle.gone_out.specs.Numbers.{has}
use Rattle.plant_care.specs.declared.care.Care.{Care}

-- a number is among those that were asked for
abbrev pub is_lacked : Option (List Bool) → ℕ → Bool
is_lacked None number = false
is_lacked (Some numbers) number = has numbers number

-- a number did not go out here, and the station's own row of it has a vote, or it was asked for since nothing was lacked last
abbrev pub is_missing : Care → ℕ → Bool
is_missing c number = not (gone_in c.catch_up.healing number) && (has_vote_in number c.catch_up.rolls || is_lacked c.lacked number)
