-- Recalls and rolls that are passed over, and when that is told.
use Rattle.std.specs.Prelude.{ℕ, ◌+◌, Bool, None, min, if◌then◌else◌}
use Rattle.plant_log.specs.Differing.{is_time, told_at}
use Rattle.catch_up_log.specs.declared.unheards.Spoken.{Spoken}
use Rattle.catch_up_log.specs.declared.unheards.Unheards.{Unheards}

-- none of these was passed over
abbrev pub no_unheards : Spoken → Unheards
no_unheards spoken = record { spoken = spoken; count = 0; told = None }

-- one that is passed over is told where none was in the last second
abbrev pub is_unheard_told : Unheards → ℕ → Bool
is_unheard_told u now = is_time u.told now

-- how many there are with this one, as far as 64 bits hold
abbrev pub counted : Unheards → ℕ
counted u = min (u.count + 1) 18_446_744_073_709_551_615

-- where it was told the count begins anew, and else it goes on
abbrev pub unheards_after : Unheards → ℕ → Unheards
unheards_after u now = record { spoken = u.spoken; count = if is_time u.told now then 0 else counted u; told = told_at u.told now }
