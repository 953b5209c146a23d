-- What is known of a file whose name asks for nothing, and what becomes of that.
use Rattle.std.specs.Prelude.{◌+◌, ◌&&◌, ℕ, Bool, true, false, Option, Some, None, nat_le, nat_lt, not, if◌then◌else◌}
use Rattle.std.specs.Str.{bytes_eq}
use Rattle.folders.specs.FaultWords.{fault_word}
use Rattle.folders.specs.declared.fault.FolderFault.{FolderFault}
use Rattle.folders.specs.declared.fault.FolderFault.TheVariants as faults
use Rattle.folders.specs.declared.stamp.Stamp.{Stamp}
use Rattle.offers.specs.Looks.{is_same_stamp}
use Rattle.offers.specs.Stages.{later}
use Rattle.looks.specs.declared.sighting.Sighting.{Sighting}

-- it is found for the first time
abbrev pub anew : Stamp → ℕ → Sighting
anew stamp now = record { stamp = stamp; since = now; from = Some 0; told = None }

-- what is known of a file that is found now: where it is as it was, what was known; else it is seen anew
abbrev pub sighted : Option Sighting → Stamp → ℕ → Sighting
sighted None stamp now = anew stamp now
sighted (Some known) stamp now = if is_same_stamp known.stamp stamp then known else anew stamp now

-- its moment has come
abbrev pub has_come : Option ℕ → ℕ → Bool
has_come None looked = false
has_come (Some from) looked = nat_le from looked

-- it is moved: two looks, so long apart, found it as it is, the first that did and the last look; and its moment has come
abbrev pub is_ripe : ℕ → ℕ → Sighting → Bool
is_ripe still looked s = nat_le (s.since + still) looked && has_come s.from looked

-- a fault is told, unless it is that the file is gone, or another by now
abbrev pub is_told : FolderFault → Bool
is_told faults.Missing = false
is_told faults.Changed = false
is_told faults.NotAllowed = true
is_told faults.Full = true
is_told faults.NameTooLong = true
is_told faults.NoFile = true
is_told faults.NoFolder = true
is_told faults.TooLong = true
is_told faults.InUse = true
is_told faults.Failed = true
is_told faults.OutOfMemory = true

-- the same was told last, and less than an hour ago
abbrev pub was_told : Option (FolderFault × ℕ) → FolderFault → ℕ → Bool
was_told None fault now = false
was_told (Some told) fault now = bytes_eq (fault_word told.0) (fault_word fault) && nat_lt now (told.1 + 3_600_000)

-- that it can't be moved is told
abbrev pub is_to_be_told : Sighting → FolderFault → ℕ → Bool
is_to_be_told s fault now = is_told fault && not (was_told s.told fault now)

-- it was moved, and is not again
abbrev pub moved : Sighting → Sighting
moved s = record s { from = None }

-- it could not be moved, is tried again a minute later, and what was told of it is kept in mind
abbrev pub put_off : FolderFault → ℕ → Sighting → Sighting
put_off fault now s = record s { from = Some (later now 60_000); told = if is_to_be_told s fault now then Some (fault, now) else s.told }
