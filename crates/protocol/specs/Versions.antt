-- The two versions of packets and saved rows, and which entries fit one.
use Rattle.std.specs.Prelude.{Bool, true, false, ◌&&◌, nat_le, length}
use Rattle.protocol.specs.Entries.{Entry, Void, Taped}
use Rattle.protocol.specs.Limits.{most_frames_one}

-- in which version a station spells its packets and saves its rows; Lamport's processes have one for ever
pub data Version : Type 0 where
  One Two : Version

-- the version has a spelling and a row for the entry: version 1 for a tape of 1 to 4,096 frames, version 2 for each
abbrev pub fits : Version → Entry → Bool
fits One Void = false
fits One (Taped tape) = nat_le 1 (length tape) && nat_le (length tape) most_frames_one
fits Two entry = true
