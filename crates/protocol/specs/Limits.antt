-- The limits of a circuit.
use Rattle.std.specs.Prelude.{ℕ, Bool, nat_le, ◌&&◌}

-- the most members of a circuit
abbrev pub most_members : ℕ
most_members = 15

-- the last circuit number
abbrev pub last_number : ℕ
last_number = 999999

-- numbers are 1 to the last
abbrev pub is_number : ℕ → Bool
is_number n = nat_le 1 n && nat_le n last_number

-- the most frames of a tape that version 1 has a spelling and a row for
abbrev pub most_frames_one : ℕ
most_frames_one = 4096

-- the most packets that go out at one turn: two to each other member
abbrev pub most_sent : ℕ
most_sent = 28
