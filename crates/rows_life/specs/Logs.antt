-- What the first bytes of a log tell, in the words of SQLite's file format (4.1, 4.2).
use Rattle.std.specs.Prelude.{◌≡◌, ℕ, ◌+◌, ◌*◌, ◌-◌, ◌==◌, ◌&&◌, ◌||◌, not, List, Bool, if◌then◌else◌, false, Option, Some, None, length, take, slice_index, slice_set, nat_le}
use Rattle.sqlite_wal.specs.Format.{checksum}
use Rattle.rows_files.specs.declared.found.FoundLog.{FoundLog}
use Rattle.rows_files.specs.declared.found.FoundLog.TheVariants.{Empty, Blank, Filled}

-- four bytes as a number, the highest first
abbrev pub number_at : List ℕ → ℕ → ℕ
number_at b at =
    slice_index b at * 0x100_0000 + slice_index b (at + 1) * 0x1_0000 + slice_index b (at + 2) * 0x100 + slice_index b (at + 3)

-- the number of a life in a log of this first salt, after so many checkpoints, each of which raises the salt by one
abbrev pub number_in : ℕ → ℕ → Option ℕ
number_in salt checkpoints =
    if nat_le (0x4000_0000 + checkpoints + 1) salt && nat_le salt (0x4000_0000 + checkpoints + 0xff_ffff)
    then Some (salt - (0x4000_0000 + checkpoints)) else None

-- the bytes that a header's sum is over, once its first byte is there, which is written last
abbrev pub summed : List ℕ → List ℕ
summed head = slice_set (take 24 head) 0 0x37

-- what a header begins with, but for its first byte
abbrev pub is_magic : List ℕ → Bool
is_magic head = slice_index head 1 == 0x7f && (slice_index head 2 == 0x06 && slice_index head 3 == 0x82)

-- the header ends with its sum
abbrev pub has_sum : List ℕ → Bool
has_sum head =
    (checksum false (0, 0) (summed head)).0 == number_at head 24 && (checksum false (0, 0) (summed head)).1 == number_at head 28

-- the header is one of a log, and whole, but for its first byte
abbrev pub is_signed : List ℕ → Bool
is_signed head = is_magic head && has_sum head

-- no frame was cut off: the log goes on behind the first frame's head, or that frame's gate is shut, a byte that is written last
abbrev pub is_uncut : List ℕ → Bool
is_uncut head = nat_le 56 (length head) || not (slice_index head 40 == slice_index head 16)

-- the number of the life that the log belongs to, where it has one: no log of a life is shorter than its header and that gate
abbrev pub number_of : List ℕ → Option ℕ
number_of head = if nat_le 41 (length head) && (is_uncut head && is_signed head) then number_in (number_at head 16) (number_at head 12) else None

-- a frame may stand behind the header: it has the header's salts
abbrev pub begins_frame : List ℕ → Bool
begins_frame head =
    nat_le 56 (length head) && (slice_index head 0 == 0x37 && (number_at head 40 == number_at head 16 && number_at head 44 == number_at head 20))

-- what a log is that begins with these bytes
abbrev pub log_of : List ℕ → FoundLog
log_of head = if length head == 0 then Empty else (if begins_frame head then Filled (number_of head) else Blank (number_of head))

-- it begins with all of the magic number, in the one version, and names pages of this size
pub record IsHeaded (page_size : ℕ) (head : List ℕ) : Type 0 where
  pub first : slice_index head 0 ≡ 0x37
  pub version : number_at head 4 ≡ 3007000
  pub size : number_at head 8 ≡ page_size
