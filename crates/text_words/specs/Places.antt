-- Places of a text, as a person counts them.
use Rattle.std.specs.Prelude.{ℕ, suc, List, length, Bool, ◌==◌, count_by}
use Rattle.slug_reader.specs.Positions.{after_last}

-- the byte ends a line
abbrev pub ends_line : ℕ → Bool
ends_line byte = byte == 10

-- the number of the line behind a prefix of a text: one more than the line ends in it
abbrev pub line_behind : List ℕ → ℕ
line_behind prefix = suc (count_by ends_line prefix)

-- the column behind a prefix of a text, in bytes from 1: one more than the bytes after its last line end
abbrev pub column_behind : List ℕ → ℕ
column_behind prefix = suc (length (after_last ends_line prefix))
