-- The names of the files of a reel's tapes.
use Rattle.std.specs.Prelude.{ℕ, List, [], ◌++◌, codes, decimal, nat_lt, if◌then◌else◌}

-- zeros that bring a number to three digits
unfoldable pub zeros_before : ℕ → List ℕ
zeros_before number = if nat_lt number 10 then codes "00" else if nat_lt number 100 then codes "0" else []

-- the name of the file of a tape, by its number: `001.tape` for the first
abbrev pub tape_name : ℕ → List ℕ
tape_name number = zeros_before number ++ decimal number ++ codes ".tape"
