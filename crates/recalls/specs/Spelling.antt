-- The bytes that a recall is written as, each number big-endian.
use Rattle.std.specs.Prelude.{ℕ, List, [], ◌∷◌, ◌++◌, length}
use Rattle.std.specs.Int.{w16, w32, to_be_bytes}
use Rattle.recalls.specs.Recalls.{Recall}

-- the mark, the version, the kind, the circuit, and who asks whom
abbrev pub front_bytes : (circuit from to : ℕ) → List ℕ
front_bytes circuit from to = 84 ∷ 82 ∷ 1 ∷ 1 ∷ [] ++ to_be_bytes w16 circuit ++ from ∷ to ∷ []

-- the number of the asker's, and how many numbers there are
abbrev pub count_bytes : (asked count : ℕ) → List ℕ
count_bytes asked count = to_be_bytes w32 asked ++ count ∷ []

-- the numbers, one behind the other
abbrev pub number_bytes : List ℕ → List ℕ
number_bytes [] = []
number_bytes (n ∷ ns) = to_be_bytes w32 n ++ number_bytes ns

-- the bytes that a recall is written as
abbrev pub spelling : Recall → List ℕ
spelling r = front_bytes r.circuit r.from r.to ++ count_bytes r.asked (length r.numbers) ++ number_bytes r.numbers
