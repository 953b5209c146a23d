-- The bytes of the file `.released`: a head of 16 bytes, and records of 8 bytes.
use Rattle.std.specs.Prelude.{◌≡◌, ◌≤◌, ℕ, ◌+◌, ◌*◌, ◌-◌, ◌/◌, List, [], ◌∷◌, ◌++◌, take, drop}
use Rattle.std.specs.Int.{w16, w32, to_be_bytes}
use Rattle.protocol.specs.Limits.{last_number}
use Rattle.gone_out.specs.declared.origin.Origin.{Origin}
use Rattle.gone_out.specs.Origins.{check}

-- a circuit number
abbrev pub IsNumber : ℕ → Type 0
IsNumber n = (1 ≤ n) × (n ≤ last_number)

-- the head: the mark GONE, the version 1, circuit, member and count, and the check of 0
abbrev pub head_bytes : Origin → List ℕ
head_bytes o = 71 ∷ 79 ∷ 78 ∷ 69 ∷ 0 ∷ 0 ∷ 0 ∷ 1 ∷ [] ++ to_be_bytes w16 o.circuit ++ o.member ∷ o.count ∷ [] ++ to_be_bytes w32 (check o 0)

-- a record: a number, and its check
abbrev pub record_bytes : Origin → ℕ → List ℕ
record_bytes o n = to_be_bytes w32 n ++ to_be_bytes w32 (check o n)

-- the bytes begin with the head of this station
abbrev pub HasHead : List ℕ → Origin → Type 0
HasHead bytes o = take 16 bytes ≡ head_bytes o

-- the record at this place is that of the number
abbrev pub IsRecordAt : List ℕ → Origin → ℕ → ℕ → Type 0
IsRecordAt bytes o n place = take 8 (drop (16 + 8 * place) bytes) ≡ record_bytes o n

-- the number has a record in the bytes, wherever it stands
abbrev pub HasRecord : List ℕ → Origin → ℕ → Type 0
HasRecord bytes o n = (place : ℕ) × IsRecordAt bytes o n place

-- the length of the head and the records that are whole
abbrev pub whole_part : ℕ → ℕ
whole_part len = 16 + 8 * ((len - 16) / 8)

-- what is written in the course of time: the head, and the record of each number
abbrev pub records : Origin → List ℕ → List ℕ
records o [] = []
records o (n ∷ ns) = record_bytes o n ++ records o ns

abbrev pub file : Origin → List ℕ → List ℕ
file o ns = head_bytes o ++ records o ns
