-- The bytes that a roll is written as, each number big-endian.
use Rattle.std.specs.Prelude.{ℕ, List, [], ◌∷◌, ◌++◌, replicate}
use Rattle.std.specs.Int.{w16, w32, to_be_bytes}
use Rattle.rolls.specs.Kinds.{number_of_kind}
use Rattle.rolls.specs.Rolls.{Body, CountsAsked, Counts, PageAsked, Page, Roll}
use Rattle.rolls.specs.Bodies.{kind_of}

-- the mark, the version, the kind and the circuit
abbrev pub front_bytes : (kind circuit : ℕ) → List ℕ
front_bytes kind circuit = 84 ∷ 82 ∷ 1 ∷ kind ∷ [] ++ to_be_bytes w16 circuit

-- the counts, one behind the other
abbrev pub count_bytes : List ℕ → List ℕ
count_bytes [] = []
count_bytes (c ∷ cs) = to_be_bytes w16 c ++ count_bytes cs

-- what stands after the header
abbrev pub body_bytes : Body → List ℕ
body_bytes CountsAsked = replicate 5 0
body_bytes (Counts counts) = count_bytes counts
body_bytes (PageAsked page) = page ∷ replicate 4 0
body_bytes (Page page bits) = page ∷ bits

-- the bytes that a roll is written as
abbrev pub spelling : Roll → List ℕ
spelling r = front_bytes (number_of_kind (kind_of r.body)) r.circuit ++ r.from ∷ r.to ∷ [] ++ to_be_bytes w32 r.asked ++ body_bytes r.body
