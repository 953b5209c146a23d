-- Where a station sits: what of its circuit it is set up with, and every turn of it looks at.
use Rattle.std.specs.Prelude.{ℕ}

-- a circuit's number, a member of it, and how many members it has
pub record Seat : Type 0 where
  pub circuit : ℕ
  pub me : ℕ
  pub members : ℕ

-- member m of the c of circuit k
abbrev pub sits : ℕ → ℕ → ℕ → Seat
sits k m c = record { circuit = k; me = m; members = c }
