-- Entries: what stations agree on for a number.
use Rattle.std.specs.Prelude.{ℕ, List}

-- a tape is the list of its frames
abbrev pub Tape : Type 0
Tape = List ℕ

-- what is agreed on for a number: its tape, or that it is withdrawn; to Lamport either is a value
pub data Entry : Type 0 where
  Void : Entry
  Taped : (tape : Tape) → Entry
