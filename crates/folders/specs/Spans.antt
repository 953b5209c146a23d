-- What the files among the offers ask for that name a range of numbers.
use Rattle.std.specs.Prelude.{◌≡◌, ◌≤◌, ◌++◌, ℕ, List, [], Option, Some, None, codes, decimal}
use Rattle.protocol.specs.Limits.{last_number}
use Rattle.folders.specs.declared.names.Span.{Span}

-- where a range ends: not before its first number, and no later than the last circuit number; or with no last number, where the circuit ends
abbrev pub EndsBehind : ℕ → Option ℕ → Type 0
EndsBehind first (Some last) = (first ≤ last) × (last ≤ last_number)
EndsBehind first None = first ≤ last_number

-- a range of circuit numbers
pub record IsSpan (s : Span) : Type 0 where
  pub begins : 1 ≤ s.first
  pub ends : EndsBehind s.first s.last

-- the last number, where there is one
abbrev pub end_text : Option ℕ → List ℕ
end_text (Some last) = decimal last
end_text None = []

-- the name of a range's file
abbrev pub span_name : Span → List ℕ
span_name s = decimal s.first ++ (codes "-" ++ (end_text s.last ++ codes ".seek"))

-- the name is the very name of this range's file
abbrev pub IsSpanName : List ℕ → Span → Type 0
IsSpanName name s = IsSpan s × (name ≡ span_name s)

-- no range has a file with this name
abbrev pub NamesNoSpan : List ℕ → Type 0
NamesNoSpan name = (s : Span) → ¬ IsSpanName name s
