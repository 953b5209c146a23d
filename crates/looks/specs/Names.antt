-- What the names among the offers stand for.
use Rattle.std.specs.Prelude.{◌++◌, ◌≤◌, ℕ, List, Bool, decimal}
use Rattle.std.specs.Ordering.{is_lt, nat_cmp}
use Rattle.std.specs.Cmp.Lexicographic.{slice_cmp}
use Rattle.protocol.specs.Limits.{last_number}
use Rattle.folders.specs.Offers.{kind_word, NamesNone, IsLeft}
use Rattle.folders.specs.declared.names.FileRequest.{FileRequest}

-- the very name of the file that asks for this
abbrev pub name_of : FileRequest → List ℕ
name_of r = decimal r.number ++ kind_word r.kind

-- its number is one of a circuit
abbrev pub IsRequest : FileRequest → Type 0
IsRequest r = (1 ≤ r.number) × (r.number ≤ last_number)

-- a file of this name asks for nothing, and is not left alone
abbrev pub IsStray : List ℕ → Type 0
IsStray name = NamesNone name × ¬ IsLeft name

-- a name stands before another
abbrev pub is_before : List ℕ → List ℕ → Bool
is_before a b = is_lt (slice_cmp nat_cmp a b)
