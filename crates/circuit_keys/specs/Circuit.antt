-- What a circuit's key is made for.
use Rattle.std.specs.Prelude.{◌≡◌, ℕ, ◌/◌, ◌%◌, List, [], ◌∷◌, ◌++◌, codes}

-- what the key is for
abbrev pub name : List ℕ
name = codes "circuitd sealed1"

-- the circuit's number in two bytes, and how many members it has
abbrev pub circuit_text : ℕ → ℕ → List ℕ
circuit_text circuit count = name ++ circuit / 256 ∷ circuit % 256 ∷ count ∷ []

-- one text is that of one circuit: of one number, and of one count of members
abbrev pub OneCircuit : Type 0
OneCircuit = (c c' count count' : ℕ) → circuit_text c count ≡ circuit_text c' count' → (c ≡ c') × (count ≡ count')
