-- Which key is that of a circuit.
use Rattle.std.specs.Prelude.{◌≡◌, List, [], ◌∷◌, Option, Some, None}
use Rattle.circuit_keys.specs.declared.key_file.SharedKeys.{SharedKeys}

-- a key is that of a plant, if the plant has one
abbrev pub IsKeyOf : Option SharedKeys → Option SharedKeys → Type 0
IsKeyOf key None = Unit {0}
IsKeyOf key (Some own) = key ≡ Some own

-- it is that of each of these plants that has one: so no two of them have different keys
abbrev pub AllHave : Option SharedKeys → List (Option SharedKeys) → Type 0
AllHave key [] = Unit {0}
AllHave key (own ∷ others) = IsKeyOf key own × AllHave key others

-- none of these plants has a key
abbrev pub NoneHas : List (Option SharedKeys) → Type 0
NoneHas [] = Unit {0}
NoneHas (own ∷ others) = (own ≡ None) × NoneHas others
