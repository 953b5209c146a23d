-- Names under which a station makes files that are not whole yet.
use Rattle.std.specs.Prelude.{◌≡◌, ◌++◌, ◌⊎◌, ℕ, List, codes, decimal}

-- the name of the file of this count, of the process of this number that started at this moment
abbrev pub own_name : ℕ → ℕ → ℕ → List ℕ
own_name process start count =
    codes ".circuitd-" ++ (decimal process ++ (codes "-" ++ (decimal start ++ (codes "-" ++ (decimal count ++ codes ".part")))))

-- the name begins as those that a station makes
abbrev pub BeginsAsOwn : List ℕ → Type 0
BeginsAsOwn name = (rest : List ℕ) × (name ≡ codes ".circuitd-" ++ rest)

-- the name is one of the two that versions 0.2.0 and 0.3.0 made ahead
abbrev pub IsOldName : List ℕ → Type 0
IsOldName name = (name ≡ codes ".1.part") ⊎ (name ≡ codes ".2.part")

-- a station made the file of this name
abbrev pub IsOwnName : List ℕ → Type 0
IsOwnName name = BeginsAsOwn name ⊎ IsOldName name
