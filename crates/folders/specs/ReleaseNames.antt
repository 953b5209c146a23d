-- The names of the files of a number, among the releases and among what was sent.
use Rattle.std.specs.Prelude.{◌≡◌, ◌++◌, ◌⊎◌, ℕ, List, codes, decimal}
use Rattle.folders.specs.Offers.{IsNameOf}
use Rattle.folders.specs.declared.names.OfferKind.{OfferKind}

-- the name is that of a file of the number's release
abbrev pub IsReleaseOf : List ℕ → ℕ → Type 0
IsReleaseOf name n = (name ≡ decimal n ++ codes ".tape") ⊎ ((name ≡ decimal n ++ codes ".void") ⊎ (name ≡ decimal n ++ codes ".galley"))

-- the name is this one, or has more behind it
abbrev pub IsCopyOf : List ℕ → List ℕ → Type 0
IsCopyOf name first = (name ≡ first) ⊎ ((more : List ℕ) × (name ≡ first ++ more))

-- the name is that of a file that asked for something of the number, or was given to a second such file
abbrev pub IsSentOf : List ℕ → ℕ → Type 0
IsSentOf name n = (first : List ℕ) × (kind : OfferKind) × (IsCopyOf name first × IsNameOf first n kind)
