-- Lines, and the moments before them.
use Rattle.std.specs.Prelude.{◌≡◌, ◌≢◌, ◌==◌, ◌-◌, ◌<◌, ◌&&◌, ℕ, Bool, true, not, nat_lt, slice_index, List, [], ◌++◌, length, take, Option, All}
use Rattle.std.specs.Io.KnownBytes.{Appends}

-- no byte is a line feed
abbrev pub HasNoEnd : List ℕ → Type 0
HasNoEnd bytes = All (λ b. b ≢ 10) bytes

-- no byte but the last is a line feed
abbrev pub IsOneLine : List ℕ → Type 0
IsOneLine bytes = HasNoEnd (take (length bytes - 1) bytes)

-- the last byte is a line feed
abbrev pub ends_line : List ℕ → Bool
ends_line bytes = nat_lt 0 (length bytes) && (slice_index bytes (length bytes - 1) == 10)

-- some moment was written; its text is that of the clock's crate
abbrev pub Stamps : Option (List ℕ) → Option (List ℕ) → Type 0
Stamps old new = (stamp : List ℕ) × Appends old new stamp

-- a moment, unless a line went on
abbrev pub Begins : Bool → Option (List ℕ) → Option (List ℕ) → Type 0
Begins was_within old new = (stamp : List ℕ) × (was_within ≡ true → stamp ≡ []) × Appends old new stamp

-- these bytes of one line were written, as they are: behind a moment where they begin a line, and behind nothing where they go on with one
abbrev pub WritesLine : Bool → List ℕ → Bool → Option (List ℕ) → Option (List ℕ) → Type 0
WritesLine was_within bytes is_within old new =
    IsOneLine bytes × (0 < length bytes → is_within ≡ not (ends_line bytes))
    × (stamp : List ℕ) × (was_within ≡ true → stamp ≡ []) × Appends old new (stamp ++ bytes)
