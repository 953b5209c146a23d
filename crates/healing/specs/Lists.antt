-- Lists of numbers.
use Rattle.std.specs.Prelude.{ℕ, ◌<◌, ◌≤◌, Bool, List, [], ◌∷◌, ◌==◌}
use Rattle.std.specs.List.{list_any}
use Rattle.protocol.specs.Limits.{last_number}

-- each number is above the one before it, and at most the last circuit number
abbrev pub Rise : ℕ → List ℕ → Type 0
Rise above [] = Unit {0}
Rise above (n ∷ ns) = (above < n) × (n ≤ last_number) × Rise n ns

-- the number is among these
abbrev pub is_among : List ℕ → ℕ → Bool
is_among numbers n = list_any (λ each. each == n) numbers
