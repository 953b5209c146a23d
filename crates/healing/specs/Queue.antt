-- Numbers by the moment at which they are looked at.
use Rattle.std.specs.Prelude.{◌≡◌, ◌≤◌, ℕ, Bool, List, ◌∷◌, Option, Some, None}
use Rattle.std.specs.BTreeMap.{is_at}
use Rattle.std.specs.List.{list_any}
use Rattle.std.specs.Ordering.{ordering_then, nat_cmp}
use Rattle.std.specs.declared.cmp.Ordering.{Ordering}

-- by moment, and then by number
abbrev pub moment_cmp : ℕ × ℕ → ℕ × ℕ → Ordering
moment_cmp a b = ordering_then (nat_cmp a.0 b.0) (nat_cmp a.1 b.1)

-- the first is taken, where its moment has come
abbrev pub IsTaken : ℕ → Option ℕ → List (ℕ × ℕ) → List (ℕ × ℕ) → Type 0
IsTaken now None old new = new ≡ old
IsTaken now (Some number) old new = (moment : ℕ) × (moment ≤ now) × (old ≡ (moment, number) ∷ new)

-- the number is among those that wait
abbrev pub stands_in : List ℕ → ℕ → Bool
stands_in waiting n = list_any (is_at (nat_cmp n)) waiting
