-- What a look found of the files whose names ask for nothing, put beside what was known.
use Rattle.std.specs.Prelude.{◌+◌, ◌-◌, ◌++◌, ◌≡◌, ◌≤◌, ℕ, List, String, drop, length, string_bytes}
use Rattle.std.specs.List.{AllByRecursion}
use Rattle.std.specs.List.Sorted.{IsStrictlySortedBy}
use Rattle.std.specs.Map.{keys_of}
use Rattle.std.specs.String.{string_cmp}
use Rattle.std.specs.Global.{Global, Vec}
use Rattle.std.specs.Vec.{vec_capacity, vec_len}
use Rattle.folders.specs.declared.stamp.Stamp.{Stamp}
use Rattle.looks.specs.declared.sighting.Stray.{Stray}
use Rattle.looks.specs.Strays.{known_of, looked, AreInOrder}

-- what was known; the moment of the look; what will be known once all is put beside it; and of how much that is still to be done
pub record MergingValue : Type 0 where
  pub known : List Stray
  pub moment : ℕ
  pub files : List Stray
  pub left : ℕ

-- nothing is put beside what was known yet
abbrev pub begun : List Stray → ℕ → List (String Global × Stamp) → MergingValue
begun known now found = record { known = known; moment = now; files = looked known now found; left = length found }

-- so many more are
abbrev pub fewer : ℕ → MergingValue → MergingValue
fewer count m = record m { left = m.left - count }

-- of what is left the same is known to the files from a place on as to all; what is done stands before it, in order; and there is room for all
pub record IsMerging (known : Vec Stray) (past : ℕ) (left : List (String Global × Stamp)) (files : Vec Stray) (now : ℕ) : Type 0 where
  pub within : past ≤ length known.items
  pub order : AreInOrder (drop past known.items)
  pub names : IsStrictlySortedBy string_cmp (keys_of left)
  pub same : AllByRecursion (λ (e : String Global × Stamp). known_of (drop past known.items) (string_bytes e.0) ≡ known_of known.items (string_bytes e.0)) left
  pub whole : AreInOrder (files.items ++ looked known.items now left)
  pub room : vec_len files + length left ≤ vec_capacity files
