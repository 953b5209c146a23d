-- Ranges of numbers that are all in a set.
use Rattle.std.specs.Prelude.{◌≡◌, ◌<◌, ◌≤◌, ℕ, ◌+◌, Bool, true, false, List, Option, Some, None}
use Rattle.protocol.specs.Limits.{last_number}
use Rattle.gone_out.specs.declared.ranges.Range.{Range}
use Rattle.gone_out.specs.Numbers.{has}

-- none of the set stands from one number up to another
abbrev pub NoneBetween : List Bool → ℕ → ℕ → Type 0
NoneBetween flags low high = (n : ℕ) → low ≤ n → n < high → has flags n ≡ false

-- the first range from this number on: none comes before it, all of it are in the set, and what follows it is not
pub record IsFirstRange (flags : List Bool) (start : ℕ) (r : Range) : Type 0 where
  pub above : start ≤ r.first
  pub rises : r.first ≤ r.last
  pub none_before : NoneBetween flags start r.first
  pub all : (n : ℕ) → r.first ≤ n → n ≤ r.last → has flags n ≡ true
  pub whole : r.last < last_number → has flags (r.last + 1) ≡ false

-- what was found from this number on
abbrev pub FoundFrom : List Bool → ℕ → Option Range → Type 0
FoundFrom flags start None = (n : ℕ) → start ≤ n → n ≤ last_number → has flags n ≡ false
FoundFrom flags start (Some r) = IsFirstRange flags start r

-- the first number of the set from this one on
abbrev pub NextFrom : List Bool → ℕ → Option ℕ → Type 0
NextFrom flags start None = (n : ℕ) → start ≤ n → n ≤ last_number → has flags n ≡ false
NextFrom flags start (Some first) = (start ≤ first) × NoneBetween flags start first × (has flags first ≡ true)

-- all from the first to the last are in the set, and what follows the last is not
pub record IsLastFrom (flags : List Bool) (first last : ℕ) : Type 0 where
  pub rises : first ≤ last
  pub all : (n : ℕ) → first ≤ n → n ≤ last → has flags n ≡ true
  pub whole : last < last_number → has flags (last + 1) ≡ false
