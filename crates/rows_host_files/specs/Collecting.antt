-- Numbers that are taken down as their rows come.
use Rattle.std.specs.Prelude.{◌≡◌, ℕ, List, [], ◌∷◌, Bool, true, false, is_some, ◌==◌, ◌&&◌, ◌||◌}
use Rattle.protocol.specs.Rows.{Row}
use Rattle.gone_out.specs.declared.known.Known.{Known}
use Rattle.gone_out.specs.Numbers.{has}

-- what is known now is what was known, and this number, which has a vote or has none
pub record IsAdded (old new : Known) (number : ℕ) (voted : Bool) : Type 0 where
  pub same : has new.rows number ≡ true
  pub rows : (n : ℕ) → ¬ (n ≡ number) → has new.rows n ≡ has old.rows n
  pub vote : has new.votes number ≡ (has old.votes number || voted)
  pub votes : (n : ℕ) → ¬ (n ≡ number) → has new.votes n ≡ has old.votes n

-- some row of the list stands under the number
abbrev pub has_row : List (ℕ × Row) → ℕ → Bool
has_row [] n = false
has_row (p ∷ ps) n = (n == p.0) || has_row ps n

-- some row of the list that has a vote stands under the number
abbrev pub has_vote : List (ℕ × Row) → ℕ → Bool
has_vote [] n = false
has_vote (p ∷ ps) n = ((n == p.0) && is_some p.1.vote) || has_vote ps n

-- what is known now is what was known, and the numbers of these rows
pub record Collects (old new : Known) (items : List (ℕ × Row)) : Type 0 where
  pub rows : (n : ℕ) → has new.rows n ≡ (has old.rows n || has_row items n)
  pub votes : (n : ℕ) → has new.votes n ≡ (has old.votes n || has_vote items n)
