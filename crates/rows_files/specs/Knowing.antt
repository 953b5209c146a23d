-- Which numbers have a saved row, and which of these rows have a vote, as a station knows it.
use Rattle.std.specs.Prelude.{◌≡◌, ℕ, is_some}
use Rattle.gone_out.specs.declared.known.Known.{Known}
use Rattle.gone_out.specs.Numbers.{has}
use Rattle.rows_saved.specs.Saved.{Saved}

-- just the numbers are known whose row in the map has a promise, and as those with a vote just the ones whose row has a vote
pub record KnowsAll (saved : Saved) (known : Known) : Type 0 where
  pub rows : (n : ℕ) → has known.rows n ≡ is_some (saved n).promised
  pub votes : (n : ℕ) → has known.votes n ≡ is_some (saved n).vote
