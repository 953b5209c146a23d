-- How many numbers of each page have a vote.
use Rattle.std.specs.Prelude.{◌≡◌, ◌≤◌, ℕ, ◌+◌, Bool, true, ◌&&◌, List, [], ◌∷◌, length, slice_index, slice_set, nat_lt, nat_le, if◌then◌else◌}
use Rattle.rolls.specs.Pages.{pages, numbers_on}

-- a count for each page, at most the numbers that lie there
pub record AreCounts (counts : List ℕ) : Type 0 where
  pub many : length counts ≡ pages
  pub fit : (page : ℕ) → slice_index counts page ≤ numbers_on page

-- the counts after one number more of a page has a vote; the same where all of its numbers have one
abbrev pub raised : List ℕ → ℕ → List ℕ
raised counts page = if nat_lt (slice_index counts page) (numbers_on page) then slice_set counts page (slice_index counts page + 1) else counts

-- the counts after so many numbers of a page have a vote; the same where fewer lie there
abbrev pub with_count : List ℕ → ℕ → ℕ → List ℕ
with_count counts page count = if nat_le count (numbers_on page) then slice_set counts page count else counts

-- the counts of this page and those that follow are at most the numbers that lie there
abbrev pub counts_fit : ℕ → List ℕ → Bool
counts_fit page [] = true
counts_fit page (count ∷ counts) = nat_le count (numbers_on page) && counts_fit (page + 1) counts
