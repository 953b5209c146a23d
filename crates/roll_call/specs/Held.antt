-- Which numbers have a vote at the station, and how many of each page.
use Rattle.std.specs.Prelude.{◌≡◌, ◌<◌, ℕ, zero, suc, ◌+◌, Bool, true, ◌&&◌, List, length, slice_index, slice_set, if◌then◌else◌}
use Rattle.protocol.specs.Limits.{is_number}
use Rattle.gone_out.specs.Files.{IsNumber}
use Rattle.gone_out.specs.Numbers.{has}
use Rattle.rolls.specs.Pages.{pages, page_numbers, page_of, number_on}
use Rattle.rolls.specs.Votes.{Votes, has_vote}

-- the numbers that have a vote, and how many of each page
pub record HeldValue : Type 0 where
  pub votes : List Bool
  pub counts : List ℕ

-- how many numbers among the first places of a page have a vote
unfoldable pub count_below : List Bool → (page places : ℕ) → ℕ
count_below votes page zero = 0
count_below votes page (suc place) =
    count_below votes page place + (if is_number (number_on page place) && has votes (number_on page place) then 1 else 0)

-- how many numbers of a page have a vote
abbrev pub count_on : List Bool → ℕ → ℕ
count_on votes page = count_below votes page page_numbers

-- the counts are how many numbers of each page have a vote
pub record AreCounted (votes : List Bool) (counts : List ℕ) : Type 0 where
  pub many : length counts ≡ pages
  pub each : (page : ℕ) → page < pages → slice_index counts page ≡ count_on votes page

-- the counts after one number more has a vote; the same where it had one
abbrev pub counts_with : ℕ → HeldValue → List ℕ
counts_with number h = if has h.votes number then h.counts else slice_set h.counts (page_of number) (slice_index h.counts (page_of number) + 1)

-- a number has a vote now: each other has one where it had one, and one number more is counted on its page, unless it had one before
pub record IsVoted (number : ℕ) (old new : HeldValue) : Type 0 where
  pub same : has new.votes number ≡ true
  pub others : (n : ℕ) → ¬ (n ≡ number) → has new.votes n ≡ has old.votes n
  pub counts : new.counts ≡ counts_with number old

-- a circuit number lies on this page
pub record LiesOn (n page : ℕ) : Type 0 where
  pub is : page ≡ page_of n
  pub number : IsNumber n

-- those numbers of a page that have a vote
pub record AreVotesOn (p : ℕ) (votes : List Bool) (v : Votes) : Type 0 where
  pub page : v.page ≡ p
  pub among : (n : ℕ) → IsNumber n → page_of n ≡ p → has_vote v n ≡ has votes n
