-- What members tell of their votes, page by page, and that nothing is missed in what a majority told.
use Rattle.std.specs.Prelude.{◌≡◌, ℕ, ◌/◌, ◌≤◌, List, Bool, true, ◌==◌, ◌&&◌, count_by}
use Rattle.protocol.specs.Lists.{IsAmong}
use Rattle.protocol.specs.Ballots.{IsMember, Majority}
use Rattle.protocol.specs.Entries.{Entry}
use Rattle.protocol.specs.Circuit.{Circuit, State, History}
use Rattle.protocol.specs.Agreement.{IsChosen}
use Rattle.roll_laws.specs.Votes.{has_vote, GoesOnTo}

-- the page on which a number lies: a page has 8,192 numbers
abbrev pub page_of : ℕ → ℕ
page_of n = n / 8192

-- what a member told of a page: at a moment of the history just those numbers of the page of which it had a vote then
pub record Telling {D G F : Type 0} {z : Circuit D G F} {w : State G F} (whole : History z w) (page m : ℕ) : Type 0 where
  pub state : State G F
  pub moment : History z state
  pub is_moment : GoesOnTo moment whole
  pub told : ℕ → Bool
  pub is_just : (n : ℕ) → told n ≡ (page_of n == page) && has_vote state m n

-- a majority told the page, each member at a moment of its own
abbrev pub Rolls : {D G F : Type 0} {z : Circuit D G F} {w : State G F} → History z w → ℕ → Type 0
Rolls {z = z} whole page = Majority z.count (λ m. Telling whole page m)

-- this moment is not later than any of theirs
abbrev pub IsBeforeAll :
    {D G F : Type 0} {z : Circuit D G F} {w v : State G F} {whole : History z w} {page : ℕ} → History z v → Rolls whole page → Type 0
IsBeforeAll {z = z} early rolls =
    (m : ℕ) (i : IsMember z.count m) (has : rolls.has m ≡ true) → GoesOnTo early (rolls.each m i has).moment

-- n is among what one of them told
pub record IsTold {D G F : Type 0} {z : Circuit D G F} {w : State G F} {whole : History z w} {page : ℕ} (rolls : Rolls whole page) (n : ℕ) : Type 0 where
  pub member : ℕ
  pub is_member : IsMember z.count member
  pub is_teller : rolls.has member ≡ true
  pub is_told : (rolls.each member is_member is_teller).told n ≡ true

-- where a majority told a page, every number of the page that was chosen before the first of them told is among what they told
abbrev pub RollsMissNothing : (D G F : Type 0) → Type 0
RollsMissNothing D G F =
    (z : Circuit D G F) (w : State G F) (whole : History z w) (page : ℕ) (rolls : Rolls whole page)
    → (v : State G F) (early : History z v) → IsBeforeAll early rolls
    → (n : ℕ) (t : Entry) → page_of n ≡ page → IsChosen early n t → IsTold rolls n

-- what a member has a vote of is among what it tells of that page from then on
abbrev pub VotesAreToldFromThenOn : (D G F : Type 0) → Type 0
VotesAreToldFromThenOn D G F =
    (z : Circuit D G F) (w v : State G F) (whole : History z w) (early : History z v) (page m : ℕ) (telling : Telling whole page m)
    → GoesOnTo early telling.moment → (n : ℕ) → page_of n ≡ page → has_vote v m n ≡ true → telling.told n ≡ true

-- of how many of these numbers member m has a vote
abbrev pub votes_among : {G F : Type 0} → State G F → ℕ → List ℕ → ℕ
votes_among w m numbers = count_by (has_vote w m) numbers

-- whatever the numbers, as those of a page, no member has a vote of fewer of them later
abbrev pub CountsNeverFall : (D G F : Type 0) → Type 0
CountsNeverFall D G F =
    (z : Circuit D G F) (w v : State G F) (h : History z w) (k : History z v) → GoesOnTo h k
    → (m : ℕ) (numbers : List ℕ) → votes_among w m numbers ≤ votes_among v m numbers

-- and where it has a vote of as many of them, it has a vote of the same
abbrev pub EqualCountsAreSameVotes : (D G F : Type 0) → Type 0
EqualCountsAreSameVotes D G F =
    (z : Circuit D G F) (w v : State G F) (h : History z w) (k : History z v) → GoesOnTo h k
    → (m : ℕ) (numbers : List ℕ) → votes_among w m numbers ≡ votes_among v m numbers
    → (n : ℕ) → IsAmong numbers n → has_vote w m n ≡ has_vote v m n
