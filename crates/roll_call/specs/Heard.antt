-- What a member told of its votes.
use Rattle.std.specs.Prelude.{ℕ, Bool, true, false, ◌||◌, ◌==◌, nat_lt, List, replicate, Option, Some, None, slice_set, if◌then◌else◌}
use Rattle.std.specs.List.{common_prefix_len}
use Rattle.rolls.specs.Pages.{pages}

-- how many numbers of each page have a vote, as the member told last; how many it had when it told which; the first page of which these
-- differ; and whether there was a time when none did
pub record HeardValue : Type 0 where
  pub told : List ℕ
  pub known : List ℕ
  pub lowest : Option ℕ
  pub is_whole : Bool

-- it told nothing yet
abbrev pub nothing_heard : HeardValue
nothing_heard = record { told = replicate pages 0; known = replicate pages 0; lowest = None; is_whole = false }

-- the first place at which two lists differ, or their length
abbrev pub first_other : List ℕ → List ℕ → ℕ
first_other told known = common_prefix_len (λ a b. a == b) told known

-- the first page of which another count was told than is known
abbrev pub lowest_of : List ℕ → List ℕ → Option ℕ
lowest_of told known = if nat_lt (first_other told known) pages then Some (first_other told known) else None

-- there is none
abbrev pub is_none : Option ℕ → Bool
is_none None = true
is_none (Some page) = false

-- these counts were told, and those are known
abbrev pub heard_so : List ℕ → List ℕ → HeardValue → HeardValue
heard_so told known h = record { told = told; known = known; lowest = lowest_of told known; is_whole = h.is_whole || is_none (lowest_of told known) }

-- it told its counts
abbrev pub with_counts : List ℕ → HeardValue → HeardValue
with_counts counts h = heard_so counts h.known h

-- it told which numbers of a page have a vote, and there are so many
abbrev pub with_page : (page count : ℕ) → HeardValue → HeardValue
with_page page count h = heard_so (slice_set h.told page count) (slice_set h.known page count) h
