-- What is asked for: a page, that is, which of its numbers have a vote; or the counts, how many of each page have one.
use Rattle.std.specs.Prelude.{ℕ, Bool, true, false, ◌==◌, Option, Some, None}
use Rattle.rolls.specs.Rolls.{Body, CountsAsked, PageAsked}

-- a page, or the counts
abbrev pub Topic : Type 0
Topic = Option ℕ

-- how many numbers of each page have a vote
abbrev pub the_counts : Topic
the_counts = None

-- both are the counts, or one page
abbrev pub is_same : Topic → Topic → Bool
is_same None None = true
is_same None (Some q) = false
is_same (Some p) None = false
is_same (Some p) (Some q) = p == q

-- what is said to ask for it
abbrev pub question_of : Topic → Body
question_of None = CountsAsked
question_of (Some page) = PageAsked page
