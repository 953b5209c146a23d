-- Walks over the numbers of a range.
use Rattle.std.specs.Prelude.{◌≡◌, ◌≤◌, ◌<◌, ◌+◌, ℕ, Bool, true, false, ◌&&◌, not, nat_le, nat_lt, List}
use Rattle.protocol.specs.Limits.{last_number}
use Rattle.gone_out.specs.Numbers.{has}

-- the numbers from the first up to an end, without it, that are not in a set
abbrev pub AreMissing : List Bool → ℕ → ℕ → List Bool → Type 0
AreMissing flags first end others = (n : ℕ) → has others n ≡ (nat_le first n && nat_lt n end && not (has flags n))

-- the first number from one on that has no answer; or one behind the last, where each has one
pub record IsOpenFrom (answered : List Bool) (start last place : ℕ) : Type 0 where
  pub above : start ≤ place
  pub all : (n : ℕ) → start ≤ n → n < place → has answered n ≡ true
  pub open_there : place ≤ last → has answered place ≡ false
  pub high : place ≤ last_number + 1
