-- What went out before a station kept that, in the first start that keeps it.
use Rattle.std.specs.Prelude.{◌≡◌, ℕ, Bool, true, false, not, ◌&&◌, ◌||◌, ◌==◌, List, Option, Some, None, is_some, if◌then◌else◌}
use Rattle.gone_out.specs.Numbers.{has, IsEmpty}
use Rattle.catch_up.specs.declared.before.Before.{Before}

-- whether a number is among these, where there are any
abbrev pub has_in : Option (List Bool) → ℕ → Bool
has_in None n = false
has_in (Some numbers) n = has numbers n

-- whether a number was collected
abbrev pub has_before : Before → ℕ → Bool
has_before b n = has_in b.numbers n

-- what others have and is not known here went out before
abbrev pub collects : Before → Bool
collects b = is_some b.numbers && not b.is_over

-- nothing was collected yet, and only a first start collects
pub record IsBegunBefore (is_first : Bool) (b : Before) : Type 0 where
  pub first : is_some b.numbers ≡ is_first
  pub none : (n : ℕ) → has_before b n ≡ false
  pub over : b.is_over ≡ false

-- a number was collected, where any are
pub record IsAdded (old new : Before) (number : ℕ) : Type 0 where
  pub first : is_some new.numbers ≡ is_some old.numbers
  pub numbers : (n : ℕ) → has_before new n ≡ (has_before old n || is_some old.numbers && (n == number))
  pub over : new.is_over ≡ old.is_over

-- where a majority told its votes, it is over
abbrev pub settled_before : Bool → Before → Before
settled_before is_told b = record b { is_over = b.is_over || is_told }

-- what is handed out: what was collected, once it is over
abbrev pub handed_out : Before → Option (List Bool)
handed_out b = if b.is_over then b.numbers else None

-- and what is left then
abbrev pub left_before : Before → Before
left_before b = if b.is_over then record b { numbers = None } else b
