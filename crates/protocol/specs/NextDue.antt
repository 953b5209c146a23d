-- The number that is due next, in the words by which it is computed.
use Rattle.std.specs.Prelude.{◌≡◌, ◌≤◌, ℕ, List, Option, Some, None, Bool, true, false}
use Rattle.protocol.specs.Marks.{Mark}
use Rattle.protocol.specs.Proposals.{is_due_number, next_due}

-- the number is the least that passes; with no number, none passes
abbrev pub IsLeast : (ℕ → Bool) → Option ℕ → Type 0
IsLeast passes None = (n : ℕ) → passes n ≡ false
IsLeast passes (Some n) = (passes n ≡ true) × ((k : ℕ) → passes k ≡ true → n ≤ k)

-- it is the least number that is due
abbrev pub NextDueIsLeastNumber : Type 0
NextDueIsLeastNumber = (me now : ℕ) (marks : List Mark) → IsLeast (is_due_number me now marks) (next_due me now marks)
