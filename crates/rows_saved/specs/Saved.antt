-- Saved rows: a map from numbers to rows, blank where none is saved, with a version and a count of refusals.
use Rattle.std.specs.Prelude.{◌≡◌, ◌⊎◌, ◌<◌, ◌≤◌, ◌-◌, ◌^◌, ◌==◌, ℕ, if◌then◌else◌, List, [], ◌∷◌, Option, Some, None, IsSome}
use Rattle.std.specs.List.{AllByRecursion}
use Rattle.protocol.specs.Rows.{Row, blank}
use Rattle.protocol.specs.Versions.{Version}
use Rattle.protocol.specs.Fitting.{VoteFits}

-- the row of each number
abbrev pub Saved : Type 0
Saved = ℕ → Row

-- the map with this row under a number
abbrev pub with_row : Saved → ℕ → Row → Saved
with_row saved number row n = if n == number then row else saved n

-- each number has the row that it had
abbrev pub SameRows : Saved → Saved → Type 0
SameRows old new = (n : ℕ) → new n ≡ old n

-- one number has this row now, and each other the row that it had
abbrev pub WithRow : Saved → ℕ → Row → Saved → Type 0
WithRow old number row new = (n : ℕ) → new n ≡ with_row old number row n

-- no row is changed, or this one alone
abbrev pub IsEither : Saved → ℕ → Row → Saved → Type 0
IsEither old number row new = SameRows old new ⊎ WithRow old number row new

-- the row that is there, or the blank one
abbrev pub or_blank : Option Row → Row
or_blank None = blank
or_blank (Some row) = row

-- the count is greater now, or stood at its greatest value
abbrev pub Rises : ℕ → ℕ → Type 0
Rises old new = (old < new) ⊎ (2 ^ 64 - 1 ≤ old)

-- the acceptor has promised a ballot
abbrev pub HasPromise : Row → Type 0
HasPromise row = IsSome row.promised

-- the version has a row for it: there is no vote, or the version has one for the vote's entry
abbrev pub RowFits : Version → Row → Type 0
RowFits v row = VoteFits v row.vote

-- the version has one for the row of each number
abbrev pub AllFit : Version → Saved → Type 0
AllFit v saved = (n : ℕ) → RowFits v (saved n)

-- the version has one for each row of a list
abbrev pub AreFitting : Version → List (ℕ × Row) → Type 0
AreFitting v items = AllByRecursion (λ p. RowFits v p.1) items

-- the map that a list of numbers and rows is: the first row under a number
abbrev pub saved_by : List (ℕ × Row) → Saved
saved_by [] n = blank
saved_by (p ∷ ps) n = if n == p.0 then p.1 else saved_by ps n

-- each number is above the one before
abbrev pub RiseFrom : ℕ → List (ℕ × Row) → Type 0
RiseFrom low [] = Unit {0}
RiseFrom low (p ∷ ps) = (low < p.0) × RiseFrom p.0 ps

-- the list is the map: its numbers rise, each stands for a row with a promise, and every other is blank
pub record IsListOf (saved : Saved) (items : List (ℕ × Row)) : Type 0 where
  pub rise : RiseFrom 0 items
  pub promised : AllByRecursion (λ p. HasPromise p.1) items
  pub same : SameRows saved (saved_by items)
