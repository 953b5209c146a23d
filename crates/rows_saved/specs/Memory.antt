-- Rows in memory.
use Rattle.std.specs.Prelude.{◌≡◌, ◌≤◌, ◌==◌, ℕ, List, Result, OnOk, OnErr}
use Rattle.std.specs.Map.{lookup}
use Rattle.protocol.specs.Rows.{Row, blank}
use Rattle.protocol.specs.Versions.{Version}
use Rattle.rows_saved.specs.Saved.{Saved, SameRows, WithRow, Rises, or_blank}

-- rows in memory, as clauses see them: the rows by number, in any order; the version; and how many calls they refused
pub record MemoryOf : Type 0 where
  pub entries : List (ℕ × Row)
  pub version : Version
  pub refusals : ℕ

-- the map that a list of entries is
abbrev pub saved_among : List (ℕ × Row) → Saved
saved_among entries n = or_blank (lookup (◌==◌ n) entries)

-- the map that rows in memory are
abbrev pub saved : MemoryOf → Saved
saved s = saved_among s.entries

-- no row is saved at this version, and no call was refused
pub record IsEmpty (at : Version) (s : MemoryOf) : Type 0 where
  pub blank : (n : ℕ) → saved s n ≡ blank
  pub version : s.version ≡ at
  pub refusals : s.refusals ≡ 0

-- the row of one number was saved, or a refusal was counted and each number has the row that it had; the version stays
pub record Saves {T E : Type 0} (result : Result T E) (number : ℕ) (given : Row) (old new : MemoryOf) : Type 0 where
  pub row : OnOk result (WithRow (saved old) number given (saved new))
  pub same : OnErr result (SameRows (saved old) (saved new))
  pub version : new.version ≡ old.version
  pub cause : OnErr result (Rises old.refusals new.refusals)
  pub counts : old.refusals ≤ new.refusals
