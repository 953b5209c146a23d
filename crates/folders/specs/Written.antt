-- A file.
use Rattle.std.specs.Prelude.{ℕ, List}

-- a file: its name, and what it holds
pub record File : Type 0 where
  pub name : List ℕ
  pub bytes : List ℕ
