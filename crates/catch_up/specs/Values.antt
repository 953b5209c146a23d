-- Circuit numbers in a row.
use Rattle.std.specs.Prelude.{ℕ, List, ◌==◌, not, All, filter}
use Rattle.gone_out.specs.Files.{IsNumber}

-- each is a circuit number
abbrev pub AreNumbers : List ℕ → Type 0
AreNumbers numbers = All IsNumber numbers

-- these numbers, except this one
abbrev pub without : ℕ → List ℕ → List ℕ
without number numbers = filter (λ each. not (each == number)) numbers
