-- Numbers that go out are noted beside the file.
use Rattle.std.specs.Prelude.{◌≡◌, ◌↔◌, ◌⊎◌, ℕ, IsTrue, List, Result, OnOk}
use Rattle.std.specs.declared.alloc.AllocError.{AllocError}
use Rattle.gone_out.specs.declared.origin.Origin.{Origin}
use Rattle.gone_out.specs.Laws.{IsAmong}
use Rattle.gone_out.specs.Numbers.{has}
use Rattle.folders.specs.declared.ledger.Ledger.{Ledger}
use Rattle.folders.specs.GoneOut.{IsFileBut}

-- a file that was good, except for the numbers that wait, is so still
abbrev pub KeepsFile : Ledger → Ledger → Type 0
KeepsFile old new =
    (o : Origin) (bytes : List ℕ) → IsFileBut o old.numbers old.waiting.items bytes → IsFileBut o new.numbers new.waiting.items bytes

-- one number more went out
pub record IsNoted (old new : Ledger) (number : ℕ) (result : Result (Unit {0}) AllocError) : Type 0 where
  pub known : OnOk result ((n : ℕ) → IsTrue (has new.numbers n) ↔ (IsTrue (has old.numbers n) ⊎ (n ≡ number)))
  pub kept : KeepsFile old new

-- these numbers went out; where memory is refused, the first of them
pub record AreNoted (old new : Ledger) (numbers : List ℕ) (result : Result (Unit {0}) AllocError) : Type 0 where
  pub known : OnOk result ((n : ℕ) → IsTrue (has new.numbers n) ↔ (IsTrue (has old.numbers n) ⊎ IsAmong numbers n))
  pub kept : KeepsFile old new
