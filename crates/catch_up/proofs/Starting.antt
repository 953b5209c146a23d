-- The numbers that are known at the start, so far.
use Rattle.std.proofs.Common.{◌≡◌, ◌≤◌, ◌<◌, ℕ, Bool, List, None}
use Rattle.gone_out.specs.declared.known.Known.{Known}
use Rattle.healing.specs.Healing.{HealingValue, case_at}
use Rattle.catch_up.specs.Starting.{first_case}

-- the numbers up to one are as at the start
abbrev pub AreFirstUpTo : ℕ → Known → List Bool → ℕ → ℕ → HealingValue → Type 0
AreFirstUpTo own known gone now last h = (n : ℕ) → 1 ≤ n → n ≤ last → case_at h n ≡ first_case own known gone now n

-- and none above it is known
abbrev pub NoneAbove : ℕ → HealingValue → Type 0
NoneAbove last h = (n : ℕ) → last < n → case_at h n ≡ None
