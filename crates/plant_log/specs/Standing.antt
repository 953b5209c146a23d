-- Faults that go on, and when they are told again.
use Rattle.std.specs.Prelude.{◌≡◌, ◌+◌, ◌≤◌, ◌⊎◌, ℕ, Option, Some, None}
use Rattle.folders.specs.declared.fault.FolderFault.{FolderFault}
use Rattle.plant_log.specs.declared.standing.Standing.{Standing}

-- a fault is told where nothing was told before, where another was, or where an hour has passed since
abbrev pub IsToldAnew : Option Standing → FolderFault → ℕ → Type 0
IsToldAnew None fault now = Unit {0}
IsToldAnew (Some last) fault now = (¬ (last.fault ≡ fault)) ⊎ (last.at + 3_600_000 ≤ now)

-- what was told last from then on: this now, or what it was
abbrev pub StandsAfter : Option Standing → FolderFault → ℕ → Standing → Type 0
StandsAfter last fault now after =
    (IsToldAnew last fault now → after ≡ record { fault = fault; at = now }) × (¬ IsToldAnew last fault now → Some after ≡ last)

-- and that is kept in mind
abbrev pub Stands : Option Standing → FolderFault → ℕ → Option Standing → Type 0
Stands last fault now after = (s : Standing) × (after ≡ Some s) × StandsAfter last fault now s
