-- Which refusals show that another station has another configuration, and when that is told again.
use Rattle.std.specs.Prelude.{ℕ, ◌+◌, Bool, true, false, Option, Some, None, nat_le, if◌then◌else◌}
use Rattle.refusals.specs.declared.refusal.StepRefusal.{StepRefusal}
use Rattle.refusals.specs.declared.refusal.StepRefusal.TheVariants as steps
use Rattle.plant_log.specs.declared.differences.Differences.{Differences}

-- what was told at this moment, if it was, is told again: a second later
abbrev pub is_time : Option ℕ → ℕ → Bool
is_time None now = true
is_time (Some told) now = nat_le (told + 1000) now

-- when it was told last from then on
abbrev pub told_at : Option ℕ → ℕ → Option ℕ
told_at told now = if is_time told now then Some now else told

-- nothing was told
abbrev pub no_differences : Differences
no_differences = record { circuit = None; member = None; sender = None }

-- a refusal is told where the other speaks for another circuit, or to another member, or as one that is no other member of this circuit
abbrev pub differ_told : Differences → StepRefusal → ℕ → Bool
differ_told d steps.WrongCircuit now = is_time d.circuit now
differ_told d steps.NotForMe now = is_time d.member now
differ_told d steps.Stranger now = is_time d.sender now
differ_told d refusal now = false

-- when each was told last from then on
abbrev pub differ_after : Differences → StepRefusal → ℕ → Differences
differ_after d steps.WrongCircuit now = record d { circuit = told_at d.circuit now }
differ_after d steps.NotForMe now = record d { member = told_at d.member now }
differ_after d steps.Stranger now = record d { sender = told_at d.sender now }
differ_after d refusal now = d
