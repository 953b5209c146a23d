-- The pages so far are counted.
use Rattle.std.proofs.Common.{◌≡◌, ◌<◌, ℕ, length}
use Rattle.std.specs.Prelude.{slice_index}
use Rattle.rolls.specs.Pages.{pages}
use Rattle.roll_call.specs.Held.{count_on}
use Rattle.roll_call.proofs.held.counts_of.Given as goal

abbrev pub invariant-loop-value : goal.invariant-loop-value
invariant-loop-value l = record { many : length l.counts ≡ pages; each : (page : ℕ) → page < l.value → slice_index l.counts page ≡ count_on l.votes page }
