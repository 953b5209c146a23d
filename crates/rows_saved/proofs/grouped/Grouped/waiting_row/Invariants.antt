use Rattle.std.proofs.Common.{◌≡◌, ◌≤◌, None, drop, length}
use Rattle.rows_saved.specs.Groups.{last_of}
use Rattle.rows_saved.proofs.grouped.Grouped.waiting_row.Given as goal

-- below what was looked at nothing is known; none of the rest stands under the number
abbrev pub invariant-loop-below : goal.invariant-loop-below
invariant-loop-below g l = (l.below ≤ length l.self.waits) × (last_of (drop l.below l.self.waits) l.number ≡ None)

abbrev pub decreases-loop-below : goal.decreases-loop-below
decreases-loop-below g l = l.below
