-- None of the numbers so far is to be sought.
use Rattle.std.proofs.Common.{◌≤◌, take}
use Rattle.protocol.specs.Limits.{last_number}
use Rattle.healing.specs.Cases.{ripe_in}
use Rattle.healing.specs.Healing.{case_in}
use Rattle.healing.proofs.OneMore.{AreNot}
use Rattle.healing.proofs.ripe.first_ripe.Given as goal

abbrev pub invariant-loop-number : goal.invariant-loop-number
invariant-loop-number l = AreNot (λ n. (1 ≤ n) × (n ≤ last_number)) (λ n. ripe_in (case_in l.cases.entries n) l.now) (take l.number-index l.numbers)
