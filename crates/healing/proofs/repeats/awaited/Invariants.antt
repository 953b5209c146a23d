-- Of the numbers so far those are kept that are asked for once more, rising.
use Rattle.std.proofs.Common.{◌≡◌, ◌≤◌, true, length, take}
use Rattle.healing.specs.Cases.{awaited_in}
use Rattle.healing.specs.Lists.{Rise}
use Rattle.healing.specs.Healing.{case_in}
use Rattle.healing.proofs.OneMore.{Ends}
use Rattle.healing.proofs.Repeating.{Counts, HasAll, HasOnly, IsFloor}
use Rattle.healing.proofs.repeats.awaited.Given as goal

abbrev pub invariant-loop-number : goal.invariant-loop-number
invariant-loop-number l = record {
  few : length l.rising.items ≤ l.number-index;
  rise : Rise 0 l.rising.items;
  ends : Ends 0 l.rising.items l.above;
  floor : IsFloor l.above l.numbers l.number-index;
  all : HasAll (Counts l.cases.entries l.now) (take l.number-index l.numbers) l.rising.items;
  only : HasOnly (λ n. awaited_in (case_in l.cases.entries n) l.now ≡ true) l.rising.items;
}
