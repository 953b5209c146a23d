-- Those of the numbers so far are kept.
use Rattle.std.proofs.Common.{◌≤◌, length, take}
use Rattle.healing.specs.Cases.{recalled_in}
use Rattle.healing.specs.Healing.{case_in}
use Rattle.healing.proofs.OneMore.{AreKept}
use Rattle.healing.proofs.lists.still_recalled.Given as goal

abbrev pub invariant-loop-number : goal.invariant-loop-number
invariant-loop-number l = record {
  few : length l.kept.items ≤ l.number-index;
  all : AreKept (λ n. recalled_in (case_in l.cases.entries n)) (take l.number-index l.numbers.items) l.kept.items;
}
