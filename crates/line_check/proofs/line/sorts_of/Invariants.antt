use Rattle.std.proofs.Common.{◌≡◌, ◌++◌, drop}
use Rattle.line_check.specs.Spreading.{sorts_of}
use Rattle.line_check.proofs.line.sorts_of.Given as goal

abbrev pub invariant-loop-item : goal.invariant-loop-item
invariant-loop-item l = l.sorts.items ++ sorts_of l.width l.wider (drop l.item-index l.items) ≡ sorts_of l.width l.fn.wider l.items
