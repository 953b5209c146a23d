use Rattle.std.proofs.Common.{◌≡◌, ◌++◌, take}
use Rattle.rolls.specs.Spelling.{count_bytes}
use Rattle.rolls.proofs.writing.put_counts.Given as goal

abbrev pub invariant-loop-count : goal.invariant-loop-count
invariant-loop-count l = l.out.items ≡ l.initial.out.items ++ count_bytes (take l.count-index l.counts)
