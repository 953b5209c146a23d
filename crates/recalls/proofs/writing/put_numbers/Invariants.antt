use Rattle.std.proofs.Common.{◌≡◌, ◌++◌, take}
use Rattle.recalls.specs.Spelling.{number_bytes}
use Rattle.recalls.proofs.writing.put_numbers.Given as goal

abbrev pub invariant-loop-number : goal.invariant-loop-number
invariant-loop-number l = l.out.items ≡ l.initial.out.items ++ number_bytes (take l.number-index l.numbers)
