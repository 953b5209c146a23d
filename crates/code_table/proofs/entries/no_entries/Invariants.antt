use Rattle.std.proofs.Common.{◌≡◌, replicate, None}
use Rattle.code_table.proofs.entries.no_entries.Given as goal

abbrev pub invariant-loop : goal.invariant-loop
invariant-loop l = l.places.items ≡ replicate l.counter None
