-- Nothing is put beside what was known yet.
use Rattle.std.proofs.Common.{arith, rules}
use Rattle.looks.proofs.Steps.{all_known, looked_in_order}
use Rattle.looks.proofs.merging.Merging.begin.Goals as goal

pub invariant_of-result : goal.invariant_of-result
invariant_of-result c = record {
  within = search rules;
  order = c.requires;
  names = c.len.ensures.ordered;
  same = all_known c.args.known.items c.args.found.entries;
  whole = rw c.in-Ok.ensures.items (looked_in_order c.args.known.items c.args.now c.args.found.entries c.len.ensures.ordered);
  room = omega (arith, c.in-Ok.ensures.len, c.len.ensures.len, c.in-Ok.ensures.capacity);
}
