use Rattle.std.proofs.Common.{rules, ◌≡◌, ap, sym}
use Rattle.std.specs.Map.{values_of}
use Rattle.looks.proofs.Taking.{all_from_start, rising_values}
use Rattle.looks.proofs.requests.Requests.in_order.Goals as goal

pub returns-clause-order : goal.returns-clause-order
returns-clause-order c =
    let found = c.self.inside.found.entries in
    let all : c.loop-file.requests.items ≡ values_of found = search rules in
    rw all (rising_values 0 found c.len.ensures.ordered (all_from_start found) c.self.invariant)
