-- Each member that is read is a matrix more, up to the first fault.
use Rattle.std.proofs.Common.{rules, ◌≡◌, [], length, sym, arith}
use Rattle.widths.proofs.Matrices.{goes_on, stops, ends, ascends}
use Rattle.widths.proofs.matrix.read_matrix.Goals as goal

pub loop-name-preserved : goal.loop-name-preserved
loop-name-preserved c =
    let l = c.loop-name in
    let so_far = rw c.in-Some.ensures.steps at l.invariant in
    let count : c.len-in-loop-name.result ≡ length l.entries.items = omega (arith, c.len-in-loop-name.ensures, l.entries.ok) in
    let read = rw (count, c.as_str.ensures.value) at (sym c.in_ok-entry.ensures.value) in
    let named = rw c.as_str.ensures.value at c.in_ok-entry.ensures.name in
    rw c.in_ok-push.ensures.items (goes_on c.args.table.now.entries l.entries.items c.in-Some.name.now c.in-Some.value.now c.next.new.self so_far c.in_ok-entry.entry read named c.in_ok-entry.ensures.range)

pub returns-in_err-entry-clause-err : goal.returns-in_err-entry-clause-err
returns-in_err-entry-clause-err c =
    let l = c.loop-name in
    let so_far = rw c.in-Some.ensures.steps at l.invariant in
    let count : c.len-in-loop-name.result ≡ length l.entries.items = omega (arith, c.len-in-loop-name.ensures, l.entries.ok) in
    let read = rw (count, c.as_str.ensures.value) at (sym c.in_err-entry.ensures.value) in
    let answer = stops c.args.table.now.entries l.entries.items c.in-Some.name.now c.in-Some.value.now c.next.new.self so_far c.in_err-entry.field-0.0 c.iter-name-items.ensures.ordered read in
    search (rules, answer)

pub returns-clause-ok : goal.returns-clause-ok
returns-clause-ok c =
    let none : c.loop-name.name-iterator ≡ [] = search (rules, c.in-None.ensures.steps) in
    ends c.args.table.now.entries c.loop-name.entries.items c.iter-name-items.ensures.ordered (rw none at c.loop-name.invariant)

pub returns-clause-names : goal.returns-clause-names
returns-clause-names c =
    let none : c.loop-name.name-iterator ≡ [] = search (rules, c.in-None.ensures.steps) in
    ascends c.args.table.now.entries c.loop-name.entries.items c.iter-name-items.ensures.ordered (rw none at c.loop-name.invariant)
