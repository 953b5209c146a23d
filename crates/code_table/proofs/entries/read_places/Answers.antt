-- Each entry that is read takes its place, up to the first fault.
use Rattle.std.proofs.Common.{rules, sym, arith}
use Rattle.code_table.proofs.Filling.{starts, stops, goes_on, ends, full, alike}
use Rattle.code_table.proofs.entries.read_places.Goals as goal

pub loop-index-init : goal.loop-index-init
loop-index-init c = rw c.in_ok-places.ensures (starts c.args.codes.now.items)

pub returns-in_err-frame-clause-err : goal.returns-in_err-frame-clause-err
returns-in_err-frame-clause-err c =
    let l = c.loop-index in
    let items = c.deref-code-items.ensures.value in
    let read = rw (c.deref.ensures.value, c.code-item.is, items) at (sym c.in_err-frame.ensures.value) in
    let answer = stops c.args.codes.now.items l.places.items l.index l.invariant c.code-item.result (rw items at c.loop-index-test.true) c.in_err-frame.field-0.0 read in
    search (rules, answer)

pub loop-index-preserved : goal.loop-index-preserved
loop-index-preserved c =
    let l = c.loop-index in
    let items = c.deref-code-items.ensures.value in
    let read = rw (c.deref.ensures.value, c.code-item.is, items) at (sym c.in_ok-frame.ensures.value) in
    let free = rw c.deref.ensures.value at c.in_ok-frame.ensures.free in
    rw c.from.ensures (goes_on c.args.codes.now.items l.places.items l.index l.invariant c.code-item.result (rw items at c.loop-index-test.true) c.in_ok-frame.frame c.in_ok-frame.entry read c.in_ok-frame.ensures.small free c.in_ok-frame.ensures.fit)

pub returns-clause-ok : goal.returns-clause-ok
returns-clause-ok c = ends c.args.codes.now.items c.loop-index.places.items c.loop-index.index c.loop-index.invariant (omega arith)

pub returns-clause-full : goal.returns-clause-full
returns-clause-full c = full c.args.codes.now.items c.loop-index.places.items c.loop-index.index c.loop-index.invariant

pub returns-clause-alike : goal.returns-clause-alike
returns-clause-alike c = alike c.args.codes.now.items c.loop-index.places.items c.loop-index.index c.loop-index.invariant
