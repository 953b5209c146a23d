-- Each entry that is read is an address more, up to the first fault.
use Rattle.std.proofs.Common.{◌≡◌, length, rules, sym, arith}
use Rattle.configuration.proofs.Entries.{stops, goes_on, ends}
use Rattle.configuration.proofs.stations.read_entries.Goals as goal

pub returns-in_err-address-clause-err : goal.returns-in_err-address-clause-err
returns-in_err-address-clause-err c =
    let l = c.loop-index in
    let items = c.deref-value-items.ensures.value in
    let many : c.len-members.result ≡ length c.args.entries.now.items = omega (arith, c.len-members.ensures, c.args.entries.now.ok) in
    let read = rw (many, c.deref.ensures.value, c.found_at.ensures, c.value-item.is, items) at (sym c.in_err-address.ensures) in
    let answer = stops c.args.found.now c.args.entries.now.items l.addresses.items l.index l.invariant c.value-item.result (rw items at c.loop-index-test.true) c.in_err-address.field-0.0 read in
    search (rules, answer)

pub loop-index-preserved : goal.loop-index-preserved
loop-index-preserved c =
    let l = c.loop-index in
    let items = c.deref-value-items.ensures.value in
    let many : c.len-members.result ≡ length c.args.entries.now.items = omega (arith, c.len-members.ensures, c.args.entries.now.ok) in
    let read = rw (many, c.deref.ensures.value, c.found_at.ensures, c.value-item.is, items) at (sym c.in_ok-address.ensures) in
    rw c.in_ok-push.ensures.items (goes_on c.args.found.now c.args.entries.now.items l.addresses.items l.index l.invariant c.value-item.result (rw items at c.loop-index-test.true) c.in_ok-address.address read)

pub returns-clause-ok : goal.returns-clause-ok
returns-clause-ok c = ends c.args.found.now c.args.entries.now.items c.loop-index.addresses.items c.loop-index.index c.loop-index.invariant (omega arith)
