-- What is found for one entry more.
use Rattle.std.proofs.Common.{arith}
use Rattle.configuration.proofs.Found.{none_yet, one_more, all_found}
use Rattle.configuration.proofs.hosts.hosts_of.Goals as goal

pub loop-index-init : goal.loop-index-init
loop-index-init g c = none_yet (g.H.Hosts.finds c.args.hosts.now) c.args.entries.now.items c.in_ok-found.found.items c.in_ok-found.ensures.items

pub loop-index-preserved : goal.loop-index-preserved
loop-index-preserved g c =
    let l = c.loop-index in
    let items = c.deref-entry-items.ensures.value in
    let new = rw (c.entry-item.is, items) at c.find_host.ensures in
    rw c.in_ok-push.ensures.items (one_more (g.H.Hosts.finds c.args.hosts.now) c.args.entries.now.items l.found.items l.index l.invariant c.entry-item.result c.find_host.result (rw items at c.loop-index-test.true) new)

pub returns : goal.returns
returns g c = all_found (g.H.Hosts.finds c.args.hosts.now) c.args.entries.now.items c.loop-index.found.items c.loop-index.index c.loop-index.invariant (omega arith)
