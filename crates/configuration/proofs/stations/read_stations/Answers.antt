-- The addresses that were read, in order of their members.
use Rattle.std.proofs.Common.{rules, arith}
use Rattle.toml.specs.View.{array_view}
use Rattle.configuration.proofs.Entries.{counted}
use Rattle.configuration.proofs.Order.{stations_are, stations_from, stations_stop}
use Rattle.configuration.proofs.stations.read_stations.Goals as goal

pub returns-in_err-addresses-clause-err : goal.returns-in_err-addresses-clause-err
returns-in_err-addresses-clause-err c = search (rules, stations_stop c.args.found.now (array_view c.args.entries.now) c.in_err-addresses.field-0.0)

pub returns-clause-ok : goal.returns-clause-ok
returns-clause-ok c = rw (c.in_ok-stations.ensures, c.deref.ensures.value) (stations_from c.args.found.now (array_view c.args.entries.now) c.in_ok-addresses.addresses.items c.in_ok-addresses.ensures.ok)

pub returns-clause-order : goal.returns-clause-order
returns-clause-order c = (stations_are c.args.found.now (array_view c.args.entries.now) c.in_ok-stations.stations.items (returns-clause-ok c)).order

pub returns-clause-most : goal.returns-clause-most
returns-clause-most c =
    let most = (stations_are c.args.found.now (array_view c.args.entries.now) c.in_ok-stations.stations.items (returns-clause-ok c)).most in
    let many = counted c.args.entries.now.items in
    omega (arith, c.requires, c.args.entries.now.ok)
