-- Each member has its station, and nothing is in the logs.
use Rattle.std.proofs.Common.{◌≡◌, arith, length, vec_len}
use Rattle.world.proofs.Founding.{are_founded, founded, newly_reached}
use Rattle.world.proofs.world.World.new.Goals as goal

pub returns-clause-founds : goal.returns-clause-founds
returns-clause-founds g c =
    let len : vec_len c.args.members ≡ length c.args.members.items = c.args.members.ok.0 in
    let many : length c.args.members.items ≡ c.in-Some.count = omega (arith, len, c.len.ensures, c.in-Some.ensures.some.0) in
    let a = c.in-Ok.ensures in
    let is = c.in-Some.ensures.some.1 in
    ((omega (arith, len, c.len.ensures, is.0), omega (arith, len, c.len.ensures, is.1)), are_founded g.R.Rows.version c.args.circuit c.in-Some.count c.args.members.items _ many a.new a.count c.new.ensures.items c.new-2.ensures.items c.new-3.ensures.items)

pub returns-clause-fresh : goal.returns-clause-fresh
returns-clause-fresh g c =
    let len : vec_len c.args.members ≡ length c.args.members.items = c.args.members.ok.0 in
    let many : length c.args.members.items ≡ c.in-Some.count = omega (arith, len, c.len.ensures, c.in-Some.ensures.some.0) in
    let a = c.in-Ok.ensures in
    let f = are_founded g.R.Rows.version c.args.circuit c.in-Some.count c.args.members.items _ many a.new a.count c.new.ensures.items c.new-2.ensures.items c.new-3.ensures.items in
    founded g.R.Rows.is_open g.R.Rows.saved g.R.Rows.version c.args.circuit c.args.members.items _ f

pub returns-clause-reached : goal.returns-clause-reached
returns-clause-reached g c =
    let len : vec_len c.args.members ≡ length c.args.members.items = c.args.members.ok.0 in
    let many : length c.args.members.items ≡ c.in-Some.count = omega (arith, len, c.len.ensures, c.in-Some.ensures.some.0) in
    let a = c.in-Ok.ensures in
    let f = are_founded g.R.Rows.version c.args.circuit c.in-Some.count c.args.members.items _ many a.new a.count c.new.ensures.items c.new-2.ensures.items c.new-3.ensures.items in
    newly_reached g.R.Rows g.met.R.Rows.halves c.circuits_exist.ensures c.args.circuit c.args.members.items _ (omega (arith, len, c.len.ensures, c.in-Some.ensures.some.1.0)) f
