-- A number that is sought.
use Rattle.protocol.specs.Turn.{Sought}
use Rattle.protocol.specs.Refusals.{Seeking}
use Rattle.station.specs.Stations.{sight}
use Rattle.station.proofs.Asking.{sought, free_at, refused_early}
use Rattle.station.proofs.Calling.{from_found, stays, refused, took}
use Rattle.station.proofs.station.Station.seek.Goals as goal

pub run_turn-requires-clause-free : goal.run_turn-requires-clause-free
run_turn-requires-clause-free g c = λ marks stands. free_at c.args.number c.in_ok-number.number marks c.in_ok-number.ensures.value (c.in_ok-number.ensures.checks marks stands)

pub returns-then-self : goal.returns-then-self
returns-then-self g c = stays g.R.Rows (Seeking c.args.number c.args.now) c.args.self.now c.if-self.true

pub returns-in_err-number : goal.returns-in_err-number
returns-in_err-number g c =
    let mid = c.follow_rows.new.self in
    let call = Seeking c.args.number c.args.now in
    from_found g.R.Rows call c.args.self.now mid mid _ c.if-self.false c.follow_rows.ensures.same c.follow_rows.ensures.follows
    (λ goes. refused g.R.Rows call mid c.from_residual.result _ c.from_residual.ensures c.in_err-number.ensures.goes_on
    (λ marks stands. refused_early (sight g.R.Rows) call mid marks _ goes (c.in_err-number.ensures.checks marks stands)))

pub returns : goal.returns
returns g c =
    let mid = c.follow_rows.new.self in
    let call = Seeking c.args.number c.args.now in
    let t = c.run_turn.ensures in
    from_found g.R.Rows call c.args.self.now mid c.run_turn.new.self c.run_turn.result c.if-self.false c.follow_rows.ensures.same c.follow_rows.ensures.follows
    (λ goes. took g.R.Rows call mid (Sought c.in_ok-number.number c.args.now) c.run_turn.new.self c.run_turn.result
    (λ marks stands. sought mid marks c.args.number c.in_ok-number.number c.args.now goes (c.in_ok-number.ensures.checks marks stands) c.in_ok-number.ensures.value)
    t.ends t.late t.rows.was_kept t.rows.made t.few t.numbered t.cause t.blames t.rows.version t.wire t.stops)
