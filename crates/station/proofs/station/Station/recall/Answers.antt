-- A vote that is told again.
use Rattle.protocol.specs.Turn.{Recalled}
use Rattle.protocol.specs.Refusals.{Recalling}
use Rattle.station.specs.Stations.{sight}
use Rattle.station.proofs.Asking.{recalled, refused_early}
use Rattle.station.proofs.Calling.{from_found, stays, refused, steady, took}
use Rattle.station.proofs.station.Station.recall.Goals as goal

pub returns-then-self : goal.returns-then-self
returns-then-self g c = stays g.R.Rows (Recalling c.args.number c.args.to) c.args.self.now c.if-self.true

pub returns-in_err-number : goal.returns-in_err-number
returns-in_err-number g c =
    let mid = c.follow_rows.new.self in
    let call = Recalling c.args.number c.args.to in
    from_found g.R.Rows call c.args.self.now mid mid _ c.if-self.false c.follow_rows.ensures.same c.follow_rows.ensures.follows
    (λ goes. refused g.R.Rows call mid c.from_residual.result _ c.from_residual.ensures (steady _ _ c.in_err-number.ensures.checks)
    (λ marks stands. refused_early (sight g.R.Rows) call mid marks _ goes c.in_err-number.ensures.checks))

pub returns : goal.returns
returns g c =
    let mid = c.follow_rows.new.self in
    let call = Recalling c.args.number c.args.to in
    let t = c.run_turn.ensures in
    from_found g.R.Rows call c.args.self.now mid c.run_turn.new.self c.run_turn.result c.if-self.false c.follow_rows.ensures.same c.follow_rows.ensures.follows
    (λ goes. took g.R.Rows call mid (Recalled c.in_ok-number.number c.in_ok-number.to) c.run_turn.new.self c.run_turn.result
    (λ marks stands. recalled mid marks c.args.number c.in_ok-number.number c.args.to c.in_ok-number.to goes
    c.in_ok-number.ensures.checks c.in_ok-number.ensures.number c.in_ok-number.ensures.to)
    t.ends t.late t.rows.was_kept t.rows.made t.few t.numbered t.cause t.blames t.rows.version t.wire t.stops)
