-- A packet that came.
use Rattle.protocol.specs.Turn.{Arrived}
use Rattle.protocol.specs.Refusals.{Receiving}
use Rattle.station.specs.Stations.{sight}
use Rattle.station.proofs.Asking.{received, refused_early}
use Rattle.station.proofs.Calling.{from_found, stays, refused, steady, took}
use Rattle.station.proofs.station.Station.receive.Goals as goal

pub returns-then-self : goal.returns-then-self
returns-then-self g c = stays g.R.Rows (Receiving c.args.bytes.now c.args.now) c.args.self.now c.if-self.true

pub returns-in_err-packet : goal.returns-in_err-packet
returns-in_err-packet g c =
    let mid = c.follow_rows.new.self in
    let call = Receiving c.args.bytes.now c.args.now in
    from_found g.R.Rows call c.args.self.now mid mid c.from_residual.result c.if-self.false c.follow_rows.ensures.same c.follow_rows.ensures.follows
    (λ goes. refused g.R.Rows call mid c.from_residual.result _ c.from_residual.ensures (steady _ _ c.in_err-packet.ensures.checks)
    (λ marks stands. refused_early (sight g.R.Rows) call mid marks _ goes c.in_err-packet.ensures.checks))

pub returns : goal.returns
returns g c =
    let mid = c.follow_rows.new.self in
    let call = Receiving c.args.bytes.now c.args.now in
    let t = c.run_turn.ensures in
    from_found g.R.Rows call c.args.self.now mid c.run_turn.new.self c.run_turn.result c.if-self.false c.follow_rows.ensures.same c.follow_rows.ensures.follows
    (λ goes. took g.R.Rows call mid (Arrived c.in_ok-packet.packet c.args.now) c.run_turn.new.self c.run_turn.result
    (λ marks stands. received mid marks c.args.bytes.now c.args.now c.in_ok-packet.packet goes c.in_ok-packet.ensures.checks.0 c.in_ok-packet.ensures.checks.1)
    t.ends t.late t.rows.was_kept t.rows.made t.few t.numbered t.cause t.blames t.rows.version t.wire t.stops)
