-- A number that is withdrawn.
use Rattle.std.proofs.Common.{refl}
use Rattle.protocol.specs.Entries.{Void}
use Rattle.protocol.specs.Turn.{Offered}
use Rattle.protocol.specs.Refusals.{Offering}
use Rattle.station.specs.Stations.{sight}
use Rattle.station.proofs.Asking.{offered, offer_free_at, refused_early}
use Rattle.station.proofs.Calling.{from_found, stays, refused, took}
use Rattle.station.proofs.station.Station.withdraw.Goals as goal

pub run_turn-requires-clause-free : goal.run_turn-requires-clause-free
run_turn-requires-clause-free g c = λ marks stands.
    let mid = c.follow_rows.new.self in
    offer_free_at mid.speaker.wire c.args.number c.in_ok-number.number marks Void c.in_ok-number.ensures.asked.value (c.in_ok-number.ensures.asked.checks marks stands)

pub returns-then-self : goal.returns-then-self
returns-then-self g c = stays g.R.Rows (Offering c.args.number Void c.args.now) c.args.self.now c.if-self.true

pub returns-in_err-number : goal.returns-in_err-number
returns-in_err-number g c =
    let mid = c.follow_rows.new.self in
    let call = Offering c.args.number Void c.args.now in
    from_found g.R.Rows call c.args.self.now mid mid _ c.if-self.false c.follow_rows.ensures.same c.follow_rows.ensures.follows
    (λ goes. refused g.R.Rows call mid c.from_residual.result _ c.from_residual.ensures c.in_err-number.ensures.asked.goes_on
    (λ marks stands. refused_early (sight g.R.Rows) call mid marks _ goes (c.in_err-number.ensures.asked.checks marks stands)))

pub returns : goal.returns
returns g c =
    let mid = c.follow_rows.new.self in
    let call = Offering c.args.number Void c.args.now in
    let t = c.run_turn.ensures in
    from_found g.R.Rows call c.args.self.now mid c.run_turn.new.self c.run_turn.result c.if-self.false c.follow_rows.ensures.same c.follow_rows.ensures.follows
    (λ goes. took g.R.Rows call mid (Offered c.in_ok-number.number Void c.args.now) c.run_turn.new.self c.run_turn.result
    (λ marks stands. offered mid marks c.args.number c.in_ok-number.number Void Void c.args.now goes (c.in_ok-number.ensures.asked.checks marks stands) refl c.in_ok-number.ensures.asked.value refl)
    t.ends t.late t.rows.was_kept t.rows.made t.few t.numbered t.cause t.blames t.rows.version t.wire t.stops)
