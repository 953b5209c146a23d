-- The least number that is due.
use Rattle.std.proofs.Common.{◌∙◌}
use Rattle.protocol.specs.Turn.{Came_due}
use Rattle.protocol.specs.Refusals.{Falling_due}
use Rattle.station.specs.Stations.{sight}
use Rattle.station.proofs.Asking.{came_due, idled, due_at}
use Rattle.station.proofs.Calling.{from_found, stays, idle, took}
use Rattle.station.proofs.station.Station.due.Goals as goal

pub returns-then-self : goal.returns-then-self
returns-then-self g c = stays g.R.Rows (Falling_due c.args.now) c.args.self.now c.if-self.true

pub returns-in-None : goal.returns-in-None
returns-in-None g c =
    let mid = c.follow_rows.new.self in
    let call = Falling_due c.args.now in
    from_found g.R.Rows call c.args.self.now mid mid _ c.if-self.false c.follow_rows.ensures.same c.follow_rows.ensures.follows
    (λ goes. idle g.R.Rows call mid c.idle.result c.idle.ensures.out c.idle.ensures.release (λ marks stands.
    idled (sight g.R.Rows) mid marks c.args.now c.idle.result goes
    (due_at mid marks c.args.now c.core.result.now c.next_due.result c.core.ensures (c.next_due.ensures.value marks) stands ∙ c.in-None.is)
    c.idle.ensures.out c.idle.ensures.release c.idle.ensures.note c.idle.ensures.number))

pub returns-in-Some : goal.returns-in-Some
returns-in-Some g c =
    let mid = c.follow_rows.new.self in
    let call = Falling_due c.args.now in
    let t = c.run_turn.ensures in
    from_found g.R.Rows call c.args.self.now mid c.run_turn.new.self c.run_turn.result c.if-self.false c.follow_rows.ensures.same c.follow_rows.ensures.follows
    (λ goes. took g.R.Rows call mid (Came_due c.in-Some.number c.args.now) c.run_turn.new.self c.run_turn.result
    (λ marks stands. came_due mid marks c.in-Some.number c.args.now goes
    (due_at mid marks c.args.now c.core.result.now c.next_due.result c.core.ensures (c.next_due.ensures.value marks) stands ∙ c.in-Some.is))
    t.ends t.late t.rows.was_kept t.rows.made t.few t.numbered t.cause t.blames t.rows.version t.wire t.stops)
