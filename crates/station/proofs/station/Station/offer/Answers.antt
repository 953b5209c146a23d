-- A tape that is offered.
use Rattle.std.proofs.Common.{ap, refl}
use Rattle.protocol.specs.Entries.{Taped}
use Rattle.protocol.specs.Turn.{Offered}
use Rattle.protocol.specs.Refusals.{Offering}
use Rattle.station.specs.Stations.{sight, unless_faulty}
use Rattle.station.proofs.Asking.{offered, offered_early, offer_free_at, offer_stirs, torn_early, refused_early, refused_faulty, offer_of, refusal_of}
use Rattle.station.proofs.Calling.{from_found, stays, refused, refused_at, wanted, took}
use Rattle.station.proofs.station.Station.offer.Goals as goal

pub run_turn-requires-clause-free : goal.run_turn-requires-clause-free
run_turn-requires-clause-free g c = λ marks stands.
    let mid = c.follow_rows.new.self in
    offer_free_at mid.speaker.wire c.args.number c.in_ok-number.number marks (Taped c.args.tape.now) c.in_ok-number.ensures.asked.value
    (offer_of mid marks c.args.number c.args.now _ _ c.lend.ensures (c.in_ok-number.ensures.asked.checks marks stands))

pub returns-then-self : goal.returns-then-self
returns-then-self g c = stays g.R.Rows (Offering c.args.number (Taped c.args.tape.now) c.args.now) c.args.self.now c.if-self.true

pub returns-in_err-number : goal.returns-in_err-number
returns-in_err-number g c =
    let mid = c.follow_rows.new.self in
    let call = Offering c.args.number (Taped c.args.tape.now) c.args.now in
    from_found g.R.Rows call c.args.self.now mid mid c.from_residual.result c.if-self.false c.follow_rows.ensures.same c.follow_rows.ensures.follows
    (λ goes. refused g.R.Rows call mid c.from_residual.result _ c.from_residual.ensures c.in_err-number.ensures.asked.goes_on
    (λ marks stands. refused_early (sight g.R.Rows) call mid marks _ goes (refusal_of mid marks c.args.number c.args.now _ _ _ c.lend.ensures (c.in_err-number.ensures.asked.checks marks stands))))

pub returns-in-Ok-Err : goal.returns-in-Ok-Err
returns-in-Ok-Err g c =
    let mid = c.follow_rows.new.self in
    let call = Offering c.args.number (Taped c.args.tape.now) c.args.now in
    from_found g.R.Rows call c.args.self.now mid mid _ c.if-self.false c.follow_rows.ensures.same c.follow_rows.ensures.follows
    (λ goes. refused_at g.R.Rows call mid _ refl
    (λ marks stands. refused_faulty (sight g.R.Rows) mid marks c.args.number c.args.tape.now c.args.now c.in-Ok-Err.fault goes
    (offer_of mid marks c.args.number c.args.now _ _ c.lend.ensures (c.in_ok-number.ensures.asked.checks marks stands)) (rw c.in-Ok-Err.field-0-is at c.in-Ok-Err.ensures)))

pub returns-in-Err : goal.returns-in-Err
returns-in-Err g c =
    let x = sight g.R.Rows in
    let mid = c.follow_rows.new.self in
    let entry = Taped c.args.tape.now in
    let call = Offering c.args.number entry c.args.now in
    from_found g.R.Rows call c.args.self.now mid c.stop.new.self _ c.if-self.false c.follow_rows.ensures.same c.follow_rows.ensures.follows
    (λ goes. wanted g.R.Rows call mid c.stop.new.self c.stop.result c.stop.ensures.same c.stop.ensures.halts.stopped c.stop.ensures.halts.wire
    (λ marks stands. torn_early x call (Offered c.args.number entry c.args.now) mid c.stop.new.self marks c.stop.result c.stop.ensures.same
    (offered_early mid marks c.args.number entry c.args.now goes (offer_of mid marks c.args.number c.args.now _ _ c.lend.ensures (c.in_ok-number.ensures.asked.checks marks stands)))
    (offer_stirs x mid marks c.args.number entry c.args.now) c.stop.ensures.halts.fixed c.stop.ensures.halts.stopped c.stop.ensures.halts.stands))

pub returns-in-Ok : goal.returns-in-Ok
returns-in-Ok g c =
    let mid = c.follow_rows.new.self in
    let entry = Taped c.args.tape.now in
    let call = Offering c.args.number entry c.args.now in
    let t = c.run_turn.ensures in
    from_found g.R.Rows call c.args.self.now mid c.run_turn.new.self c.run_turn.result c.if-self.false c.follow_rows.ensures.same c.follow_rows.ensures.follows
    (λ goes. took g.R.Rows call mid (Offered c.in_ok-number.number (Taped c.in-Ok.tape) c.args.now) c.run_turn.new.self c.run_turn.result
    (λ marks stands. offered mid marks c.args.number c.in_ok-number.number entry (Taped c.in-Ok.tape) c.args.now goes
    (offer_of mid marks c.args.number c.args.now _ _ c.lend.ensures (c.in_ok-number.ensures.asked.checks marks stands))
    (ap unless_faulty (rw c.in-Ok-Ok.field-0-is at c.in-Ok-Ok.ensures).0) c.in_ok-number.ensures.asked.value (ap Taped c.in-Ok.ensures))
    t.ends t.late t.rows.was_kept t.rows.made t.few t.numbered t.cause t.blames t.rows.version t.wire t.stops)

pub returns-in-Err-copy : goal.returns-in-Err-copy
returns-in-Err-copy g c =
    let x = sight g.R.Rows in
    let mid = c.follow_rows.new.self in
    let entry = Taped c.args.tape.now in
    let call = Offering c.args.number entry c.args.now in
    let stop = c.stop-in-Err-copy in
    from_found g.R.Rows call c.args.self.now mid stop.new.self _ c.if-self.false c.follow_rows.ensures.same c.follow_rows.ensures.follows
    (λ goes. wanted g.R.Rows call mid stop.new.self stop.result stop.ensures.same stop.ensures.halts.stopped stop.ensures.halts.wire
    (λ marks stands. torn_early x call (Offered c.args.number entry c.args.now) mid stop.new.self marks stop.result stop.ensures.same
    (offered_early mid marks c.args.number entry c.args.now goes (offer_of mid marks c.args.number c.args.now _ _ c.lend.ensures (c.in_ok-number.ensures.asked.checks marks stands)))
    (offer_stirs x mid marks c.args.number entry c.args.now) stop.ensures.halts.fixed stop.ensures.halts.stopped stop.ensures.halts.stands))
