-- The row was saved, or the save was refused.
use Rattle.std.proofs.Common.{rules, refl, sym, ◌∙◌}
use Rattle.node_core.specs.Turns.{event_value}
use Rattle.station.specs.Stations.{sight}
use Rattle.station.proofs.Refused.{not_released, not_open}
use Rattle.station.proofs.Taking.{Taking, handed_on, stopped_at, wanted}
use Rattle.station.proofs.station.Station.run_turn.Goals as goal

pub returns-in-Ok-save-clause-ends : goal.returns-in-Ok-save-clause-ends
returns-in-Ok-save-clause-ends g c = λ kept marks stands.
    let l = c.in-Ok-handle.ensures.ok marks stands in
    handed_on (sight g.R.Rows) (event_value c.args.event) c.args.self.now marks c.get.new.self c.save.new.self.rows c.handle.new.self c.in-Ok-handle.turn c.in-Ok.row c.number-number.result
    (record {
      number = sym c.number-number.ensures;
      goes = c.requires.goes;
      read = search rules;
      is_open = search rules;
      is_row = search rules;
      taken = l.turn;
      is_turn = l.is_the_turn;
      gives = l.took.is_turn;
      quiet = c.in-Ok-handle.ensures.orderly.quiet;
      stands = l.took.stands;
      seat = c.handle.ensures.seat;
      version = c.get.ensures.version ∙ sym c.requires.wire;
    })
    c.save.new.self c.save.result c.in-Ok-save.answer c.in-Ok-save.is c.save.ensures.rest (c.save.ensures.saves kept)

pub returns-in-Ok-handle-clause-ends : goal.returns-in-Ok-handle-clause-ends
returns-in-Ok-handle-clause-ends g c = λ kept marks stands.
    let l = c.in-Ok-handle.ensures.ok marks stands in
    let here : g.R.Rows.kept c.save.new.self.rows = rw c.stop-in-Err-save.ensures.halts.stopped at kept in
    stopped_at (sight g.R.Rows) (event_value c.args.event) c.args.self.now marks c.get.new.self c.save.new.self.rows c.handle.new.self c.in-Ok-handle.turn c.in-Ok.row c.number-number.result
    (record {
      number = sym c.number-number.ensures;
      goes = c.requires.goes;
      read = search rules;
      is_open = search rules;
      is_row = search rules;
      taken = l.turn;
      is_turn = l.is_the_turn;
      gives = l.took.is_turn;
      quiet = c.in-Ok-handle.ensures.orderly.quiet;
      stands = l.took.stands;
      seat = c.handle.ensures.seat;
      version = c.get.ensures.version ∙ sym c.requires.wire;
    })
    c.save.new.self c.stop-in-Err-save.new.self c.save.result c.in-Err-save.refusal c.stop-in-Err-save.result c.in-Err-save.is c.save.ensures.rest
    c.stop-in-Err-save.ensures.halts.fixed c.stop-in-Err-save.ensures.halts.stopped c.stop-in-Err-save.ensures.same c.stop-in-Err-save.ensures.halts.stands (c.save.ensures.saves here)

pub returns-clause-ends : goal.returns-clause-ends
returns-clause-ends g c = λ kept marks stands.
    let x = sight g.R.Rows in
    let here : g.R.Rows.kept c.get.new.self = rw c.stop-in-Err-OutOfMemory.ensures.halts.stopped at kept in
    wanted x c.args.event c.args.self.now c.stop-in-Err-OutOfMemory.new.self marks c.get.new.self c.handle.new.self c.in-Ok.row c.number-number.result c.stop-in-Err-OutOfMemory.result
    c.stop-in-Err-OutOfMemory.ensures.same c.handle.ensures.seat c.stop-in-Err-OutOfMemory.ensures.halts.fixed c.stop-in-Err-OutOfMemory.ensures.halts.stopped c.stop-in-Err-OutOfMemory.ensures.halts.stands
    (search rules) (sym c.number-number.ensures) (search rules) (c.in-Err-OutOfMemory.ensures.memory c.in-Err-OutOfMemory.field-0-is marks stands)

pub returns-in-Err-AlreadyReleased-clause-late : goal.returns-in-Err-AlreadyReleased-clause-late
returns-in-Err-AlreadyReleased-clause-late g c =
    let own = c.handle.ensures.stands in
    absurd (not_released c.args.event c.args.self.now.speaker.core c.handle.new.self.core c.in-Ok.row own.0 own.1 (c.requires.free own.0 own.1) (rw c.in-Err-AlreadyReleased.field-0-is at c.in-Err-AlreadyReleased.ensures.refused))

pub returns-in-Err-AlreadyReleased-clause-ends : goal.returns-in-Err-AlreadyReleased-clause-ends
returns-in-Err-AlreadyReleased-clause-ends g c = λ kept marks stands.
    not_released c.args.event c.args.self.now.speaker.core c.handle.new.self.core c.in-Ok.row marks stands (c.requires.free marks stands) (rw c.in-Err-AlreadyReleased.field-0-is at c.in-Err-AlreadyReleased.ensures.refused)

pub returns-in-Err-AlreadyOpen-clause-late : goal.returns-in-Err-AlreadyOpen-clause-late
returns-in-Err-AlreadyOpen-clause-late g c =
    let own = c.handle.ensures.stands in
    absurd (not_open c.args.event c.args.self.now.speaker.core c.handle.new.self.core c.in-Ok.row own.0 own.1 (c.requires.free own.0 own.1) (rw c.in-Err-AlreadyOpen.field-0-is at c.in-Err-AlreadyOpen.ensures.refused))

pub returns-in-Err-AlreadyOpen-clause-ends : goal.returns-in-Err-AlreadyOpen-clause-ends
returns-in-Err-AlreadyOpen-clause-ends g c = λ kept marks stands.
    not_open c.args.event c.args.self.now.speaker.core c.handle.new.self.core c.in-Ok.row marks stands (c.requires.free marks stands) (rw c.in-Err-AlreadyOpen.field-0-is at c.in-Err-AlreadyOpen.ensures.refused)
