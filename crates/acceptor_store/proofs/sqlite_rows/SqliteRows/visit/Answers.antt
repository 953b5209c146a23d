use Rattle.std.proofs.Common.{rules, ◌≡◌, false, true≢false, IsTrue, sym, ◌∙◌}
use Rattle.sqlite.specs.Held.{state}
use Rattle.acceptor_store.specs.Sqlite.{Stands}
use Rattle.acceptor_store.proofs.StandLemmas.{same_rows, was_clean}
use Rattle.acceptor_store.proofs.sqlite_rows.SqliteRows.visit.Goals as goal

pub returns-in-Err-clause-reads : goal.returns-in-Err-clause-reads
returns-in-Err-clause-reads g c = record {
  call = record {
    answered = record {
      call = record {
        cause = search rules;
        counts = search rules;
        stay_made = search rules;
        was_kept = search rules;
        was_open = search rules;
      };
      opened = search rules;
      blames = rw (← c.self.view_is) (
          let still : c.self.inside.stopped ≡ false = search rules in (
            λ stopped. absurd (true≢false (sym stopped ∙ still)),
            λ kept.
                let running : c.self.inside.stopped ≡ false = search rules in
                let layout = c.self.inside.layout in
                let stands : Stands g.S.Store layout c.self.inside.conn c.self.inside.identity = c.self.invariant.1 running kept.1 in
                let old = state g.S.Store c.self.inside.conn in
                let new = state g.S.Store c.show_all.new.conn in
                c.in-Err.ensures.refusal stands.serves kept.0 (λ opened. (stands.holds (was_clean old new c.show_all.ensures.serving.clean kept.0) opened).holds.sound),
          ));
    };
    stopped = search rules;
    ours = search rules;
    station = search rules;
  };
  same = rw (← c.self.view_is) (λ kept opened.
      let running : c.self.inside.stopped ≡ false = search rules in
      let layout = c.self.inside.layout in
      let stands : Stands g.S.Store layout c.self.inside.conn c.self.inside.identity = c.self.invariant.1 running kept.1 in
      let old = state g.S.Store c.self.inside.conn in
      let new = state g.S.Store c.show_all.new.conn in
      same_rows layout old new (c.show_all.ensures.serving.same stands.serves kept.0 opened).same);
  crash = search rules;
  stays = search rules;
}

pub returns-in-Ok-clause-rows : goal.returns-in-Ok-clause-rows
returns-in-Ok-clause-rows g c = rw (← c.self.view_is) (λ kept.
    let running : c.self.inside.stopped ≡ false = search rules in
    let layout = c.self.inside.layout in
    let stands : Stands g.S.Store layout c.self.inside.conn c.self.inside.identity = c.self.invariant.1 running kept.1 in
    let old = state g.S.Store c.self.inside.conn in
    let new = state g.S.Store c.show_all.new.conn in
    let sound = λ (opened : IsTrue old.is_open). (stands.holds (was_clean old new c.show_all.ensures.serving.clean kept.0) opened).holds.sound in
    λ sure. c.in-Ok.ensures.seen stands.serves kept.0 sound sure)

pub returns-in-Ok-clause-front : goal.returns-in-Ok-clause-front
returns-in-Ok-clause-front g c = rw (← c.self.view_is) (λ kept.
    let running : c.self.inside.stopped ≡ false = search rules in
    let layout = c.self.inside.layout in
    let stands : Stands g.S.Store layout c.self.inside.conn c.self.inside.identity = c.self.invariant.1 running kept.1 in
    let old = state g.S.Store c.self.inside.conn in
    let new = state g.S.Store c.show_all.new.conn in
    let sound = λ (opened : IsTrue old.is_open). (stands.holds (was_clean old new c.show_all.ensures.serving.clean kept.0) opened).holds.sound in
    c.show_all.ensures.front stands.serves kept.0 sound)

pub returns-in-Err-clause-front : goal.returns-in-Err-clause-front
returns-in-Err-clause-front g c = rw (← c.self.view_is) (λ kept.
    let running : c.self.inside.stopped ≡ false = search rules in
    let layout = c.self.inside.layout in
    let stands : Stands g.S.Store layout c.self.inside.conn c.self.inside.identity = c.self.invariant.1 running kept.1 in
    let old = state g.S.Store c.self.inside.conn in
    let new = state g.S.Store c.show_all.new.conn in
    let sound = λ (opened : IsTrue old.is_open). (stands.holds (was_clean old new c.show_all.ensures.serving.clean kept.0) opened).holds.sound in
    c.show_all.ensures.front stands.serves kept.0 sound)
