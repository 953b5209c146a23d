use Rattle.std.proofs.Common.{rules, None, IsTrue, refl}
use Rattle.sqlite.specs.Held.{state}
use Rattle.acceptor_store.proofs.StandLemmas.{was_clean}
use Rattle.acceptor_store.proofs.ReadingLemmas.{front_read, all_read, refusal_read}
use Rattle.acceptor_store.proofs.reading.show_all.Goals as goal

pub returns-in-Err : goal.returns-in-Err
returns-in-Err g c = record {
  seen = search rules;
  enough = search rules;
  front = λ serves clean sound.
      let old = state g.S.Store c.args.conn.now in
      let new = state g.S.Store c.visit_rows.new.conn in
      let rest = λ (opened : IsTrue old.is_open). (serves (was_clean old new c.visit_rows.ensures.reads.serving.clean clean)).1 opened in
      let first = c.visit_rows.ensures.front clean (λ opened. (rest opened).schema) in
      let seen = front_read c.rows_rise.ensures c.rising_is_listed.ensures g.V.RowVisitor.saw c.args.layout old _ c.visit_rows.new.visitor refl refl (λ opened. (rest opened).rows) sound first in
      search rules;
  only = search rules;
  serving = search rules;
  refusal = search rules;
}

pub returns-in-Ok : goal.returns-in-Ok
returns-in-Ok g c = record {
  seen = λ serves clean sound.
      let old = state g.S.Store c.args.conn.now in
      let new = state g.S.Store c.visit_rows.new.conn in
      let opened = (c.visit_rows.ensures.reads.serving.same serves clean (c.in-Ok.ensures.reads.serving.opened serves clean)).was_open in
      let rest = (serves (was_clean old new c.visit_rows.ensures.reads.serving.clean clean)).1 opened in
      let seen = all_read c.rows_rise.ensures c.rising_is_listed.ensures g.V.RowVisitor.saw c.args.layout old
      (record { alloc = c.args.alloc; layout = c.args.layout; visitor = record { ref_ptr = c.args.visitor.ref_ptr; ghost_name = _; now = c.args.visitor.now }; last = None; fault = None }) c.visit_rows.new.visitor refl refl rest.rows (sound opened) c.in-Ok.all (c.in-Ok.ensures.listed clean rest.schema) c.outcome.result c.outcome.ensures.ok in
      search rules;
  enough = search rules;
  front = λ serves clean sound.
      let old = state g.S.Store c.args.conn.now in
      let new = state g.S.Store c.visit_rows.new.conn in
      let rest = λ (opened : IsTrue old.is_open). (serves (was_clean old new c.visit_rows.ensures.reads.serving.clean clean)).1 opened in
      let first = c.visit_rows.ensures.front clean (λ opened. (rest opened).schema) in
      let seen = front_read c.rows_rise.ensures c.rising_is_listed.ensures g.V.RowVisitor.saw c.args.layout old _ c.visit_rows.new.visitor refl refl (λ opened. (rest opened).rows) sound first in
      search rules;
  only = search rules;
  serving = search rules;
  refusal = λ serves clean sound.
      let old = state g.S.Store c.args.conn.now in
      let new = state g.S.Store c.visit_rows.new.conn in
      let rest = λ (opened : IsTrue old.is_open). (serves (was_clean old new c.visit_rows.ensures.reads.serving.clean clean)).1 opened in
      let first = c.visit_rows.ensures.front clean (λ opened. (rest opened).schema) in
      refusal_read c.rows_rise.ensures c.rising_is_listed.ensures g.V.RowVisitor.saw c.args.layout old _ c.visit_rows.new.visitor refl refl (λ opened. (rest opened).rows) sound first c.outcome.result c.outcome.ensures.err;
}
