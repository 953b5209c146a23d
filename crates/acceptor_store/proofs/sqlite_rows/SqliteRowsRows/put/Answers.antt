use Rattle.std.proofs.Common.{rules, ◌≡◌, false, inl, inr, true≢false, sym, ap, ◌∙◌}
use Rattle.sqlite.specs.Held.{state}
use Rattle.std.proofs.lemmas.Bool.{cases_Bool}
use Rattle.acceptor_store.specs.Sqlite.{Stands}
use Rattle.acceptor_store.specs.Columns.{saved_in}
use Rattle.acceptor_store.proofs.SaveLemmas.{saves_row}
use Rattle.acceptor_store.proofs.StandLemmas.{same_rows, stands_saved, left_station, was_clean}
use Rattle.acceptor_store.proofs.sqlite_rows.SqliteRowsRows.put.Goals as goal

pub returns-in-Ok-clause-crash_station : goal.returns-in-Ok-clause-crash_station
returns-in-Ok-clause-crash_station g c = rw (← c.self.view_is) (λ kept opened running left may.
    let layout = c.self.inside.layout in
    let stands : Stands g.S.Store layout c.self.inside.conn c.self.inside.identity = c.self.invariant.1 running kept.1 in
    let old = state g.S.Store c.self.inside.conn in
    let new = state g.S.Store c.save.new.conn in
    (left_station layout c.self.inside.identity old.now.trees left c.args.number c.args.row.now c.requires.promise c.save.ensures.number.0 c.save.ensures.number.1
    (stands.holds (was_clean old new c.save.ensures.saves.clean kept.0) opened) (c.save.ensures.saves.crash stands.serves kept.0 opened left may)))

pub returns-in-Err-clause-crash_station : goal.returns-in-Err-clause-crash_station
returns-in-Err-clause-crash_station g c = rw (← c.self.view_is) (λ kept opened running left may.
    let layout = c.self.inside.layout in
    let stands : Stands g.S.Store layout c.self.inside.conn c.self.inside.identity = c.self.invariant.1 running kept.1 in
    let old = state g.S.Store c.self.inside.conn in
    let new = state g.S.Store c.save.new.conn in
    (left_station layout c.self.inside.identity old.now.trees left c.args.number c.args.row.now c.requires.promise c.save.ensures.number.0 c.save.ensures.number.1
    (stands.holds (was_clean old new c.save.ensures.saves.clean kept.0) opened) (c.save.ensures.saves.crash stands.serves kept.0 opened left may)))

pub returns-in-Err-clause-either : goal.returns-in-Err-clause-either
returns-in-Err-clause-either g c = rw (← c.self.view_is) (λ kept.
    let running : c.self.inside.stopped ≡ false = search rules in
    let layout = c.self.inside.layout in
    let stands : Stands g.S.Store layout c.self.inside.conn c.self.inside.identity = c.self.invariant.1 running kept.1 in
    let old = state g.S.Store c.self.inside.conn in
    let new = state g.S.Store c.save.new.conn in
    elim (cases_Bool new.is_open) [
      | inl opened ↦ inr (inl (same_rows layout old new (c.in-Err.ensures.saves.err stands.serves kept.0 opened).same))
      | inr shut ↦ inl (λ opened. true≢false (sym opened ∙ shut))
    ])

pub returns-in-Err-clause-crash_err : goal.returns-in-Err-clause-crash_err
returns-in-Err-clause-crash_err g c = rw (← c.self.view_is) (λ kept opened running left may.
    let layout = c.self.inside.layout in
    let stands : Stands g.S.Store layout c.self.inside.conn c.self.inside.identity = c.self.invariant.1 running kept.1 in
    let old = state g.S.Store c.self.inside.conn in
    let new = state g.S.Store c.save.new.conn in
    elim (c.save.ensures.saves.crash stands.serves kept.0 opened may.0 may.1) [
      | inl same ↦ inl (λ n. ap (λ m. m n) may.2 ∙ ap (λ t. saved_in layout t n) same)
      | inr by ↦ inr (λ n. ap (λ m. m n) may.2
          ∙ (saves_row layout old.now.trees may.0 c.args.number c.args.row.now c.requires.promise by.0 by.1) n)
    ])

pub invariant_of-self-in-Ok : goal.invariant_of-self-in-Ok
invariant_of-self-in-Ok g c = (
  c.self.invariant.0,
  λ running ours.
      let layout = c.self.inside.layout in
      let stands : Stands g.S.Store layout c.self.inside.conn c.self.inside.identity = c.self.invariant.1 running ours in
      (stands_saved g.S.Store c.self.inside.conn c.save.new.conn c.save.ensures.saves.clean layout c.self.inside.identity stands c.args.number c.args.row.now c.requires.promise
      c.save.ensures.number.0 c.save.ensures.number.1 c.in-Ok.ensures.saves.back c.save.ensures.saves.serves c.in-Ok.ensures.saves.saved),
)
