use Rattle.std.proofs.Common.{rules, ◌≡◌, true, false, true≢false, sym, ap, ◌∙◌, subst}
use Rattle.sqlite.specs.Held.{state}
use Rattle.sqlite_trees.specs.Tree.{Trees}
use Rattle.rows_table.specs.declared.layout.Layout.{Layout}
use Rattle.rows_saved.specs.Saved.{SameRows}
use Rattle.acceptor_store.specs.Layouts.{upgraded_from}
use Rattle.acceptor_store.specs.Sqlite.{IsOfStation, Stands, StemsFrom, UpgradedRows}
use Rattle.acceptor_store.specs.Columns.{saved_in}
use Rattle.acceptor_store.proofs.StandLemmas.{same_rows, upgrade_stems}
use Rattle.acceptor_store.proofs.sqlite_rows.SqliteRowsRows.upgrade.Goals as goal

pub invariant_of-self-in-Ok : goal.invariant_of-self-in-Ok
invariant_of-self-in-Ok g c = (
  subst (StemsFrom c.self.inside.was) (sym c.upgraded_from-self-inside.ensures) (upgrade_stems c.self.inside.was c.self.inside.layout c.self.invariant.0),
  λ running ours.
      let layout = c.self.inside.layout in
      let stands : Stands g.S.Store layout c.self.inside.conn c.self.inside.identity = c.self.invariant.1 running ours in
      let over = c.in-Ok.ensures.over c.self.inside.identity stands in
      let after : Stands g.S.Store (upgraded_from layout) c.upgrade_rows.new.conn c.self.inside.identity =
      record { serves = λ clean. (over clean).stands.serves clean; holds = λ clean. (over clean).stands.holds clean } in
      subst (λ (l : Layout). Stands g.S.Store l c.upgrade_rows.new.conn c.self.inside.identity) (sym c.upgraded_from-self-inside.ensures) after,
)

pub returns-in-Ok-clause-same : goal.returns-in-Ok-clause-same
returns-in-Ok-clause-same g c = rw (← c.self.view_is) (λ kept opened.
    let running : c.self.inside.stopped ≡ false = search rules in
    let layout = c.self.inside.layout in
    let stands : Stands g.S.Store layout c.self.inside.conn c.self.inside.identity = c.self.invariant.1 running kept.1 in
    let old = state g.S.Store c.self.inside.conn in
    let new = state g.S.Store c.upgrade_rows.new.conn in
    let went : UpgradedRows g.S.Store layout c.self.inside.identity c.self.inside.conn c.upgrade_rows.new.conn =
    c.in-Ok.ensures.over c.self.inside.identity stands kept.0 in
    subst (λ (l : Layout). SameRows (saved_in layout old.now.trees) (saved_in l new.now.trees)) (sym c.upgraded_from-self-inside.ensures) went.same)

pub returns-in-Ok-clause-call : goal.returns-in-Ok-clause-call
returns-in-Ok-clause-call g c = record {
  answered = record {
    call = record {
      cause = search rules;
      counts = search rules;
      stay_made = search rules;
      was_kept = search rules;
      was_open = rw (← c.self.view_is) (λ kept opened.
          let running : c.self.inside.stopped ≡ false = search rules in
          let layout = c.self.inside.layout in
          let stands : Stands g.S.Store layout c.self.inside.conn c.self.inside.identity = c.self.invariant.1 running kept.1 in
          let old = state g.S.Store c.self.inside.conn in
          let new = state g.S.Store c.upgrade_rows.new.conn in
          let went : UpgradedRows g.S.Store layout c.self.inside.identity c.self.inside.conn c.upgrade_rows.new.conn =
          c.in-Ok.ensures.over c.self.inside.identity stands kept.0 in
          went.was_open);
    };
    opened = (λ kept.
        let running : c.self.inside.stopped ≡ false = search rules in
        let layout = c.self.inside.layout in
        let stands : Stands g.S.Store layout c.self.inside.conn c.self.inside.identity = c.self.invariant.1 running kept.1 in
        let old = state g.S.Store c.self.inside.conn in
        let new = state g.S.Store c.upgrade_rows.new.conn in
        let went : UpgradedRows g.S.Store layout c.self.inside.identity c.self.inside.conn c.upgrade_rows.new.conn =
        c.in-Ok.ensures.over c.self.inside.identity stands kept.0 in
        went.is_open);
    blames = tt;
  };
  stopped = search rules;
  ours = search rules;
  station = search rules;
}

pub returns-in-Ok-clause-crash_ok : goal.returns-in-Ok-clause-crash_ok
returns-in-Ok-clause-crash_ok g c = rw (← c.self.view_is) (λ kept left may.
    let running : c.self.inside.stopped ≡ false = search rules in
    let layout = c.self.inside.layout in
    let stands : Stands g.S.Store layout c.self.inside.conn c.self.inside.identity = c.self.invariant.1 running kept.1 in
    let old = state g.S.Store c.self.inside.conn in
    let new = state g.S.Store c.upgrade_rows.new.conn in
    let went : UpgradedRows g.S.Store layout c.self.inside.identity c.self.inside.conn c.upgrade_rows.new.conn =
    c.in-Ok.ensures.over c.self.inside.identity stands kept.0 in
    let is : c.upgraded_from-self-inside.result ≡ upgraded_from layout = c.upgraded_from-self-inside.ensures in
    λ n. ap (λ m. m n) may.2 ∙ ap (λ (l : Layout). saved_in l may.0 n) is ∙ ap (λ (t : Trees). saved_in (upgraded_from layout) t n) (went.crash may.0 may.1) ∙ went.same n)

pub returns-in-Ok-clause-crash_station : goal.returns-in-Ok-clause-crash_station
returns-in-Ok-clause-crash_station g c = rw (← c.self.view_is) (λ kept db may.
    let running : c.self.inside.stopped ≡ false = search rules in
    let layout = c.self.inside.layout in
    let stands : Stands g.S.Store layout c.self.inside.conn c.self.inside.identity = c.self.invariant.1 running kept.1 in
    let old = state g.S.Store c.self.inside.conn in
    let new = state g.S.Store c.upgrade_rows.new.conn in
    let went : UpgradedRows g.S.Store layout c.self.inside.identity c.self.inside.conn c.upgrade_rows.new.conn =
    c.in-Ok.ensures.over c.self.inside.identity stands kept.0 in
    subst (λ (l : Layout). IsOfStation l c.self.inside.identity db) (sym c.upgraded_from-self-inside.ensures)
    (subst (IsOfStation (upgraded_from layout) c.self.inside.identity) (sym (went.crash db may)) (went.stands.holds kept.0 went.is_open)))

pub returns-in-Err-clause-same : goal.returns-in-Err-clause-same
returns-in-Err-clause-same g c = rw (← c.self.view_is) (λ kept opened.
    let running : c.self.inside.stopped ≡ false = search rules in
    let layout = c.self.inside.layout in
    let stands : Stands g.S.Store layout c.self.inside.conn c.self.inside.identity = c.self.invariant.1 running kept.1 in
    let old = state g.S.Store c.self.inside.conn in
    let new = state g.S.Store c.upgrade_rows.new.conn in
    same_rows layout old new (c.in-Err.ensures.kept c.self.inside.identity stands kept.0 opened).same)

pub returns-in-Err-clause-call : goal.returns-in-Err-clause-call
returns-in-Err-clause-call g c = record {
  answered = record {
    call = record {
      cause = search rules;
      counts = search rules;
      stay_made = search rules;
      was_kept = search rules;
      was_open = rw (← c.self.view_is) (λ kept opened.
          let running : c.self.inside.stopped ≡ false = search rules in
          let layout = c.self.inside.layout in
          let stands : Stands g.S.Store layout c.self.inside.conn c.self.inside.identity = c.self.invariant.1 running kept.1 in
          let old = state g.S.Store c.self.inside.conn in
          let new = state g.S.Store c.upgrade_rows.new.conn in
          (c.in-Err.ensures.kept c.self.inside.identity stands kept.0 opened).was_open);
    };
    opened = search rules;
    blames = rw (← c.self.view_is) (
        let still : c.self.inside.stopped ≡ false = search rules in (
          λ stopped. absurd (true≢false (sym stopped ∙ still)),
          λ kept.
              let running : c.self.inside.stopped ≡ false = search rules in
              let layout = c.self.inside.layout in
              let stands : Stands g.S.Store layout c.self.inside.conn c.self.inside.identity = c.self.invariant.1 running kept.1 in
              let old = state g.S.Store c.self.inside.conn in
              let new = state g.S.Store c.upgrade_rows.new.conn in
              c.in-Err.ensures.refusal c.self.inside.identity stands kept.0,
        ));
  };
  stopped = search rules;
  ours = search rules;
  station = search rules;
}
