use Rattle.std.proofs.Common.{rules, ◌≡◌, arith, sym, ap, ◌∙◌, subst}
use Rattle.std.proofs.lemmas.Result.{err_from_is_err_and}
use Rattle.sqlite.specs.Effect.{Database}
use Rattle.sqlite.specs.Held.{state}
use Rattle.sqlite.specs.State.{HasCleanDisk, IsUnchanged}
use Rattle.rows_table.specs.declared.layout.Layout.{Layout}
use Rattle.rows_table.specs.Tables.{layout_tree, layout_schema}
use Rattle.acceptor_store.specs.Columns.{AreSound}
use Rattle.acceptor_store.specs.Sqlite.{RefusesRows, RefusesToOpen}
use Rattle.acceptor_store.specs.StationRow.{IsStationOf}
use Rattle.acceptor_store.proofs.OpeningLemmas.{refuses_to_open}
use Rattle.acceptor_store.proofs.opening.test_database.Goals as goal

pub returns : goal.returns
returns g c = record {
  laid = search rules;
  holds = λ clean layout laid.
      let old = state g.S.Store c.args.conn.now in
      let mid = state g.S.Store c.test_station.new.conn in
      let early : HasCleanDisk mid = omega (arith, clean, c.test_rows.ensures.tables.clean) in
      let is : c.in-Some.layout ≡ layout = c.in-Some.ensures.laid layout (c.schema.ensures.value ∙ laid) in
      let has : old.now.schema ≡ layout_schema c.in-Some.layout = laid ∙ ap layout_schema (sym is) in
      let same : IsUnchanged old mid = c.in_ok-station.ensures.tables.unchanged early has in
      let still : mid.now.schema ≡ layout_schema c.in-Some.layout = ap (λ (d : Database). d.schema) same.0.now_is ∙ has in
      let sound : AreSound layout (mid.now.trees (layout_tree layout)) = subst (λ (l : Layout). AreSound l (mid.now.trees (layout_tree l))) is (c.in_ok-test_rows.ensures.sound clean still) in
      record {
        sound = subst (λ (d : Database). AreSound layout (d.trees (layout_tree layout))) same.0.now_is sound;
        station = subst (λ (l : Layout). IsStationOf l c.in_ok-station.station old.now.trees) is (c.in_ok-station.ensures.stored early has);
      };
  serves = search rules;
  agrees = search rules;
  refuses = search rules;
  unchanged = search rules;
  kept = search rules;
  leaves = λ clean layout laid db left.
      let old = state g.S.Store c.args.conn.now in
      let mid = state g.S.Store c.test_station.new.conn in
      let early : HasCleanDisk mid = omega (arith, clean, c.test_rows.ensures.tables.clean) in
      let is : c.in-Some.layout ≡ layout = c.in-Some.ensures.laid layout (c.schema.ensures.value ∙ laid) in
      let has : old.now.schema ≡ layout_schema c.in-Some.layout = laid ∙ ap layout_schema (sym is) in
      let same : IsUnchanged old mid = c.in_ok-station.ensures.tables.unchanged early has in
      let still : mid.now.schema ≡ layout_schema c.in-Some.layout = ap (λ (d : Database). d.schema) same.0.now_is ∙ has in
      c.test_station.ensures.tables.leaves early has db (c.test_rows.ensures.tables.leaves clean still db left);
  clean = search rules;
}

pub returns-in_err-test_rows : goal.returns-in_err-test_rows
returns-in_err-test_rows g c = record {
  laid = search rules;
  holds = search rules;
  serves = search rules;
  agrees = search rules;
  refuses = λ clean layout laid.
      let old = state g.S.Store c.args.conn.now in
      let mid = state g.S.Store c.test_station.new.conn in
      let early : HasCleanDisk mid = omega (arith, clean, c.in_err-test_rows.ensures.tables.clean) in
      let is : c.in-Some.layout ≡ layout = c.in-Some.ensures.laid layout (c.schema.ensures.value ∙ laid) in
      let has : old.now.schema ≡ layout_schema c.in-Some.layout = laid ∙ ap layout_schema (sym is) in
      let same : IsUnchanged old mid = c.in_ok-station.ensures.tables.unchanged early has in
      let still : mid.now.schema ≡ layout_schema c.in-Some.layout = ap (λ (d : Database). d.schema) same.0.now_is ∙ has in
      let fault = c.in_err-test_rows.field-0.0 in
      let there : RefusesRows layout mid.now.trees fault = subst (λ (l : Layout). RefusesRows l mid.now.trees fault) is (c.in_err-test_rows.ensures.refuses clean still) in
      let refuses : RefusesRows layout old.now.trees fault = subst (λ (d : Database). RefusesRows layout d.trees fault) same.0.now_is there in
      let station : IsStationOf layout c.in_ok-station.station old.now.trees = subst (λ (l : Layout). IsStationOf l c.in_ok-station.station old.now.trees) is (c.in_ok-station.ensures.stored early has) in
      let p = err_from_is_err_and c.from_residual-in_err-test_rows.result c.from_residual-in_err-test_rows.ensures.1 in
      rw (p.1, p.2) (refuses_to_open layout c.args.given old.now.trees c.in_ok-station.station fault station c.in_ok-station.ensures.agrees refuses);
  unchanged = search rules;
  kept = search rules;
  leaves = λ clean layout laid db left.
      let old = state g.S.Store c.args.conn.now in
      let mid = state g.S.Store c.test_station.new.conn in
      let early : HasCleanDisk mid = omega (arith, clean, c.test_rows.ensures.tables.clean) in
      let is : c.in-Some.layout ≡ layout = c.in-Some.ensures.laid layout (c.schema.ensures.value ∙ laid) in
      let has : old.now.schema ≡ layout_schema c.in-Some.layout = laid ∙ ap layout_schema (sym is) in
      let same : IsUnchanged old mid = c.in_ok-station.ensures.tables.unchanged early has in
      let still : mid.now.schema ≡ layout_schema c.in-Some.layout = ap (λ (d : Database). d.schema) same.0.now_is ∙ has in
      c.test_station.ensures.tables.leaves early has db (c.test_rows.ensures.tables.leaves clean still db left);
  clean = search rules;
}

pub returns-in_err-station : goal.returns-in_err-station
returns-in_err-station g c =
    let old = state g.S.Store c.args.conn.now in
    let p = err_from_is_err_and c.from_residual.result c.from_residual.ensures.1 in
    let is = λ (layout : Layout) (laid : old.now.schema ≡ layout_schema layout). c.in-Some.ensures.laid layout (c.schema.ensures.value ∙ laid) in
    let has = λ (layout : Layout) (laid : old.now.schema ≡ layout_schema layout). laid ∙ ap layout_schema (sym (is layout laid)) in
    record {
      laid = λ layout laid. rw p.1 tt;
      holds = λ clean layout laid. rw p.1 tt;
      serves = λ clean layout laid alone settled. rw p.1 tt;
      agrees = rw p.1 tt;
      refuses = λ clean layout laid.
          rw (p.1, p.2)
          (subst (λ (l : Layout). RefusesToOpen l c.args.given old.now.trees c.in_err-station.field-0.0) (is layout laid) (c.in_err-station.ensures.refuses clean (has layout laid)));
      unchanged = λ clean layout laid. rw p.1 tt;
      kept = λ clean layout laid settled opened. (c.test_station.ensures.tables.rests clean (has layout laid) settled opened).0;
      leaves = λ clean layout laid. c.test_station.ensures.tables.leaves clean (has layout laid);
      clean = c.test_station.ensures.tables.clean;
    }
