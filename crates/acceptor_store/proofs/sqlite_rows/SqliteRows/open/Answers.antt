use Rattle.std.proofs.Common.{rules, ◌≡◌, false, IsTrue, inl, refl}
use Rattle.sqlite.specs.Held.{state}
use Rattle.rows_table.specs.Tables.{layout_schema}
use Rattle.acceptor_store.proofs.StandLemmas.{IsSettled, taken_stands}
use Rattle.acceptor_store.proofs.RestLemmas.{rests}
use Rattle.acceptor_store.proofs.sqlite_rows.SqliteRows.open.Goals as goal

pub invariant_of-result : goal.invariant_of-result
invariant_of-result g c = (
  inl refl,
  λ running ours.
      let old = c.args.conn in
      let new = c.test_database.new.conn in
      let layout = c.in-Ok-test_database.tested.0 in
      let tables : (state g.S.Store old).now.schema ≡ layout_schema layout = search rules in
      let free : IsTrue c.is_autocommit.result = search rules in
      let alone : old.in_transaction ≡ false = search rules in
      taken_stands g.S.Store old new layout c.in-Ok-test_database.tested.1 tables c.schema.ensures.live (λ clean. c.in-Ok-test_database.ensures.holds clean layout tables)
      (λ clean. c.in-Ok-test_database.ensures.serves clean layout tables alone (c.is_autocommit.ensures.settled free)) (λ clean. c.in-Ok-test_database.ensures.unchanged clean layout tables),
)

pub returns-in-Ok-test_database-clause-taken : goal.returns-in-Ok-test_database-clause-taken
returns-in-Ok-test_database-clause-taken g c = record {
  is_open = search rules;
  rests = λ kept.
      let old = c.args.conn in
      let new = c.test_database.new.conn in
      let layout = c.in-Ok-test_database.tested.0 in
      let tables : (state g.S.Store old).now.schema ≡ layout_schema layout = search rules in
      let free : IsTrue c.is_autocommit.result = search rules in
      let alone : old.in_transaction ≡ false = search rules in
      let law : IsSettled (state g.S.Store new) = λ db. g.met.S.Store.settled new.store db in
      let stands =
      taken_stands g.S.Store old new layout c.in-Ok-test_database.tested.1 tables c.schema.ensures.live (λ clean. c.in-Ok-test_database.ensures.holds clean layout tables)
      (λ clean. c.in-Ok-test_database.ensures.serves clean layout tables alone (c.is_autocommit.ensures.settled free)) (λ clean. c.in-Ok-test_database.ensures.unchanged clean layout tables) in
      rests g.S.Store _ law stands kept (c.in-Ok-test_database.ensures.unchanged kept.0 layout tables).0.is_open;
  same = search rules;
  unwritten = search rules;
  agrees = search rules;
  stored = search rules;
  tables = search rules;
  fresh = search rules;
  unstopped = search rules;
  clean = search rules;
  crash = λ kept.
      let layout = c.in-Ok-test_database.tested.0 in
      let tables : (state g.S.Store c.args.conn).now.schema ≡ layout_schema layout = search rules in
      c.test_database.ensures.leaves kept.0 layout tables;
  ours = search rules;
  kept = search rules;
}

pub returns-in-Err-test_database-clause-refused : goal.returns-in-Err-test_database-clause-refused
returns-in-Err-test_database-clause-refused g c = record {
  refuses = search rules;
  unwritten = λ clean layout laid opened.
      let free : IsTrue c.is_autocommit.result = search rules in
      (c.test_database.ensures.kept clean layout laid (c.is_autocommit.ensures.settled free) opened).same;
  crash = search rules;
  clean = search rules;
}
