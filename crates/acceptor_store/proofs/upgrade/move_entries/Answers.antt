use Rattle.std.proofs.Common.{rules, []}
use Rattle.sqlite.specs.Held.{state}
use Rattle.rows_table.specs.Entries.{with_entries}
use Rattle.acceptor_store.proofs.StandLemmas.{IsSettled}
use Rattle.acceptor_store.proofs.UpgradeLemmas.{laid, lies, went_over, left_by}
use Rattle.acceptor_store.proofs.upgrade.move_entries.Goals as goal

pub returns-in-Ok : goal.returns-in-Ok
returns-in-Ok g c = record {
  over = λ i stands map opened clean.
      let old = c.args.conn.now in
      let new = c.upgrade_tables.new.conn in
      let law_old : IsSettled (state g.S.Store old) = λ db. g.met.S.Store.settled old.store db in
      let law_new : IsSettled (state g.S.Store new) = λ db. g.met.S.Store.settled new.store db in
      let falls = c.upgrade_tables.ensures.ends.clean in
      let rows = with_entries c.args.entries.now [] in
      let has = laid g.S.Store old new falls i stands law_old law_new rows opened clean in
      let is = lies g.S.Store old new falls i stands law_old law_new rows opened clean in
      went_over g.S.Store old new falls i stands law_old law_new rows opened clean map (c.in-Ok.ensures.upgraded clean has is);
  kept = search rules;
  crash = λ i stands map opened clean db left.
      let old = c.args.conn.now in
      let new = c.upgrade_tables.new.conn in
      let law_old : IsSettled (state g.S.Store old) = λ db. g.met.S.Store.settled old.store db in
      let law_new : IsSettled (state g.S.Store new) = λ db. g.met.S.Store.settled new.store db in
      let falls = c.upgrade_tables.ensures.ends.clean in
      let rows = with_entries c.args.entries.now [] in
      let has = laid g.S.Store old new falls i stands law_old law_new rows opened clean in
      let is = lies g.S.Store old new falls i stands law_old law_new rows opened clean in
      left_by g.S.Store old new falls i stands law_old law_new rows opened clean map db (c.upgrade_tables.ensures.crash clean has is db left);
  clean = search rules;
  refusal = search rules;
}

pub returns-in-Err : goal.returns-in-Err
returns-in-Err g c = record {
  over = search rules;
  kept = search rules;
  crash = λ i stands map opened clean db left.
      let old = c.args.conn.now in
      let new = c.upgrade_tables.new.conn in
      let law_old : IsSettled (state g.S.Store old) = λ db. g.met.S.Store.settled old.store db in
      let law_new : IsSettled (state g.S.Store new) = λ db. g.met.S.Store.settled new.store db in
      let falls = c.upgrade_tables.ensures.ends.clean in
      let rows = with_entries c.args.entries.now [] in
      let has = laid g.S.Store old new falls i stands law_old law_new rows opened clean in
      let is = lies g.S.Store old new falls i stands law_old law_new rows opened clean in
      left_by g.S.Store old new falls i stands law_old law_new rows opened clean map db (c.upgrade_tables.ensures.crash clean has is db left);
  clean = search rules;
  refusal = search rules;
}
