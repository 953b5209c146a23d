use Rattle.std.proofs.Common.{rules, ◌≡◌, ◌∙◌, refl, sym, arith}
use Rattle.sqlite.specs.State.{HasCleanDisk}
use Rattle.sqlite.specs.Held.{state}
use Rattle.rows_table.proofs.UpgradeLemmas.{committed}
use Rattle.rows_table.proofs.upgrade.upgrade_tables.Goals as goal

pub returns : goal.returns
returns g c = record {
  upgraded = λ clean has was.
      let begun = c.transaction-tx.ensures.begun in
      let same : c.conn-2-1.given.0 ≡ c.commit.new.self.0 = c.conn-2-1.given.1 (sym (c.move_to_entries.ensures.same_reference ∙ c.transaction-tx.ensures.same_reference)) in
      let last : HasCleanDisk (state g.S.Store c.commit.new.self.0) = rw (sym same) clean in
      let ended = c.in_ok-commit.ensures.ok last in
      let early : HasCleanDisk (state g.S.Store c.move_to_entries.new.tx.conn.now) = omega (arith, c.commit.ensures.survives.clean, last) in
      let moved = c.in_ok-move_to_entries.ensures.done early (rw begun refl) (rw begun has) (rw begun was) in
      rw same (rw begun at (committed _ _ _ _ moved ended.1));
  crash = search rules;
  ends = search rules;
}
