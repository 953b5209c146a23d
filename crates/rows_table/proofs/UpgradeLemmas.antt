-- What the statements of an upgrade come to together.
use Rattle.std.proofs.Common.{List, false, sym, ap, subst, ◌∙◌}
use Rattle.sqlite_value.specs.Order.{Row}
use Rattle.sqlite_trees.specs.Tree.{Trees}
use Rattle.sqlite.specs.Effect.{Database}
use Rattle.sqlite.specs.State.{State, Shows}
use Rattle.rows_table.specs.Entries.{HasUpgraded, IsUpgraded, WasUpgraded}

-- once it is committed the database is upgraded
pub committed : (before : Trees) (rows : List Row) (old new : State) → HasUpgraded before rows old → Shows old new old.now old.now false → WasUpgraded before rows new
committed before rows old new has shown = record {
  is_open = shown.is_open;
  alone = shown.mode;
  schema = ap (λ (d : Database). d.schema) shown.now_is ∙ has.schema;
  settled = shown.committed_is ∙ sym shown.now_is;
  holds = subst (λ (d : Database). IsUpgraded before rows d.trees) (sym shown.now_is) has.holds;
}
