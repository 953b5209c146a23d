use Rattle.std.proofs.Common.{◌≡◌, ◌++◌, drop}
use Rattle.std.specs.List.{filter_map}
use Rattle.acceptor_store.specs.Columns.{item_in}
use Rattle.acceptor_store.proofs.columns.items_in.Given as goal

abbrev pub invariant-loop-row : goal.invariant-loop-row
invariant-loop-row l = l.items.items ++ filter_map (item_in l.layout) (drop l.row-index l.rows) ≡ filter_map (item_in l.layout) l.rows
