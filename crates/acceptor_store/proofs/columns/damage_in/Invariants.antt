use Rattle.std.proofs.Common.{◌≡◌, drop}
use Rattle.acceptor_store.specs.Columns.{damage_in}
use Rattle.acceptor_store.proofs.columns.damage_in.Given as goal

abbrev pub invariant-loop-row : goal.invariant-loop-row
invariant-loop-row l = damage_in l.layout (drop l.row-index l.rows) ≡ damage_in l.layout l.rows
