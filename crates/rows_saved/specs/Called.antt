-- A call on rows of a kind.
use Rattle.std.specs.Prelude.{Result}
use Rattle.rows_saved.specs.Calls.{Called}
use Rattle.rows_saved.specs.declared.fault.RowsFault.{RowsFault}
use Rattle.rows_saved.specs.declared.rows.Rows.{Ghosts}

-- it is refused only where the count rises, which never falls, and what held as it ended held before
abbrev pub IsCalled : {T R : Type 0} → Ghosts R → Result T RowsFault → R → R → Type 0
IsCalled g result old new = Called g.kept g.is_open g.made g.refusals result old new
