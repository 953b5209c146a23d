-- none of those before
use Rattle.std.specs.Prelude.{◌≡◌, ℕ, ◌<◌, false}
use Rattle.code_table.specs.Tables.{mean}
use Rattle.plant_commands.specs.Fits.{fits}
use Rattle.plant_commands.proofs.fitting.fitting_frame.Given as goal

abbrev pub invariant-loop-frame : goal.invariant-loop-frame
invariant-loop-frame l = (frame : ℕ) → frame < l.frame → fits (mean l.table) l.widths frame ≡ false
