-- none of those before
use Rattle.std.specs.Prelude.{◌≡◌, ℕ, ◌<◌, false}
use Rattle.code_table.specs.Tables.{mean}
use Rattle.plant_commands.specs.Fits.{elevates}
use Rattle.plant_commands.proofs.fitting.elevate_frame.Given as goal

abbrev pub invariant-loop-frame : goal.invariant-loop-frame
invariant-loop-frame l = (frame : ℕ) → frame < l.frame → elevates (mean l.table) frame ≡ false
