use Rattle.std.proofs.Common.{◌≡◌, ◌++◌, take}
use Rattle.std.specs.Prelude.{flat_map}
use Rattle.code_table.specs.Tables.{mean}
use Rattle.reel_commands.specs.Survey.{place_line}
use Rattle.reel_commands.proofs.rows.put_places.Given as goal

abbrev pub invariant-loop-place : goal.invariant-loop-place
invariant-loop-place l = l.text.items ≡ l.initial.text.items ++ flat_map (place_line (mean l.table) l.surveyed) (take l.place-index l.places)
