-- The numbers so far are in the text.
use Rattle.std.proofs.Common.{◌≡◌, ◌++◌, take, string_bytes}
use Rattle.std.specs.Prelude.{flat_map}
use Rattle.plant_status.specs.Texts.{next_busy}
use Rattle.plant_status.proofs.writing.push_more.Given as goal

abbrev pub invariant-loop-busy : goal.invariant-loop-busy
invariant-loop-busy l = string_bytes l.text ≡ string_bytes l.initial.text ++ flat_map next_busy (take l.busy-index l.busy)
