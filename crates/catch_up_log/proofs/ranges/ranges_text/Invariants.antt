-- The ranges so far are in the text.
use Rattle.std.proofs.Common.{◌≡◌, ◌++◌, take, string_bytes}
use Rattle.std.specs.Prelude.{flat_map}
use Rattle.catch_up_log.specs.Ranges.{next_text}
use Rattle.catch_up_log.proofs.ranges.ranges_text.Given as goal

abbrev pub invariant-loop-range : goal.invariant-loop-range
invariant-loop-range l = string_bytes l.text ≡ string_bytes l.initial.text ++ flat_map (next_text l.ending) (take l.range-index l.rest)
