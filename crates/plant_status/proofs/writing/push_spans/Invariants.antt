-- The ranges so far are in the text.
use Rattle.std.proofs.Common.{◌≡◌, ◌++◌, take, string_bytes}
use Rattle.std.specs.Prelude.{flat_map}
use Rattle.plant_status.specs.Texts.{span_text}
use Rattle.plant_status.proofs.writing.push_spans.Given as goal

abbrev pub invariant-loop-span : goal.invariant-loop-span
invariant-loop-span l = string_bytes l.text ≡ string_bytes l.initial.text ++ flat_map span_text (take l.span-index l.spans)
