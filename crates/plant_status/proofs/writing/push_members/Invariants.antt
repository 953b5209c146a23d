-- The lines of the members so far are in the text.
use Rattle.std.proofs.Common.{◌≡◌, ◌++◌, take, string_bytes}
use Rattle.std.specs.Prelude.{flat_map}
use Rattle.plant_status.specs.Texts.{heard_text}
use Rattle.plant_status.proofs.writing.push_members.Given as goal

abbrev pub invariant-loop-heard : goal.invariant-loop-heard
invariant-loop-heard l = string_bytes l.text ≡ string_bytes l.initial.text ++ flat_map (heard_text l.written) (take l.heard-index l.members)
