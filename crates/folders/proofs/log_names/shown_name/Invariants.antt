-- The front of the name is shown.
use Rattle.std.proofs.Common.{◌≡◌, take, string_bytes}
use Rattle.folders.specs.LogNames.{shown_name}
use Rattle.folders.proofs.log_names.shown_name.Given as goal

abbrev pub invariant-loop-byte : goal.invariant-loop-byte
invariant-loop-byte l = string_bytes l.text ≡ shown_name (take l.byte-index l.byte-items)
