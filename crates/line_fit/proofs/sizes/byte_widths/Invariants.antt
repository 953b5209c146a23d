use Rattle.std.proofs.Common.{◌≡◌}
use Rattle.line_fit.proofs.Bytes.{widths_to}
use Rattle.line_fit.proofs.sizes.byte_widths.Given as goal

abbrev pub invariant-loop-byte : goal.invariant-loop-byte
invariant-loop-byte l = l.all.items ≡ widths_to l.widths l.byte
