use Rattle.std.proofs.Common.{◌≡◌, length, take}
use Rattle.seals.proofs.bytes.first_bytes.Given as goal

abbrev pub invariant-bytes : goal.invariant-bytes
invariant-bytes l = (length l.out ≡ 16) × (take l.i l.out ≡ take l.i l.bytes)
