use Rattle.std.proofs.Common.{◌≡◌, ◌-◌, length, take, drop, replicate}
use Rattle.hmac.proofs.pads.filled.Given as goal

abbrev pub invariant-bytes : goal.invariant-bytes
invariant-bytes l = (length l.block ≡ 64) × (take l.i l.block ≡ take l.i l.bytes) × (drop l.i l.block ≡ replicate (64 - l.i) 0)
