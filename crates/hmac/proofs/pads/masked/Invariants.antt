use Rattle.std.proofs.Common.{◌≡◌, length, take, map}
use Rattle.std.specs.Prelude.{bit_xor}
use Rattle.hmac.proofs.pads.masked.Given as goal

abbrev pub invariant-bytes : goal.invariant-bytes
invariant-bytes l = (length l.out ≡ 64) × (take l.i l.out ≡ map (λ b. bit_xor b l.bits) (take l.i l.block))
