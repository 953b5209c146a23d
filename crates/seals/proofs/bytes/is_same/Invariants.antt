use Rattle.std.proofs.Common.{◌≡◌, take}
use Rattle.std.specs.Prelude.{◌↔◌}
use Rattle.seals.proofs.bytes.is_same.Given as goal

abbrev pub invariant-bytes : goal.invariant-bytes
invariant-bytes l = (l.changed ≡ 0) ↔ (take l.i l.tag ≡ take l.i l.other)
