use Rattle.std.proofs.Common.{◌≡◌, length, take}
use Rattle.rolls.proofs.reading.copied.Given as goal

abbrev pub invariant-loop-byte : goal.invariant-loop-byte
invariant-loop-byte l = record { copied : l.copy.items ≡ take l.byte-index l.bytes; many : length l.copy.items ≡ l.byte-index }
