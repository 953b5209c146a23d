-- The records of so many numbers so far.
use Rattle.std.proofs.Common.{◌≡◌, ◌++◌, ℕ, take}
use Rattle.gone_out.specs.Files.{IsNumber, records}
use Rattle.gone_out.specs.Laws.{IsAmong}
use Rattle.folders.proofs.released.push_records.Given as goal

abbrev pub invariant-loop-number : goal.invariant-loop-number
invariant-loop-number l = record {
  bytes : l.bytes.items ≡ l.initial.bytes.items ++ records l.own (take l.number-index l.numbers);
  numbers : (n : ℕ) → IsAmong (take l.number-index l.numbers) n → IsNumber n;
}
