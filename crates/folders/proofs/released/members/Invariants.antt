-- All members below this value so far.
use Rattle.std.proofs.Common.{◌<◌, ℕ}
use Rattle.std.specs.Prelude.{◌↔◌, IsTrue}
use Rattle.gone_out.specs.Files.{IsNumber}
use Rattle.gone_out.specs.Laws.{IsAmong}
use Rattle.gone_out.specs.Numbers.{has}
use Rattle.folders.proofs.released.members.Given as goal

abbrev pub invariant-loop-value : goal.invariant-loop-value
invariant-loop-value l = (n : ℕ) → IsAmong l.list.items n ↔ (IsNumber n × (n < l.value) × IsTrue (has l.numbers n))
