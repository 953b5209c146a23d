-- So many numbers were noted so far.
use Rattle.std.proofs.Common.{◌⊎◌, ℕ, List, take}
use Rattle.std.specs.Prelude.{◌↔◌, IsTrue}
use Rattle.gone_out.specs.declared.origin.Origin.{Origin}
use Rattle.gone_out.specs.Laws.{IsAmong}
use Rattle.gone_out.specs.Numbers.{has}
use Rattle.folders.specs.GoneOut.{IsFileBut}
use Rattle.folders.proofs.ledger.Ledger.note.Given as goal

abbrev pub invariant-loop-number : goal.invariant-loop-number
invariant-loop-number l = record {
  known : (n : ℕ) → IsTrue (has l.self.numbers n) ↔ (IsTrue (has l.initial.self.numbers n) ⊎ IsAmong (take l.number-index l.numbers) n);
  kept : (o : Origin) (bytes : List ℕ) → IsFileBut o l.initial.self.numbers l.initial.self.waiting.items bytes → IsFileBut o l.self.numbers l.self.waiting.items bytes;
}
