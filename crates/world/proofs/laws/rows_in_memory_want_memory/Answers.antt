-- Rows in memory blame want of memory alone.
use Rattle.rows_saved.specs.contracts.memory.MemoryRowsRows.TheImpl.{ghosts}
use Rattle.world.proofs.Tearing.{tears_for_memory}
use Rattle.world.proofs.laws.rows_in_memory_want_memory.Goals as goal

pub returns : goal.returns
returns c = tears_for_memory ghosts (λ old new fault blamed. blamed)
