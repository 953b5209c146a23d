-- The rows so far were just made, each for the member whose turn it was, and all at one version.
use Rattle.std.proofs.Common.{◌≡◌}
use Rattle.std.specs.Prelude.{map}
use Rattle.rows_saved.specs.contracts.memory.MemoryRowsRows.TheImpl.{ghosts}
use Rattle.tape_frames.specs.Entries.{version_of}
use Rattle.world.specs.Founding.{AreAt, AreNewlyMade, given_of}
use Rattle.world.proofs.plays.with_memory.Given as goal

abbrev pub invariant-loop-table : goal.invariant-loop-table
invariant-loop-table l =
    record {
      new : AreNewlyMade ghosts l.parts.items;
      at : AreAt ghosts.version (λ m. version_of l.version) l.parts.items;
      given : map given_of l.parts.items ≡ l.yielded;
    }
