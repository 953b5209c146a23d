-- The rows so far were just made, each for the member whose turn it was, and all at one version.
use Rattle.std.proofs.Common.{◌≡◌, length}
use Rattle.std.specs.Prelude.{map}
use Rattle.tape_frames.specs.Entries.{version_of}
use Rattle.world.specs.Founding.{AreAt, AreNewlyMade, given_of}
use Rattle.database_days.proofs.Databases.{in_memory}
use Rattle.database_days.proofs.plays.with_databases.Given as goal

abbrev pub invariant-loop-table : goal.invariant-loop-table
invariant-loop-table l =
    record {
      me : l.me ≡ length l.yielded;
      new : AreNewlyMade in_memory l.parts.items;
      at : AreAt in_memory.version (λ m. version_of l.fn.version) l.parts.items;
      given : map given_of l.parts.items ≡ l.yielded;
    }
