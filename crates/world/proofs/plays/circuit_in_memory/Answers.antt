-- The rows were just made, so none is saved, and all are at one version.
use Rattle.std.proofs.Common.{List, subst}
use Rattle.tape_frames.specs.Entries.{version_of}
use Rattle.world.specs.Founding.{Given}
use Rattle.world.specs.Playing.{IsFresh}
use Rattle.rows_saved.specs.contracts.memory.MemoryRowsRows.TheImpl.{ghosts}
use Rattle.world.proofs.plays.circuit_in_memory.Goals as goal

pub returns-in-Ok-clause-fresh : goal.returns-in-Ok-clause-fresh
returns-in-Ok-clause-fresh c =
    subst (λ (members : List Given). IsFresh ghosts c.args.circuit members (λ m. version_of c.args.version) c.in-Ok.world) c.in_ok-parts.ensures.1.given
    (c.in-Ok.ensures.fresh (λ i part at is n. (c.in_ok-parts.ensures.1.new i part at).1 tt is n) (λ m. version_of c.args.version) c.in_ok-parts.ensures.1.at)

pub returns-in-Ok-clause-reached : goal.returns-in-Ok-clause-reached
returns-in-Ok-clause-reached c = c.in-Ok.ensures.reached c.in_ok-parts.ensures.1.new
