-- Rows in memory are kept, none was saved when they were made, and all are at one version.
use Rattle.std.proofs.Common.{List, sym, subst}
use Rattle.tape_frames.specs.Entries.{version_of}
use Rattle.world.specs.Founding.{Given, IsCircuitOf}
use Rattle.world.proofs.plays.play_in_memory.Goals as goal

pub returns-in-Ok-clause-played : goal.returns-in-Ok-clause-played
returns-in-Ok-clause-played c = (
  λ z of.
      c.in-Ok.ensures.plays (λ i part at is n. (c.in_ok-members.ensures.1.new i part at).1 tt is n) (λ m s at_m. tt) (λ m. version_of c.args.by.version) c.in_ok-members.ensures.1.at z
      (subst (λ (members : List Given). IsCircuitOf c.args.by.circuit members z) (sym c.in_ok-members.ensures.1.given) of),
  c.in-Ok.ensures.stops,
)
