-- A database in memory reads back what was written.
use Rattle.std.proofs.Common.{List, sym, subst}
use Rattle.tape_frames.specs.Entries.{version_of}
use Rattle.world.specs.Founding.{Given, IsCircuitOf}
use Rattle.world.specs.Reach.{AllKept}
use Rattle.database_days.proofs.Databases.{in_memory, no_doubt, keeps, newly_is_blank}
use Rattle.database_days.proofs.plays.play_in_databases.Goals as goal

pub returns-in-Ok-play-clause-played : goal.returns-in-Ok-play-clause-played
returns-in-Ok-play-clause-played c =
    let new = c.in-Ok.ensures.new in
    let kept : AllKept in_memory.kept c.in-Ok-play.played.world = λ m s at_m. keeps s.rows.rows ((c.in-Ok-play.ensures.reached new).made m s at_m) in (
      λ z of. c.in-Ok-play.ensures.plays (newly_is_blank in_memory keeps c.in-Ok.members.items new) kept (λ _. version_of c.args.version) c.in-Ok.ensures.at z
          (subst (λ (members : List Given). IsCircuitOf c.args.circuit members z) (sym c.in-Ok.ensures.given) of),
      c.in-Ok-play.ensures.stops,
    )

pub returns-in-Ok-play-clause-agreed : goal.returns-in-Ok-play-clause-agreed
returns-in-Ok-play-clause-agreed c = c.in-Ok-play.ensures.agreed c.in-Ok.ensures.new (λ m s at_m. no_doubt)
