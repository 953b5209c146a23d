-- The release is kept in mind, or its files wait.
use Rattle.offers.specs.declared.stage.Landing.TheVariants.{Ended}
use Rattle.run_command.specs.Story.{IsReleasedIn}
use Rattle.run_command.proofs.Looking.{follows_landed, keeps_follows, keeps_kept_or}
use Rattle.run_command.proofs.steps.keep.Goals as goal

pub returns-in-Ok : goal.returns-in-Ok
returns-in-Ok c =
    keeps_kept_or c.args.release.now c.in-Ok.entry c.args.now c.args.book.now c.released.new.self c.released.result c.released.ensures.ok c.released.ensures.err

pub returns-in-Err : goal.returns-in-Err
returns-in-Err c =
    keeps_follows (λ log. IsReleasedIn log c.args.release.now) _ _ (follows_landed _ _ _ Ended _ c.ended.ensures.same)
