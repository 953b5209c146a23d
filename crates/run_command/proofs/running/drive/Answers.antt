-- The file is taken away, and then the station is driven.
use Rattle.std.proofs.Common.{rules, ◌≡◌, ◌∙◌, codes, refl}
use Rattle.driver.specs.Events.{ended}
use Rattle.folders.specs.Doings.{removed_file}
use Rattle.driver.specs.Driving.{post_of, Anyhow}
use Rattle.driver.proofs.Driven.{came_from, left_so, seen_from, went_on}
use Rattle.run_command.specs.Standing.{Texts}
use Rattle.offers.specs.Book.{IsFresh}
use Rattle.run_command.specs.Living.{kept_of, texts_of}
use Rattle.run_command.specs.Running.{tells}
use Rattle.run_command.specs.Waiting.{none_waits}
use Rattle.run_command.specs.Working.{Looked}
use Rattle.run_command.proofs.Lives.{all_start, emptied, tells_start}
use Rattle.run_command.proofs.Looking.{follows_same, looks_may}
use Rattle.run_command.proofs.running.drive.Goals as goal

pub returns : goal.returns
returns g c =
    let doings = g.F.Folders.doings in
    let refuses = g.F.Folders.refuses in
    let texts : Texts = c.args.outset.texts in
    let desk = c.new-desk.result in
    let last = c.run.new.self in
    let end = ended c.run.result in
    let f = c.args.machine.now.outside in
    let mid = c.remove_stop.new.folders in
    let h = last.sink.folders.now in
    let r = last.sink.plant.now.waits in
    let m = c.new-papers.result.book in
    let q = c.new-waits.result in
    let none : q ≡ none_waits = c.new-waits.ensures in
    let n = last.sink.plant.now.papers.book in
    let fresh : IsFresh m = c.new-papers.ensures.book in
    let stop = removed_file (codes "stop") in
    let gone : Looked (doings f) (doings mid) m m =
    record { looks = looks_may (doings f) (doings mid) stop refl (c.remove_stop.ensures); follows = follows_same m m refl } in
    let came = came_from _ _ (post_of last) _ _ _ end Anyhow c.new-driver.ensures.is c.run.ensures.drove in
    let same : last.sink.folders.ghost_name ≡ _ = came.1.0.0 ∙ c.new-desk.ensures.folders in
    let seen = seen_from _ (tells texts doings refuses) _ (post_of last) _ _ _ end Anyhow f h c.new-driver.ensures.is c.run.ensures.drove
    (λ log p. tells_start texts doings (texts_of desk) f mid h q r m n log (kept_of desk) c.new-desk.ensures.texts none fresh gone c.new-desk.ensures.kept p.1)
    (λ log done p.
    let out = went_on c.run.result _ c.run.ensures.handed done in
    all_start texts doings refuses (texts_of desk) f mid h q r m n log (kept_of desk) c.new-desk.ensures.texts none fresh gone c.new-desk.ensures.kept
    (emptied doings refuses (kept_of out.0) (kept_of last.sink) out.2) p.1) in
    left_so _ _ last.station.now _ last.wire.now _ h _ end Anyhow (search rules) (search rules) (search rules) seen
