-- From the slots to the marks.
use Rattle.std.proofs.Common.{ap, refl, ◌∙◌, option_map}
use Rattle.protocol.specs.Rows.{Vote}
use Rattle.protocol.specs.Learner.{latest}
use Rattle.learner.specs.Slots.{opened}
use Rattle.learner.proofs.Marks.{least_stands}
use Rattle.learner.proofs.Opening.{least_opened}
use Rattle.learner.proofs.Ripe.{ripe_least}
use Rattle.learner.proofs.heard.Heard.release_at.Goals as goal

pub returns-clause-least : goal.returns-clause-least
returns-clause-least c = λ n marks h.
    let slots = opened c.self.inside.members c.self.inside.slots in
    c.give_up.ensures.entry
    ∙ ap (option_map (λ (v : Vote). v.entry)) (least_opened c.args.ballot c.self.inside.members c.self.inside.slots ∙ least_stands n marks slots c.args.self.now c.self.view_is h c.args.ballot slots refl)

pub returns-clause-ripe : goal.returns-clause-ripe
returns-clause-ripe c = λ n marks v h e f.
    let slots = opened c.self.inside.members c.self.inside.slots in
    c.give_up.ensures.entry
    ∙ ap (option_map (λ (v : Vote). v.entry))
    (least_opened c.args.ballot c.self.inside.members c.self.inside.slots ∙ least_stands n marks slots c.args.self.now c.self.view_is h c.args.ballot slots refl ∙ ripe_least c.args.self.now.members (latest n marks) c.args.ballot v e f)
