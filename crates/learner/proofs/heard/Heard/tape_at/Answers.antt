-- From the slots to the marks.
use Rattle.std.proofs.Common.{ap, refl, ◌∙◌, Some, option_map}
use Rattle.protocol.specs.Rows.{Vote}
use Rattle.protocol.specs.Learner.{latest}
use Rattle.learner.specs.Slots.{opened, least_in}
use Rattle.learner.proofs.Marks.{least_stands}
use Rattle.learner.proofs.Opening.{least_opened}
use Rattle.learner.proofs.Ripe.{ripe_least}
use Rattle.learner.proofs.heard.Heard.tape_at.Goals as goal

pub returns-in-None-clause-least : goal.returns-in-None-clause-least
returns-in-None-clause-least c = λ n marks h.
    ap (option_map (λ (v : Vote). v.entry)) (c.in-None.ensures ∙ ap (least_in c.args.ballot) c.lent.ensures.value ∙ least_opened c.args.ballot c.self.inside.members c.self.inside.slots ∙ least_stands n marks (opened c.self.inside.members c.self.inside.slots) c.args.self.now c.self.view_is h c.args.ballot (opened c.self.inside.members c.self.inside.slots) refl)

pub returns-in-None-clause-ripe : goal.returns-in-None-clause-ripe
returns-in-None-clause-ripe c = λ n marks v h e f.
    ap (option_map (λ (v : Vote). v.entry))
    (c.in-None.ensures ∙ ap (least_in c.args.ballot) c.lent.ensures.value ∙ least_opened c.args.ballot c.self.inside.members c.self.inside.slots ∙ least_stands n marks (opened c.self.inside.members c.self.inside.slots) c.args.self.now c.self.view_is h c.args.ballot (opened c.self.inside.members c.self.inside.slots) refl ∙ ripe_least c.args.self.now.members (latest n marks) c.args.ballot v e f)

pub returns-in-Some-clause-least : goal.returns-in-Some-clause-least
returns-in-Some-clause-least c = λ n marks h.
    ap Some c.entry.ensures
    ∙ ap (option_map (λ (v : Vote). v.entry)) (c.in-Some.ensures ∙ ap (least_in c.args.ballot) c.lent.ensures.value ∙ least_opened c.args.ballot c.self.inside.members c.self.inside.slots ∙ least_stands n marks (opened c.self.inside.members c.self.inside.slots) c.args.self.now c.self.view_is h c.args.ballot (opened c.self.inside.members c.self.inside.slots) refl)

pub returns-in-Some-clause-ripe : goal.returns-in-Some-clause-ripe
returns-in-Some-clause-ripe c = λ n marks v h e f.
    ap Some c.entry.ensures
    ∙ ap (option_map (λ (v : Vote). v.entry))
    (c.in-Some.ensures ∙ ap (least_in c.args.ballot) c.lent.ensures.value ∙ least_opened c.args.ballot c.self.inside.members c.self.inside.slots ∙ least_stands n marks (opened c.self.inside.members c.self.inside.slots) c.args.self.now c.self.view_is h c.args.ballot (opened c.self.inside.members c.self.inside.slots) refl ∙ ripe_least c.args.self.now.members (latest n marks) c.args.ballot v e f)
