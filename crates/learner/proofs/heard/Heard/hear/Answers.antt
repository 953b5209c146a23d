-- From the slots before to those with the vote.
use Rattle.std.proofs.Common.{◌≡◌, ap, ◌∙◌, option_map, arith, true, false}
use Rattle.protocol.specs.Ballots.{IsMember}
use Rattle.protocol.specs.Rows.{Vote}
use Rattle.tape_frames.specs.Entries.{lent_entry}
use Rattle.learner.specs.Slots.{opened, written}
use Rattle.learner.proofs.Marks.{is_not_newer, after_stands, after_ripe}
use Rattle.learner.proofs.heard.Heard.hear.Goals as goal

pub returns-in_err-keep-clause-no_memory : goal.returns-in_err-keep-clause-no_memory
returns-in_err-keep-clause-no_memory c = λ n marks v h here below.
    let slots = opened c.self.inside.members c.self.inside.slots in
    let member : IsMember c.args.self.now.members c.args.member = (omega (arith, c.range_of_member.ensures), c.requires) in
    let taken = c.keep.ensures.no_memory (is_not_newer n marks slots c.args.self.now c.self.view_is h c.args.member member c.slots_of_members.ensures.read c.args.ballot v here below) in
    let refused = c.in_err-keep.was in
    absurd (let bad : false ≡ true = rw refused at taken in cc)

pub returns-clause-ripe : goal.returns-clause-ripe
returns-clause-ripe c = λ n marks h.
    let slots = opened c.self.inside.members c.self.inside.slots in
    let member : IsMember c.args.self.now.members c.args.member = (omega (arith, c.range_of_member.ensures), c.requires) in
    c.chosen_at.ensures
    ∙ ap (option_map (λ (v : Vote). v.ballot))
    (after_ripe n marks slots c.args.self.now c.self.view_is h c.args.member member c.slots_of_members.ensures.read c.slots_of_members.ensures.set c.args.ballot (lent_entry c.args.entry)
    c.slots_of_members.ensures.many (written c.keep.new.slots) (c.in_ok-keep.ensures.written ∙ c.in_ok-keep.ensures.kept) c.slots_of_members.ensures.count)

pub returns-clause-stands : goal.returns-clause-stands
returns-clause-stands c = λ n marks h.
    let slots = opened c.self.inside.members c.self.inside.slots in
    let member : IsMember c.args.self.now.members c.args.member = (omega (arith, c.range_of_member.ensures), c.requires) in
    after_stands n marks slots c.args.self.now c.self.view_is h c.args.member member c.slots_of_members.ensures.read c.slots_of_members.ensures.set c.args.ballot (lent_entry c.args.entry)
    c.slots_of_members.ensures.many (opened c.self.inside.members c.keep.new.slots) c.in_ok-keep.ensures.kept
