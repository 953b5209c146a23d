use Rattle.std.proofs.Common.{rules, ◌≡◌, None, ◌∙◌}
use Rattle.acceptor_store.proofs.TestingLemmas.{damage_is, rises_is, sound_listing}
use Rattle.acceptor_store.proofs.row_test.RowTest.verdict.Goals as goal

pub returns-in-Some-clause-refuses : goal.returns-in-Some-clause-refuses
returns-in-Some-clause-refuses c layout trees h =
    let found = damage_is layout c.args.self.now h.0 h.2 in
    (h.0, h.1, search rules)

pub returns-then-self-clause-sound : goal.returns-then-self-clause-sound
returns-then-self-clause-sound c layout trees h =
    let none : c.args.self.now.damage ≡ None = search rules in
    sound_listing layout trees c.args.self.now c.rising_is_listed.ensures none c.if-self.true h

pub returns-else-self-clause-refuses : goal.returns-else-self-clause-refuses
returns-else-self-clause-refuses c layout trees h = (h.0, h.1, rises_is layout c.args.self.now h.0 h.2 ∙ c.if-self.false)
