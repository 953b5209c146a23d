-- The counts are those of the numbers with the one that is added.
use Rattle.std.proofs.Common.{◌≡◌, ◌+◌, Bool, sym, ap, subst, ◌∙◌}
use Rattle.std.specs.Prelude.{slice_index, slice_set, if◌then◌else◌}
use Rattle.std.proofs.lemmas.Bool.{not-true, not-false}
use Rattle.rolls.specs.Pages.{page_of}
use Rattle.rolls.specs.Counts.{raised}
use Rattle.roll_call.specs.Held.{AreCounted, HeldValue, IsVoted}
use Rattle.roll_call.proofs.Counting.{counted_more, counted_same, raised_is}
use Rattle.roll_call.proofs.held.HeldVotes.add.Goals as goal

pub invariant_of-self : goal.invariant_of-self
invariant_of-self c =
    let n = c.args.number in
    let is_number = c.page_of-page.ensures.number in
    let old = not-true _ (sym c.insert.ensures.new ∙ c.if-insert.true) in
    let is = c.raise.ensures ∙ ap (raised c.self.inside.counts) c.page_of-page.ensures.is
    ∙ raised_is c.self.inside.votes c.insert.new.self c.self.inside.counts n is_number.0 is_number.1 c.self.invariant old c.insert.ensures.same c.insert.ensures.others in
    subst (AreCounted c.insert.new.self) (sym is)
    (counted_more c.self.inside.votes c.insert.new.self c.self.inside.counts n is_number.0 is_number.1 c.self.invariant old c.insert.ensures.same c.insert.ensures.others)

pub invariant_of-self-else-insert : goal.invariant_of-self-else-insert
invariant_of-self-else-insert c =
    let old = not-false _ (sym c.insert.ensures.new ∙ c.if-insert.false) in
    counted_same c.self.inside.votes c.insert.new.self c.self.inside.counts c.args.number c.self.invariant (c.insert.ensures.same ∙ sym old) c.insert.ensures.others

pub returns-then-insert : goal.returns-then-insert
returns-then-insert c =
    let n = c.args.number in
    let is_number = c.page_of-page.ensures.number in
    let old = not-true _ (sym c.insert.ensures.new ∙ c.if-insert.true) in
    let is = c.raise.ensures ∙ ap (raised c.self.inside.counts) c.page_of-page.ensures.is
    ∙ raised_is c.self.inside.votes c.insert.new.self c.self.inside.counts n is_number.0 is_number.1 c.self.invariant old c.insert.ensures.same c.insert.ensures.others in
    subst (λ (h : HeldValue). IsVoted n h (record { votes = c.insert.new.self; counts = c.raise.new.self })) c.self.view_is
    (record {
      same = c.insert.ensures.same;
      others = c.insert.ensures.others;
      counts = is ∙ ap (λ (b : Bool). if b then c.self.inside.counts else slice_set c.self.inside.counts (page_of n) (slice_index c.self.inside.counts (page_of n) + 1)) (sym old);
    })
