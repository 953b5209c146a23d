use Rattle.std.proofs.Common.{ℕ, List, length, sym, ap, ◌∙◌}
use Rattle.rolls.specs.Votes.{only_numbers}
use Rattle.rolls.proofs.Flags.{votes_are}
use Rattle.rolls.proofs.reading.votes_of.Goals as goal

pub invariant_of-result : goal.invariant_of-result
invariant_of-result c =
    votes_are c.in_ok-page.page c.copied.result.items c.only_numbers.ensures.below
    (ap (λ (l : List ℕ). length l) c.copied.ensures.same ∙ c.split_at-2.ensures.front_len) c.copied.ensures.small
    (ap (λ (l : List ℕ). only_numbers c.in_ok-page.page l) c.copied.ensures.same ∙ sym c.only_numbers.ensures.exact ∙ c.if-not-only_numbers.false)
