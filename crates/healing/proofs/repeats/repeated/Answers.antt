-- What is asked for once more is recalled, and stands among the sorted numbers.
use Rattle.std.proofs.Common.{◌≡◌, ◌≤◌, ℕ, true}
use Rattle.protocol.specs.Limits.{last_number}
use Rattle.healing.specs.Cases.{awaited_in}
use Rattle.healing.specs.Lists.{is_among}
use Rattle.healing.specs.Healing.{case_in}
use Rattle.healing.proofs.Repeating.{among_sorted, awaited_recalled, none_kept, of_batch}
use Rattle.healing.proofs.repeats.repeated.Goals as goal

pub returns-clause-all : goal.returns-clause-all
returns-clause-all c =
    let entries = c.args.cases.now.entries in
    let now = c.args.now in
    of_batch c.batch_with.result c.awaited.result.items
    (λ batch. (n : ℕ) → 1 ≤ n → n ≤ last_number → awaited_in (case_in entries n) now ≡ true → is_among c.args.recalled.now.items n ≡ true → is_among batch n ≡ true)
    c.batch_with.ensures.some
    (λ n low high is among. c.awaited.ensures.all n low high is
    (rw c.as_slice.ensures.value (among_sorted _ _ _ n c.as_mut_slice.ensures.value c.sort_unstable.ensures.len c.sort_unstable.ensures.permutation
    (c.still_recalled-numbers.ensures n (awaited_recalled (case_in entries n) now is) among))))

pub returns-clause-none : goal.returns-clause-none
returns-clause-none c none n low high among =
    let entries = c.args.cases.now.entries in
    let now = c.args.now in
    none_kept (awaited_in (case_in entries n) now) c.awaited.result.items n (c.batch_with.ensures.none none)
    (λ is. c.awaited.ensures.all n low high is
    (rw c.as_slice.ensures.value (among_sorted _ _ _ n c.as_mut_slice.ensures.value c.sort_unstable.ensures.len c.sort_unstable.ensures.permutation
    (c.still_recalled-numbers.ensures n (awaited_recalled (case_in entries n) now is) among))))
