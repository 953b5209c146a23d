-- The search compares the names, so that it answers by the widths.
use Rattle.std.proofs.Common.{rules, Ok, Err, nat_cmp, sym}
use Rattle.std.specs.Cmp.Lexicographic.{slice_cmp}
use Rattle.std.proofs.lemmas.Fn.{always_returns_same}
use Rattle.widths.proofs.Places.{searched}
use Rattle.widths.proofs.entry.width_among.Goals as goal

pub returns-in-Ok-clause-value : goal.returns-in-Ok-clause-value
returns-in-Ok-clause-value c =
    let facts = c.in-Ok.ensures in
    let by_name = facts.position (λ entry. slice_cmp nat_cmp entry.name c.args.name.now) (always_returns_same _ _ _ (λ a r f called. search rules)) in
    sym (searched c.args.entries.now c.args.name.now (Ok c.in-Ok.at) c.requires.names facts.bound by_name c.index-entries-at.result)

pub returns-in-Err-clause-value : goal.returns-in-Err-clause-value
returns-in-Err-clause-value c =
    let facts = c.in-Err.ensures in
    let by_name = facts.position (λ entry. slice_cmp nat_cmp entry.name c.args.name.now) (always_returns_same _ _ _ (λ a r f called. search rules)) in
    sym (searched c.args.entries.now c.args.name.now (Err c.in-Err.field-0) c.requires.names facts.bound by_name)
