-- Where nothing follows the dash there is no last number.
use Rattle.std.proofs.Common.{rules, ◌≡◌, ◌∙◌, ℕ, List, None, length, sym, ap}
use Rattle.std.proofs.lemmas.Bool.{eqb-true}
use Rattle.folders.proofs.SpanNames.{no_end}
use Rattle.folders.proofs.names.span_between.Goals as goal

pub returns-then-is_empty-clause-all : goal.returns-then-is_empty-clause-all
returns-then-is_empty-clause-all c = λ s is front back.
    let empty : length c.args.back.now ≡ 0 = eqb-true (length c.args.back.now) 0 (sym c.if-is_empty.ensures) in
    let none : s.last ≡ None = no_end s.first s.last is.ends (sym (ap (λ (l : List ℕ). length l) back) ∙ empty) in
    search rules
