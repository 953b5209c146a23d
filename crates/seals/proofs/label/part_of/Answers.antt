use Rattle.std.proofs.Common.{List, ℕ, take, ap, ◌∙◌}
use Rattle.std.proofs.lemmas.List.{take_min}
use Rattle.seals.proofs.label.part_of.Goals as goal

pub returns : goal.returns
returns c =
    let rest = c.split_at.result.1.now in
    c.split_at-2.ensures.front ∙ ap (λ (n : ℕ). take n rest) c.min.ensures ∙ take_min 1192 rest ∙ ap (λ (l : List ℕ). take 1192 l) c.split_at.ensures.back
