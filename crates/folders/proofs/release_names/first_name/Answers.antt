-- What stands before the last dot, and what follows it.
use Rattle.std.proofs.Common.{inr, ◌≡◌, ◌++◌, ◌∙◌, ℕ, List, take, drop, sym, ap}
use Rattle.std.proofs.lemmas.List.{take-append-drop}
use Rattle.folders.proofs.release_names.first_name.Goals as goal

pub returns-in-Some : goal.returns-in-Some
returns-in-Some c =
    let cases = c.in-Some.ensures.cases in
    let name = c.args.name.now in
    let front : c.in-Some.front.now ≡ take cases.0 name = cases.3 in
    inr (drop cases.0 name, sym (take-append-drop cases.0 name) ∙ ap (λ (l : List ℕ). l ++ drop cases.0 name) (sym front))
