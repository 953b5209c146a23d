use Rattle.std.proofs.Common.{◌≡◌, List, ℕ, refl, subst, ap, ◌∙◌}
use Rattle.seals.specs.Sealing.{label_of}
use Rattle.seals.specs.Parts.{Parts, IsSealedAs}
use Rattle.seals.proofs.unfinished.Unfinished.finish.Goals as goal

pub returns-in-Some-clause-some : goal.returns-in-Some-clause-some
returns-in-Some-clause-some c =
    let bytes = c.self.inside.bytes.items in
    let label = c.self.inside.label in
    let is_of = c.is_of.ensures.0 c.if-is_of.true ∙ ap (λ (l : List ℕ). label_of c.in-Some.key.now label.from label.to l) c.deref.ensures.value in
    subst (λ (p : Parts). (bytes ≡ p.bytes) × IsSealedAs c.args.keys.now p.place p.label bytes) c.self.view_is (refl, (c.in-Some.key.now, c.in-Some.ensures.some, is_of))
