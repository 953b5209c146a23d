-- One act more.
use Rattle.std.proofs.Common.{rules, ◌≡◌, ◌++◌, ◌∷◌, [], ap, ◌∙◌, append-nil}
use Rattle.std.proofs.lemmas.Grind.{flat_map-append}
use Rattle.folders.specs.Acting.{acts_of, act_of}
use Rattle.folders.proofs.memory.keep.Goals as goal

pub returns-clause-ok : goal.returns-clause-ok
returns-clause-ok c =
    let more : c.push.new.self.items ≡ c.args.acts.now.items ++ c.args.act ∷ [] = search rules in
    ap acts_of more ∙ flat_map-append act_of c.args.acts.now.items (c.args.act ∷ []) ∙ ap (λ l. acts_of c.args.acts.now.items ++ l) (append-nil (act_of c.args.act))
