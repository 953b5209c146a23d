-- A member of one proposes at once: the proposal is open as it was just begun.
use Rattle.std.proofs.Common.{rules, ◌≡◌, refl, sym, ◌∙◌, [], ◌∷◌, true}
use Rattle.std.specs.Prelude.{◌==◌}
use Rattle.std.proofs.lemmas.Bool.{eq-eqb}
use Rattle.std.proofs.lemmas.Result.{MatchResult-weaker}
use Rattle.protocol.specs.Marks.{Began}
use Rattle.protocol.specs.Proposals.{since_began}
use Rattle.node_core.proofs.Phases.{opening, began_opens, none_since}
use Rattle.node_core.proofs.instance.Instance.begun.Goals as goal

pub returns-then-members-eq1 : goal.returns-then-members-eq1
returns-then-members-eq1 c = record {
  turn = MatchResult-weaker c.propose.result c.propose.ensures.turn
      (λ x h marks own above stands.
      let alone : (c.args.sitting.seat.members == 1) ≡ true = eq-eqb c.args.sitting.seat.members 1 (sym c.members.ensures.value ∙ c.if-members-eq1.true) in
      let since : since_began c.args.self.now.number (Began c.args.self.now.number c.args.ballot own c.args.row.now.vote c.args.sitting.now ∷ marks) ≡ [] = none_since c.args.self.now.number c.args.ballot own c.args.row.now.vote c.args.sitting.now marks in
      let turn = h (Began c.args.self.now.number c.args.ballot own c.args.row.now.vote c.args.sitting.now ∷ marks) (opening c.args.ballot own c.args.row.now.vote c.args.sitting.now) above stands (began_opens c.args.self.now.number c.args.ballot own c.args.row.now.vote c.args.sitting.now marks stands.unreleased) refl in
      rw alone (rw since at turn))
      (λ _ _. tt);
  orderly = search rules;
  of = search rules;
  number = search rules;
}
