-- A packet, by its body.
use Rattle.std.proofs.Common.{rules, sym, ap, subst, ◌∙◌}
use Rattle.std.specs.Prelude.{MatchResult}
use Rattle.std.proofs.lemmas.Result.{MatchResult-weaker, MatchResult-from_both}
use Rattle.protocol.specs.Packets.{Body}
use Rattle.protocol.specs.Turn.{packet_turn}
use Rattle.packets.specs.Bodies.{said}
use Rattle.node_core.specs.Standing.{Answers}
use Rattle.node_core.specs.Turns.{Stirs}
use Rattle.node_core.proofs.Accepting.{prepare_adds_none, none_told}
use Rattle.node_core.proofs.instance.Instance.receive.Goals as goal

pub returns-in-Nack : goal.returns-in-Nack
returns-in-Nack c = record {
  turn = λ marks stands.
      subst (λ (y : Body). Answers c.args.row.now (packet_turn c.args.sitting.seat c.args.sitting.now marks c.args.row.now c.args.packet.now y) c.nack.result c.nack.new.self) (sym (ap said c.in-Nack.is) ∙ c.lend.ensures ∙ c.body.ensures.body)
      (c.nack.ensures.turn c.args.row.now marks stands);
  orderly = search rules;
  of = c.nack.ensures.of c.args.sitting.seat c.requires.packet.of;
  number = search rules;
}

pub returns-in-Prepare : goal.returns-in-Prepare
returns-in-Prepare c = record {
  turn = λ marks stands.
      let turn = λ (y : Body). packet_turn c.args.sitting.seat c.args.sitting.now marks c.args.row.now c.args.packet.now y in
      let quiet = prepare_adds_none c.args.sitting.seat marks c.args.row.now c.args.packet.now in
      subst (λ (y : Body). MatchResult c.prepare.result (λ x. Answers c.args.row.now (turn y) x c.args.self.now) (λ _. Stirs (turn y))) (sym (ap said c.in-Prepare.is) ∙ c.lend.ensures ∙ c.body.ensures.body)
      (MatchResult-weaker c.prepare.result (MatchResult-from_both c.prepare.result _ _ c.prepare.ensures.turn c.prepare.ensures.memory)
      (λ x t. record { is_turn = t marks; left = rw (none_told x.release ((t marks).release ∙ quiet.1), quiet.0) stands })
      (λ _ stirs. stirs marks));
  orderly = search rules;
  of = search rules;
  number = search rules;
}

pub returns-in-Accepted : goal.returns-in-Accepted
returns-in-Accepted c = record {
  turn = λ marks stands.
      let turn = λ (y : Body). packet_turn c.args.sitting.seat c.args.sitting.now marks c.args.row.now c.args.packet.now y in
      subst (λ (y : Body). MatchResult c.accepted.result (λ x. Answers c.args.row.now (turn y) x c.accepted.new.self) (λ _. Stirs (turn y))) (sym (ap said c.in-Accepted.is) ∙ c.lend.ensures ∙ c.body.ensures.body)
      (c.accepted.ensures.turn c.args.row.now marks stands);
  orderly = search rules;
  of = search rules;
  number = search rules;
}
