-- An event of a number that was released, by its kind, and a packet by its body.
use Rattle.std.proofs.Common.{rules, ◌≡◌, sym, ap, subst, ◌∙◌, refl, true}
use Rattle.std.specs.Prelude.{Ok}
use Rattle.std.proofs.lemmas.Result.{MatchResult-from_err}
use Rattle.protocol.specs.Packets.{Body}
use Rattle.protocol.specs.Proposals.{was_released}
use Rattle.protocol.specs.Turn.{number_of, packet_turn}
use Rattle.tape_frames.specs.Entries.{lent_entry}
use Rattle.packets.specs.Bodies.{said}
use Rattle.node_core.specs.declared.event.Event.{Event}
use Rattle.node_core.specs.Calls.{TurnIs}
use Rattle.node_core.specs.Handling.{IsTurnAlone}
use Rattle.node_core.specs.Turns.{event_value, Stirs}
use Rattle.node_core.proofs.Accepting.{prepare_adds_none, none_told, voting_alone}
use Rattle.node_core.proofs.Calling.{came_due, recalled}
use Rattle.node_core.proofs.Phases.{idle_alone}
use Rattle.node_core.proofs.Settling.{came}
use Rattle.node_core.proofs.Telling.{telling_alone}
use Rattle.node_core.proofs.voting.settled.Goals as goal

pub returns-in-Due : goal.returns-in-Due
returns-in-Due c = record {
  turn = λ marks released.
      subst (λ (y : Event). TurnIs c.args.seat y marks c.args.row.now (λ t. IsTurnAlone c.args.row.now marks t c.quiet.result)) (sym c.in-Due.is)
      (came_due c.args.seat c.in-Due.number c.in-Due.number c.in-Due.now marks c.args.row.now (λ t. IsTurnAlone c.args.row.now marks t c.quiet.result) refl
      (idle_alone c.args.seat c.in-Due.number c.in-Due.now marks c.args.row.now c.quiet.result (subst (λ (y : Event). was_released (number_of (event_value y)) marks ≡ true) c.in-Due.is released)
      c.quiet.ensures.nothing c.quiet.ensures.note));
  orderly = search rules;
  refused = search rules;
}

pub returns-in_ok-prepare-in-Prepare : goal.returns-in_ok-prepare-in-Prepare
returns-in_ok-prepare-in-Prepare c = record {
  turn = came c.args.seat c.args.event.now c.in-Arrived.packet c.in-Arrived.now c.args.row.now (Ok c.in_ok-prepare-in-Prepare.field-0) c.in-Arrived.is (record {
    turn = λ now marks released.
        let x = c.in_ok-prepare-in-Prepare.field-0 in
        let t = c.in_ok-prepare-in-Prepare.ensures.turn marks in
        let adds = prepare_adds_none c.args.seat marks c.args.row.now c.in-Arrived.packet in
        subst (λ (y : Body). IsTurnAlone c.args.row.now marks (packet_turn c.args.seat now marks c.args.row.now c.in-Arrived.packet y) x)
        (sym (ap said c.in-Prepare.is) ∙ c.lend.ensures ∙ c.body.ensures.body)
        (record { is_turn = t; takes_nothing = adds.0; releases_nothing = none_told x.release (t.release ∙ adds.1) });
  });
  orderly = search rules;
  refused = search rules;
}

pub returns-in_err-prepare-in-Prepare : goal.returns-in_err-prepare-in-Prepare
returns-in_err-prepare-in-Prepare c = record {
  turn = came c.args.seat c.args.event.now c.in-Arrived.packet c.in-Arrived.now c.args.row.now c.from_residual.result c.in-Arrived.is (record {
    turn = λ now marks released.
        MatchResult-from_err c.from_residual.result _ _ c.from_residual.ensures.0
        (λ _.
        subst (λ (y : Body). Stirs (packet_turn c.args.seat now marks c.args.row.now c.in-Arrived.packet y))
        (sym (ap said c.in-Prepare.is) ∙ c.lend.ensures ∙ c.body.ensures.body) (c.in_err-prepare-in-Prepare.ensures.memory marks));
  });
  orderly = search rules;
  refused = search rules;
}

pub returns-in-Promise : goal.returns-in-Promise
returns-in-Promise c = record {
  turn = came c.args.seat c.args.event.now c.in-Arrived.packet c.in-Arrived.now c.args.row.now (Ok c.quiet-in-Promise.result) c.in-Arrived.is (search rules);
  orderly = search rules;
  refused = search rules;
}

pub returns-in_ok-turn-in-Accept : goal.returns-in_ok-turn-in-Accept
returns-in_ok-turn-in-Accept c = record {
  turn = came c.args.seat c.args.event.now c.in-Arrived.packet c.in-Arrived.now c.args.row.now (Ok c.in_ok-turn-in-Accept.field-0.turn) c.in-Arrived.is (record {
    turn = λ now marks released.
        let x = c.in_ok-turn-in-Accept.field-0.turn in
        subst (λ (y : Body). IsTurnAlone c.args.row.now marks (packet_turn c.args.seat now marks c.args.row.now c.in-Arrived.packet y) x)
        (sym (ap said c.in-Accept.is) ∙ c.lend.ensures ∙ c.body.ensures.body)
        (voting_alone c.args.seat c.args.row.now c.in-Arrived.packet (lent_entry c.in-Accept.entry) marks x c.in_ok-turn-in-Accept.field-0.votes c.in_ok-turn-in-Accept.ensures.voting released);
  });
  orderly = search rules;
  refused = search rules;
}

pub returns-in_err-turn-in-Accept : goal.returns-in_err-turn-in-Accept
returns-in_err-turn-in-Accept c = record {
  turn = came c.args.seat c.args.event.now c.in-Arrived.packet c.in-Arrived.now c.args.row.now c.from_residual-in_err-turn-in-Accept.result c.in-Arrived.is (record {
    turn = λ now marks released.
        MatchResult-from_err c.from_residual-in_err-turn-in-Accept.result _ _ c.from_residual-in_err-turn-in-Accept.ensures.0
        (λ _.
        subst (λ (y : Body). Stirs (packet_turn c.args.seat now marks c.args.row.now c.in-Arrived.packet y))
        (sym (ap said c.in-Accept.is) ∙ c.lend.ensures ∙ c.body.ensures.body) (c.in_err-turn-in-Accept.ensures.stirs marks));
  });
  orderly = search rules;
  refused = search rules;
}

pub returns-in-Accepted : goal.returns-in-Accepted
returns-in-Accepted c = record {
  turn = came c.args.seat c.args.event.now c.in-Arrived.packet c.in-Arrived.now c.args.row.now (Ok c.quiet-in-Accepted.result) c.in-Arrived.is (search rules);
  orderly = search rules;
  refused = search rules;
}

pub returns-in-Nack : goal.returns-in-Nack
returns-in-Nack c = record {
  turn = came c.args.seat c.args.event.now c.in-Arrived.packet c.in-Arrived.now c.args.row.now (Ok c.quiet-in-Nack.result) c.in-Arrived.is (search rules);
  orderly = search rules;
  refused = search rules;
}

pub returns-in-Recall : goal.returns-in-Recall
returns-in-Recall c = record {
  turn = λ marks released.
      let told = c.tell_again-turn.result in
      subst (λ (y : Event). TurnIs c.args.seat y marks c.args.row.now (λ t. IsTurnAlone c.args.row.now marks t told.turn)) (sym c.in-Recall.is)
      (recalled c.args.seat c.in-Recall.number c.in-Recall.number c.in-Recall.to marks c.args.row.now (λ t. IsTurnAlone c.args.row.now marks t told.turn) refl
      (telling_alone c.args.seat c.in-Recall.number c.in-Recall.to c.args.row.now marks told.turn told.own c.tell_again-turn.ensures.telling
      (subst (λ (y : Event). was_released (number_of (event_value y)) marks ≡ true) c.in-Recall.is released)));
  orderly = search rules;
  refused = search rules;
}
