-- The number is settled.
use Rattle.std.proofs.Common.{rules, sym, subst, ◌∙◌, None}
use Rattle.std.specs.Prelude.{if◌then◌else◌}
use Rattle.std.proofs.lemmas.Result.{err_from_is_err_and, MatchResult-from_err}
use Rattle.node_core.specs.Standing.{Moves, instance_at, seat_of}
use Rattle.node_core.proofs.Calling.{turn_so, released_stirs}
use Rattle.node_core.proofs.node.NodeCore.run_turn.Goals as goal

pub returns : goal.returns
returns c = record {
  ok = λ marks h.
      let t = c.in_ok-turn.ensures.turn marks h in
      record {
        free = t.free;
        turn = t.turn;
        is_the_turn = t.is_the_turn;
        took = record {
          is_turn = t.holds.is_turn;
          stands = t.holds.settled c.settle.new.self (subst (λ r. Moves c.act.new.self c.number-number.result (if r then None else instance_at c.act.new.self c.number-number.result) r c.settle.new.self) c.is_some.ensures c.in_ok-settle.ensures.moves);
        };
      };
  orderly = search rules;
  memory = search rules;
  refused = search rules;
  seat = search rules;
}

pub returns-in_err-settle : goal.returns-in_err-settle
returns-in_err-settle c = record {
  ok = search rules;
  orderly = search rules;
  memory = MatchResult-from_err c.from_residual-in_err-settle.result _ _ c.from_residual-in_err-settle.ensures.0
      (λ _ _ marks h.
      turn_so (seat_of c.args.self.now) c.args.event marks c.args.row.now _ _ (c.in_ok-turn.ensures.turn marks h)
      (λ t is settles. released_stirs c.args.row.now t c.in_ok-turn.turn settles.is_turn c.in_ok-turn.ensures.orderly.quiet (sym c.is_some.ensures ∙ c.in_err-settle.ensures.memory)));
  refused = search rules;
  seat = search rules;
}

pub returns-in_err-turn : goal.returns-in_err-turn
returns-in_err-turn c = record {
  ok = search rules;
  orderly = search rules;
  memory = let p = err_from_is_err_and c.from_residual.result c.from_residual.ensures.1 in
      rw (p.1, p.2) (λ is marks h. c.in_err-turn.ensures.turn marks h is);
  refused = search rules;
  seat = search rules;
}
