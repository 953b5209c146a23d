-- Each event's turn is that of the definitions.
use Rattle.std.proofs.Common.{rules, ◌≡◌, ℕ, sym, ap, subst, ◌∙◌, List}
use Rattle.std.specs.Prelude.{Result, MatchResult}
use Rattle.std.proofs.lemmas.Result.{MatchResult-weaker, MatchResult-from_err}
use Rattle.protocol.specs.Rows.{Row}
use Rattle.protocol.specs.Marks.{Mark}
use Rattle.protocol.specs.Turn.{number_of}
use Rattle.node_core.specs.declared.instance.Instance.{Instance}
use Rattle.node_core.specs.declared.event.Event.{Event}
use Rattle.node_core.specs.declared.turn.Turn.{Turn}
use Rattle.node_core.specs.declared.turn.CoreRefusal.{CoreRefusal}
use Rattle.node_core.specs.declared.turn.CoreRefusal.TheVariants as refusals
use Rattle.node_core.specs.Calls.{TurnIs}
use Rattle.protocol.specs.Seats.{Seat}
use Rattle.node_core.specs.Standing.{Answers}
use Rattle.node_core.specs.Turns.{event_value, Stirs}
use Rattle.node_core.proofs.Calling.{offered, sought, came_due, packet_came, recalled}
use Rattle.node_core.proofs.instance.Instance.handle.Goals as goal

abbrev Taken : Seat → Event → List Mark → Row → Instance → Result Turn CoreRefusal → Type 0
Taken s event marks row d r = MatchResult r (λ x. TurnIs s event marks row (λ t. Answers row t x d)) (λ e. e ≡ refusals.OutOfMemory → TurnIs s event marks row Stirs)

its_number : (event other : Event) (n : ℕ) → event ≡ other → number_of (event_value event) ≡ n → number_of (event_value other) ≡ n
its_number event other n is number = sym (ap (λ (e : Event). number_of (event_value e)) is) ∙ number

pub returns-in-Offer-clause-taken : goal.returns-in-Offer-clause-taken
returns-in-Offer-clause-taken c = record {
  turn = λ marks stands.
      let same = its_number c.args.event _ c.args.self.now.number c.in-Offer.is c.requires.number in
      subst (λ (y : Event). Taken c.args.seat y marks c.args.row.now c.start.new.self c.start.result) (sym c.in-Offer.is)
      (MatchResult-weaker c.start.result (c.start.ensures.taken.turn marks stands)
      (λ x h. offered c.args.seat c.args.self.now.number c.in-Offer.number c.in-Offer.entry c.in-Offer.now marks c.args.row.now _ same h)
      (λ e h is. offered c.args.seat c.args.self.now.number c.in-Offer.number c.in-Offer.entry c.in-Offer.now marks c.args.row.now _ same (h is)));
  orderly = search rules;
  of = search rules;
  number = search rules;
}

pub returns-in-Seek-clause-taken : goal.returns-in-Seek-clause-taken
returns-in-Seek-clause-taken c = record {
  turn = λ marks stands.
      let same = its_number c.args.event _ c.args.self.now.number c.in-Seek.is c.requires.number in
      subst (λ (y : Event). Taken c.args.seat y marks c.args.row.now c.start-in-Seek.new.self c.start-in-Seek.result) (sym c.in-Seek.is)
      (MatchResult-weaker c.start-in-Seek.result (c.start-in-Seek.ensures.taken.turn marks stands)
      (λ x h. sought c.args.seat c.args.self.now.number c.in-Seek.number c.in-Seek.now marks c.args.row.now _ same h)
      (λ e h is. sought c.args.seat c.args.self.now.number c.in-Seek.number c.in-Seek.now marks c.args.row.now _ same (h is)));
  orderly = search rules;
  of = search rules;
  number = search rules;
}

pub returns-in_ok-due-in-Due-clause-taken : goal.returns-in_ok-due-in-Due-clause-taken
returns-in_ok-due-in-Due-clause-taken c = record {
  turn = λ marks stands.
      let same = its_number c.args.event _ c.args.self.now.number c.in-Due.is c.requires.number in
      subst (λ (y : Event). TurnIs c.args.seat y marks c.args.row.now (λ t. Answers c.args.row.now t c.in_ok-due-in-Due.field-0 c.due.new.self)) (sym c.in-Due.is)
      (came_due c.args.seat c.args.self.now.number c.in-Due.number c.in-Due.now marks c.args.row.now (λ t. Answers c.args.row.now t c.in_ok-due-in-Due.field-0 c.due.new.self) same (c.in_ok-due-in-Due.ensures.turn marks stands));
  orderly = search rules;
  of = search rules;
  number = search rules;
}

pub returns-in_err-due-in-Due-clause-taken : goal.returns-in_err-due-in-Due-clause-taken
returns-in_err-due-in-Due-clause-taken c = record {
  turn = λ marks stands.
      let same = its_number c.args.event _ c.args.self.now.number c.in-Due.is c.requires.number in
      MatchResult-from_err c.from_residual.result _ _ c.from_residual.ensures.0
      (λ _ _.
      subst (λ (y : Event). TurnIs c.args.seat y marks c.args.row.now Stirs) (sym c.in-Due.is)
      (came_due c.args.seat c.args.self.now.number c.in-Due.number c.in-Due.now marks c.args.row.now Stirs same
      (c.in_err-due-in-Due.ensures.turn marks stands)));
  orderly = search rules;
  of = search rules;
  number = search rules;
}

pub returns-in_err-receive-in-Arrived-clause-taken : goal.returns-in_err-receive-in-Arrived-clause-taken
returns-in_err-receive-in-Arrived-clause-taken c = record {
  turn = λ marks stands.
      MatchResult-from_err c.from_residual-in_err-receive-in-Arrived.result _ _ c.from_residual-in_err-receive-in-Arrived.ensures.0
      (λ _ _.
      subst (λ (y : Event). TurnIs c.args.seat y marks c.args.row.now Stirs) (sym c.in-Arrived.is)
      (packet_came c.args.seat c.in-Arrived.packet c.in-Arrived.now marks c.args.row.now Stirs (c.in_err-receive-in-Arrived.ensures.turn marks stands)));
  orderly = search rules;
  of = search rules;
  number = search rules;
}

pub returns-in_ok-recall-in-Recall-clause-taken : goal.returns-in_ok-recall-in-Recall-clause-taken
returns-in_ok-recall-in-Recall-clause-taken c = record {
  turn = λ marks stands.
      let same = its_number c.args.event _ c.args.self.now.number c.in-Recall.is c.requires.number in
      subst (λ (y : Event). TurnIs c.args.seat y marks c.args.row.now (λ t. Answers c.args.row.now t c.in_ok-recall-in-Recall.field-0 c.recall.new.self)) (sym c.in-Recall.is)
      (recalled c.args.seat c.args.self.now.number c.in-Recall.number c.in-Recall.to marks c.args.row.now (λ t. Answers c.args.row.now t c.in_ok-recall-in-Recall.field-0 c.recall.new.self) same
      (c.in_ok-recall-in-Recall.ensures.turn marks stands));
  orderly = search rules;
  of = search rules;
  number = search rules;
}

pub returns-in_err-recall-in-Recall-clause-taken : goal.returns-in_err-recall-in-Recall-clause-taken
returns-in_err-recall-in-Recall-clause-taken c = record {
  turn = λ marks stands.
      let same = its_number c.args.event _ c.args.self.now.number c.in-Recall.is c.requires.number in
      MatchResult-from_err c.from_residual-in_err-recall-in-Recall.result _ _ c.from_residual-in_err-recall-in-Recall.ensures.0
      (λ _ _.
      subst (λ (y : Event). TurnIs c.args.seat y marks c.args.row.now Stirs) (sym c.in-Recall.is)
      (recalled c.args.seat c.args.self.now.number c.in-Recall.number c.in-Recall.to marks c.args.row.now Stirs same
      (c.in_err-recall-in-Recall.ensures.turn marks stands)));
  orderly = search rules;
  of = search rules;
  number = search rules;
}
