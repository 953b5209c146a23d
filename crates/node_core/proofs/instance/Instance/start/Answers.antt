-- The next ballot is begun where no proposal is open.
use Rattle.std.proofs.Common.{rules, ap, ◌∙◌}
use Rattle.std.specs.Prelude.{not, option_map}
use Rattle.std.proofs.lemmas.Result.{MatchResult-from_err}
use Rattle.protocol.specs.Ballots.{next}
use Rattle.tape_frames.specs.Entries.{owned_entry}
use Rattle.node_core.proofs.Calling.{next_told, some_so}
use Rattle.node_core.proofs.Phases.{closed_so}
use Rattle.node_core.proofs.Stirring.{begin_stirs}
use Rattle.node_core.proofs.instance.Instance.start.Goals as goal

pub returns-in_err-begin-clause-taken : goal.returns-in_err-begin-clause-taken
returns-in_err-begin-clause-taken c = record {
  turn = λ marks stands.
      let b = some_so (next c.args.row.now.promised c.args.sitting.seat.me) (next_told c.promised.result c.args.row.now.promised c.me.result c.args.sitting.seat.me c.next.result c.is_none.result c.promised.ensures.value c.me.ensures.value c.next.ensures c.is_none.ensures ∙ ap not c.if-is_none.false) in
      MatchResult-from_err c.from_residual.result _ _ c.from_residual.ensures.0
      (λ _ _. record {
        free = record { unreleased = stands.unreleased; closed = closed_so c.args.self.now.number marks c.is_some.result c.open_ballot.result c.is_some.ensures (c.open_ballot.ensures marks stands) c.if-is_some.false };
        ballot = b.0;
        is_next = b.1;
        holds = begin_stirs c.args.sitting.seat c.args.self.now.number b.0 (option_map owned_entry c.args.own) c.args.sitting.now marks c.args.row.now;
      });
  orderly = search rules;
  of = search rules;
  number = search rules;
}

pub returns-clause-taken : goal.returns-clause-taken
returns-clause-taken c = record {
  turn = λ marks stands.
      c.in_ok-begin.ensures.turn marks stands (closed_so c.args.self.now.number marks c.is_some.result c.open_ballot.result c.is_some.ensures (c.open_ballot.ensures marks stands) c.if-is_some.false);
  orderly = search rules;
  of = search rules;
  number = search rules;
}
