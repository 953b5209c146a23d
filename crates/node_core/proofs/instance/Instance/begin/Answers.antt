-- The next ballot is begun.
use Rattle.std.proofs.Common.{rules, ◌≡◌, refl, sym, ap, subst, ◌∙◌, ◌∷◌, Option, Some}
use Rattle.std.specs.Prelude.{option_map}
use Rattle.std.proofs.lemmas.Result.{MatchResult-weaker}
use Rattle.protocol.specs.Ballots.{Ballot, next}
use Rattle.protocol.specs.Rows.{Vote}
use Rattle.tape_frames.specs.Entries.{owned_entry}
use Rattle.protocol.specs.Marks.{Began}
use Rattle.proposer.specs.InHand.{StandsFor as ProposalStandsFor}
use Rattle.node_core.proofs.Phases.{next_above, one_more}
use Rattle.node_core.proofs.instance.Instance.begin.Goals as goal

pub returns : goal.returns
returns c = record {
  turn = MatchResult-weaker c.begun.result c.begun.ensures.turn
      (λ x took marks stands closed.
      let n = c.args.self.now.number in
      let b = c.ballot-ballot.result in
      let first : next c.args.row.now.promised c.args.sitting.seat.me ≡ Some b =
      ap (λ (p : Option Ballot). next p c.args.sitting.seat.me) (sym c.promised.ensures.value) ∙ c.in-Ok.ensures.begun.ballot ∙ ap (λ (a : Ballot). Some a) (sym c.ballot-ballot.ensures.value) in
      let begun = subst (λ (r : Option Vote). ProposalStandsFor c.in-Ok.proposal n (Began n b (option_map owned_entry c.args.own) r c.args.sitting.now ∷ marks)) (c.in_ok-report.ensures ∙ c.vote.ensures.value)
      (subst (λ (a : Ballot). ProposalStandsFor c.in-Ok.proposal n (Began n a (option_map owned_entry c.args.own) c.in_ok-report.report c.args.sitting.now ∷ marks)) (sym c.ballot-ballot.ensures.value) (c.in-Ok.ensures.begun.stands n marks stands.unreleased closed)) in
      record {
        free = record { unreleased = stands.unreleased; closed = closed };
        ballot = b;
        is_next = first;
        holds = took marks (option_map owned_entry c.args.own) (next_above c.args.row.now.promised c.args.sitting.seat.me b first)
            (one_more c.other_marks_pass.ensures c.args.self.now c.in-Ok.proposal (Began n b (option_map owned_entry c.args.own) c.args.row.now.vote c.args.sitting.now) marks refl refl stands begun);
      })
      (λ _ _. tt);
  orderly = search rules;
  of = search rules;
  number = search rules;
}
