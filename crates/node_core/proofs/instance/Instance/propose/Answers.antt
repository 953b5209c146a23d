-- What is picked is the pick of the definitions.
use Rattle.std.proofs.Common.{rules, ◌≡◌, refl, sym, ap, subst, ◌∙◌, ◌∷◌, Some, None}
use Rattle.std.specs.Prelude.{option_map}
use Rattle.std.proofs.lemmas.Result.{MatchResult-weaker}
use Rattle.protocol.specs.Ballots.{Ballot}
use Rattle.tape_frames.specs.Entries.{owned_entry}
use Rattle.protocol.specs.Rows.{raised}
use Rattle.protocol.specs.Marks.{Proposed}
use Rattle.protocol.specs.Proposals.{counted, pick, since_began}
use Rattle.proposer.specs.InHand.{StandsFor as ProposalStandsFor}
use Rattle.node_core.proofs.Phases.{proposal_stands, one_open, one_more, still}
use Rattle.node_core.proofs.instance.Instance.propose.Goals as goal

pub returns-in-Some-2 : goal.returns-in-Some-2
returns-in-Some-2 c = record {
  turn = let n = c.args.self.now.number in
      let of = rw c.in-Some.is at c.requires.of.proposal in
      MatchResult-weaker c.vote_for.result c.vote_for.ensures.turn
      (λ x h marks o above stands opens at.
      let p = proposal_stands c.args.self.now c.in-Some.proposal marks c.in-Some.is stands in
      let chosen : pick o.own (counted c.args.sitting.seat.me n o (since_began n marks)) ≡ Some (owned_entry c.in-Some-2.entry) =
      ap (λ m. pick o.own (counted m n o (since_began n marks))) (sym of.0) ∙ sym (c.in_ok-picked.ensures n marks o p opens) ∙ ap (option_map owned_entry) c.in-Some-2.is in
      let proposed = subst (λ (b : Ballot). ProposalStandsFor c.proposed.new.self n (Proposed n b c.args.sitting.now ∷ marks)) (p.its_ballot ∙ one_open n marks o p.opening opens p.is_open ∙ at) (c.proposed.ensures.stands n marks p) in
      rw chosen (h c.args.sitting.now marks (raised c.args.row.now c.args.ballot) (one_more c.other_marks_pass.ensures c.args.self.now c.proposed.new.self (Proposed n c.args.ballot c.args.sitting.now) marks refl refl stands proposed)))
      (λ _ _. tt);
  orderly = search rules;
  of = search rules;
  number = search rules;
}

pub returns-in_ok-row-in-None : goal.returns-in_ok-row-in-None
returns-in_ok-row-in-None c = record {
  turn = λ marks o above stands opens at.
      let n = c.args.self.now.number in
      let of = rw c.in-Some.is at c.requires.of.proposal in
      let p = proposal_stands c.args.self.now c.in-Some.proposal marks c.in-Some.is stands in
      let chosen : pick o.own (counted c.args.sitting.seat.me n o (since_began n marks)) ≡ None =
      ap (λ m. pick o.own (counted m n o (since_began n marks))) (sym of.0) ∙ sym (c.in_ok-picked.ensures n marks o p opens) ∙ ap (option_map owned_entry) c.in-None.is in
      rw chosen (record {
        is_turn = record { row_after = rw c.close.ensures.row (c.in_ok-row-in-None.ensures.row above); out = rw c.close.ensures.mail refl; release = ap (option_map owned_entry) c.close.ensures.release; note = rw c.close.ensures.note refl };
        left = rw c.close.ensures.release (c.close.ensures.stands marks (still c.args.self.now c.in-Some.proposal marks stands p));
      });
  orderly = search rules;
  of = c.close.ensures.of c.args.sitting.seat (record { proposal = rw c.in-Some.is at c.requires.of.proposal; heard = c.requires.of.heard });
  number = search rules;
}
