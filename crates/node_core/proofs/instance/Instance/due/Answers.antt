-- The lines of the due moment: idle, given up, or begun anew.
use Rattle.std.proofs.Common.{rules, refl, sym, ap, subst, ◌∙◌, ◌∷◌, Option}
use Rattle.std.proofs.lemmas.Result.{MatchResult-weaker, MatchResult-from_err}
use Rattle.protocol.specs.Entries.{Entry}
use Rattle.protocol.specs.Rows.{Vote}
use Rattle.protocol.specs.Marks.{Began}
use Rattle.protocol.specs.Turn as said
use Rattle.proposer.specs.InHand.{StandsFor as ProposalStandsFor}
use Rattle.proposer.specs.Answers.{IsDueAnswer}
use Rattle.proposer.specs.declared.answer.DueAnswer.TheVariants as answers
use Rattle.node_core.specs.Turns.{note_value}
use Rattle.node_core.proofs.Phases.{stays_so, not_due, gives_up, renews, renews_above, due_so, one_more, still, proposal_stands}
use Rattle.node_core.proofs.Stirring.{due_stirs}
use Rattle.node_core.proofs.instance.Instance.due.Goals as goal

pub returns-in_err-report-in-Some : goal.returns-in_err-report-in-Some
returns-in_err-report-in-Some c = record {
  turn = λ marks stands.
      let p = proposal_stands c.args.self.now c.in-Some.proposal marks c.in-Some.is stands in
      let of = rw c.in-Some.is at c.requires.proposal in
      MatchResult-from_err c.from_residual.result _ _ c.from_residual.ensures.0
      (λ _.
      due_stirs c.args.sitting.seat c.args.self.now.number c.args.sitting.now marks c.args.row.now
      (due_so c.args.self.now c.in-Some.proposal c.args.sitting.seat.me c.args.sitting.now c.due_moment-moment.result marks p of.0 (c.due_moment-moment.ensures.moment c.args.self.now.number marks p.opening p p.is_open) c.if-now-moment.false));
  orderly = search rules;
  of = search rules;
  number = search rules;
}

pub returns-in-Wait : goal.returns-in-Wait
returns-in-Wait c = record {
  turn = λ marks stands.
      let p = proposal_stands c.args.self.now c.in-Some.proposal marks c.in-Some.is stands in
      let of = rw c.in-Some.is at c.requires.proposal in
      let answer = subst (λ m. IsDueAnswer answers.Wait m c.args.self.now.number c.args.sitting.now p.opening marks c.args.row.now) of.0 (rw c.in-Wait.is at (c.in_ok-due-in-Some.ensures.due.answer c.args.self.now.number marks p.opening c.args.row.now p p.is_open (sym c.promised.ensures.value))) in
      rw (not_due c.args.sitting.seat c.args.self.now.number c.args.sitting.now marks c.args.row.now p.opening p.is_open answer)
      (stays_so c.quiet-in-Wait.ensures.nothing (rw c.quiet-in-Wait.ensures.note refl)
      (still c.args.self.now c.due.new.self marks stands (rw c.in-Wait.is at (c.in_ok-due-in-Some.ensures.due.stands c.args.self.now.number marks p))));
  orderly = search rules;
  of = search rules;
  number = search rules;
}

pub returns-in-GaveUp : goal.returns-in-GaveUp
returns-in-GaveUp c = record {
  turn = λ marks stands.
      let p = proposal_stands c.args.self.now c.in-Some.proposal marks c.in-Some.is stands in
      let of = rw c.in-Some.is at c.requires.proposal in
      let answer = subst (λ m. IsDueAnswer answers.GaveUp m c.args.self.now.number c.args.sitting.now p.opening marks c.args.row.now) of.0 (rw c.in-GaveUp.is at (c.in_ok-due-in-Some.ensures.due.answer c.args.self.now.number marks p.opening c.args.row.now p p.is_open (sym c.promised.ensures.value))) in
      rw (gives_up c.args.sitting.seat c.args.self.now.number c.args.sitting.now marks c.args.row.now p.opening p.is_open answer.0 answer.1)
      (stays_so (record { saves = c.close.ensures.row; sends = c.close.ensures.mail; releases = c.close.ensures.release }) (ap note_value c.close.ensures.note ∙ ap said.Note_gave_up (c.ballot-last.ensures.value ∙ p.its_ballot))
      (c.close.ensures.stands marks (still c.args.self.now c.due.new.self marks stands (rw c.in-GaveUp.is at (c.in_ok-due-in-Some.ensures.due.stands c.args.self.now.number marks p)))));
  orderly = search rules;
  of = let of = rw c.in-Some.is at c.requires.proposal in
      c.close.ensures.of c.args.sitting.seat (record { proposal = (c.in_ok-due-in-Some.ensures.due.circuit.me ∙ of.0, c.in_ok-due-in-Some.ensures.due.circuit.members ∙ of.1); heard = c.requires.heard });
  number = search rules;
}

pub returns-in-Began : goal.returns-in-Began
returns-in-Began c = record {
  turn = λ marks stands.
      let p = proposal_stands c.args.self.now c.in-Some.proposal marks c.in-Some.is stands in
      let of = rw c.in-Some.is at c.requires.proposal in
      let n = c.args.self.now.number in
      let b = c.in-Began.ballot in
      let answer = subst (λ m. IsDueAnswer (answers.Began b) m n c.args.sitting.now p.opening marks c.args.row.now) of.0 (rw c.in-Began.is at (c.in_ok-due-in-Some.ensures.due.answer n marks p.opening c.args.row.now p p.is_open (sym c.promised.ensures.value))) in
      let begun = subst (λ (o : Option Entry). ProposalStandsFor c.due.new.self n (Began n b o c.args.row.now.vote c.args.sitting.now ∷ marks)) p.its_own
      (subst (λ (r : Option Vote). ProposalStandsFor c.due.new.self n (Began n b c.in-Some.proposal.own r c.args.sitting.now ∷ marks)) (c.in_ok-report-in-Some.ensures ∙ c.vote.ensures.value) (rw c.in-Began.is at (c.in_ok-due-in-Some.ensures.due.stands n marks p))) in
      MatchResult-weaker c.begun.result c.begun.ensures.turn
      (λ x h.
      rw (renews c.args.sitting.seat n c.args.sitting.now marks c.args.row.now p.opening b p.is_open answer.0 answer.1)
      (h marks p.opening.own (renews_above c.args.sitting.seat n c.args.sitting.now marks c.args.row.now b answer.1)
      (one_more c.other_marks_pass.ensures c.args.self.now c.due.new.self (Began n b p.opening.own c.args.row.now.vote c.args.sitting.now) marks refl refl stands begun)))
      (λ _ _.
      due_stirs c.args.sitting.seat n c.args.sitting.now marks c.args.row.now
      (due_so c.args.self.now c.in-Some.proposal c.args.sitting.seat.me c.args.sitting.now c.due_moment-moment.result marks p of.0 (c.due_moment-moment.ensures.moment n marks p.opening p p.is_open) c.if-now-moment.false));
  orderly = search rules;
  of = search rules;
  number = search rules;
}
