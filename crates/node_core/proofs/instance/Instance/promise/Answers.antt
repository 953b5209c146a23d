-- The lines of a promise: stale, overtaken, repeated, counted, or enough of them.
use Rattle.std.proofs.Common.{rules, ◌≡◌, refl, sym, ap, subst, ◌∙◌, ◌∷◌, Some, None, true, false}
use Rattle.std.proofs.lemmas.Result.{MatchResult-weaker, MatchResult-from_err}
use Rattle.protocol.specs.Marks.{Mark, Promised}
use Rattle.protocol.specs.Proposals.{open_proposal, gathering_at}
use Rattle.proposer.specs.Answers.{IsNew}
use Rattle.proposer.specs.declared.answer.Counted.TheVariants as kinds
use Rattle.node_core.specs.declared.instance.Instance.{Instance}
use Rattle.node_core.specs.Standing.{InstanceStands}
use Rattle.node_core.proofs.Phases.{stays_so, not_gathering, none_gathers, overtaken, repeated, counts_as, completes_as, counted_as, promised_not_above, told, one_more, still, promised_told, proposal_stands, none_stands}
use Rattle.node_core.proofs.Stirring.{promise_stirs, is_new_told}
use Rattle.node_core.proofs.instance.Instance.promise.Goals as goal

pub returns-in-None : goal.returns-in-None
returns-in-None c = record {
  turn = λ marks stands.
      let none : open_proposal c.args.packet.now.number marks ≡ None = rw c.requires.take.number (none_stands c.args.self.now marks c.in-None.is stands) in
      rw (not_gathering c.args.sitting.seat c.args.sitting.now marks c.args.row.now c.args.packet.now c.args.report (none_gathers c.args.packet.now.number c.args.packet.now.ballot marks none))
      (stays_so c.quiet.ensures.nothing (rw c.quiet.ensures.note refl) stands);
  orderly = search rules;
  of = search rules;
  number = search rules;
}

pub returns-then-not-is_promised : goal.returns-then-not-is_promised
returns-then-not-is_promised c = record {
  turn = λ marks stands.
      let p = proposal_stands c.args.self.now c.in-Some.proposal marks c.in-Some.is stands in
      let none : gathering_at c.args.packet.now.number c.args.packet.now.ballot marks ≡ None = rw (c.requires.take.number, ← c.ballot-ballot.ensures) (c.if-gathers_at.ensures.marks c.args.self.now.number marks p) in
      rw (not_gathering c.args.sitting.seat c.args.sitting.now marks c.args.row.now c.args.packet.now c.args.report none)
      (stays_so c.quiet-then-not-is_promised.ensures.nothing (rw c.quiet-then-not-is_promised.ensures.note refl)
      (still c.args.self.now c.in-Some.proposal marks stands p));
  orderly = search rules;
  of = search rules;
  number = search rules;
}

pub returns-then-gathers_at : goal.returns-then-gathers_at
returns-then-gathers_at c = record {
  turn = λ marks stands.
      let p = proposal_stands c.args.self.now c.in-Some.proposal marks c.in-Some.is stands in
      let g = c.if-gathers_at.ensures.marks c.args.self.now.number marks p in
      let e : gathering_at c.args.packet.now.number c.args.packet.now.ballot marks ≡ Some g.0 = rw (c.requires.take.number, ← c.ballot-ballot.ensures) g.1 in
      let passed : c.args.row.now.promised ≡ Some c.args.packet.now.ballot → ⊥ = λ h. (let f : false ≡ true = c.if-not-is_promised.ensures.1 (h ∙ ap Some (sym c.ballot-ballot.ensures)) in cc) in
      rw (overtaken c.args.sitting.seat c.args.sitting.now marks c.args.row.now c.args.packet.now c.args.report g.0 e passed)
      (stays_so c.quiet-then-gathers_at.ensures.nothing (rw (c.quiet-then-gathers_at.ensures.note, c.ballot-ballot.ensures) refl)
      (still c.args.self.now c.in-Some.proposal marks stands p));
  orderly = search rules;
  of = search rules;
  number = search rules;
}

pub returns-in-Stale : goal.returns-in-Stale
returns-in-Stale c = record {
  turn = λ marks stands.
      let p = proposal_stands c.args.self.now c.in-Some.proposal marks c.in-Some.is stands in
      let kind = rw c.in-Stale.is at (c.in_ok-promise-in-Some.ensures.counted.kind c.args.self.now.number marks p) in
      let none : gathering_at c.args.packet.now.number c.args.packet.now.ballot marks ≡ None = rw (c.requires.take.number, ← c.ballot-ballot.ensures) kind in
      rw (not_gathering c.args.sitting.seat c.args.sitting.now marks c.args.row.now c.args.packet.now c.args.report none)
      (stays_so c.quiet-in-Stale.ensures.nothing (rw c.quiet-in-Stale.ensures.note refl)
      (still c.args.self.now c.promise.new.self marks stands (rw c.in-Stale.is at (c.in_ok-promise-in-Some.ensures.counted.stands c.args.self.now.number marks p))));
  orderly = search rules;
  of = search rules;
  number = search rules;
}

pub returns-in-Repeated : goal.returns-in-Repeated
returns-in-Repeated c = record {
  turn = λ marks stands.
      let p = proposal_stands c.args.self.now c.in-Some.proposal marks c.in-Some.is stands in
      let of = rw c.in-Some.is at c.requires.take.of.proposal in
      let promised : c.args.row.now.promised ≡ Some c.args.packet.now.ballot = c.if-not-is_promised.ensures.0 refl ∙ ap Some c.ballot-ballot.ensures in
      let kind = counted_as kinds.Repeated c.in-Some.proposal.members c.args.sitting.seat.members c.in-Some.proposal.me c.args.sitting.seat.me c.args.self.now.number c.args.packet.now.number c.ballot-ballot.result c.args.packet.now.ballot c.from.result c.args.packet.now.from c.args.report marks of.1 of.0 (sym c.requires.take.number) c.ballot-ballot.ensures c.from.ensures
      (rw c.in-Repeated.is at (c.in_ok-promise-in-Some.ensures.counted.kind c.args.self.now.number marks p)) in
      rw (repeated c.args.sitting.seat c.args.sitting.now marks c.args.row.now c.args.packet.now c.args.report promised kind)
      (stays_so c.quiet-in-Repeated.ensures.nothing (rw c.quiet-in-Repeated.ensures.note refl)
      (still c.args.self.now c.promise.new.self marks stands (rw c.in-Repeated.is at (c.in_ok-promise-in-Some.ensures.counted.stands c.args.self.now.number marks p))));
  orderly = search rules;
  of = search rules;
  number = search rules;
}

pub returns-in-More : goal.returns-in-More
returns-in-More c = record {
  turn = λ marks stands.
      let p = proposal_stands c.args.self.now c.in-Some.proposal marks c.in-Some.is stands in
      let of = rw c.in-Some.is at c.requires.take.of.proposal in
      let instance : Instance = record c.args.self.now { proposal = Some c.promise.new.self } in
      let promised : c.args.row.now.promised ≡ Some c.args.packet.now.ballot = c.if-not-is_promised.ensures.0 refl ∙ ap Some c.ballot-ballot.ensures in
      let kind = counted_as kinds.More c.in-Some.proposal.members c.args.sitting.seat.members c.in-Some.proposal.me c.args.sitting.seat.me c.args.self.now.number c.args.packet.now.number c.ballot-ballot.result c.args.packet.now.ballot c.from.result c.args.packet.now.from c.args.report marks of.1 of.0 (sym c.requires.take.number) c.ballot-ballot.ensures c.from.ensures
      (rw c.in-More.is at (c.in_ok-promise-in-Some.ensures.counted.kind c.args.self.now.number marks p)) in
      rw (counts_as c.args.sitting.seat c.args.sitting.now marks c.args.row.now c.args.packet.now c.args.report promised kind)
      (stays_so c.quiet-in-More.ensures.nothing (rw (c.quiet-in-More.ensures.note, c.ballot-ballot.ensures) refl)
      (subst (λ (x : Mark). InstanceStands instance (x ∷ marks)) (promised_told c.args.self.now.number c.args.packet.now.number c.from.result c.args.packet.now.from c.ballot-ballot.result c.args.packet.now.ballot c.args.report (sym c.requires.take.number) c.from.ensures c.ballot-ballot.ensures)
      (one_more c.other_marks_pass.ensures c.args.self.now c.promise.new.self (Promised c.args.self.now.number c.from.result c.ballot-ballot.result c.args.report) marks refl refl stands (rw c.in-More.is at (c.in_ok-promise-in-Some.ensures.counted.stands c.args.self.now.number marks p)))));
  orderly = search rules;
  of = search rules;
  number = search rules;
}

pub returns-in-Quorum : goal.returns-in-Quorum
returns-in-Quorum c = record {
  turn = λ marks stands.
      let p = proposal_stands c.args.self.now c.in-Some.proposal marks c.in-Some.is stands in
      let of = rw c.in-Some.is at c.requires.take.of.proposal in
      let instance : Instance = record c.args.self.now { proposal = Some c.promise.new.self } in
      let promised : c.args.row.now.promised ≡ Some c.args.packet.now.ballot = c.if-not-is_promised.ensures.0 refl ∙ ap Some c.ballot-ballot.ensures in
      let kind = counted_as kinds.Quorum c.in-Some.proposal.members c.args.sitting.seat.members c.in-Some.proposal.me c.args.sitting.seat.me c.args.self.now.number c.args.packet.now.number c.ballot-ballot.result c.args.packet.now.ballot c.from.result c.args.packet.now.from c.args.report marks of.1 of.0 (sym c.requires.take.number) c.ballot-ballot.ensures c.from.ensures
      (rw c.in-Quorum.is at (c.in_ok-promise-in-Some.ensures.counted.kind c.args.self.now.number marks p)) in
      let left = subst (λ (x : Mark). InstanceStands instance (x ∷ marks)) (promised_told c.args.self.now.number c.args.packet.now.number c.from.result c.args.packet.now.from c.ballot-ballot.result c.args.packet.now.ballot c.args.report (sym c.requires.take.number) c.from.ensures c.ballot-ballot.ensures)
      (one_more c.other_marks_pass.ensures c.args.self.now c.promise.new.self (Promised c.args.self.now.number c.from.result c.ballot-ballot.result c.args.report) marks refl refl stands (rw c.in-Quorum.is at (c.in_ok-promise-in-Some.ensures.counted.stands c.args.self.now.number marks p))) in
      MatchResult-weaker c.propose.result c.propose.ensures.turn
      (λ x h.
      completes_as c.args.sitting.seat c.args.sitting.now marks c.args.row.now c.args.packet.now c.args.report promised x c.propose.new.self kind
      (told c.args.sitting.seat c.args.sitting.now c.args.row.now x c.propose.new.self instance c.ballot-ballot.result c.args.packet.now.number c.args.packet.now.ballot (Promised c.args.packet.now.number c.args.packet.now.from c.args.packet.now.ballot c.args.report ∷ marks) (sym c.requires.take.number) c.ballot-ballot.ensures
      (h (Promised c.args.packet.now.number c.args.packet.now.from c.args.packet.now.ballot c.args.report ∷ marks)) (promised_not_above c.args.row.now.promised c.args.packet.now.ballot promised) left))
      (λ _ _. promise_stirs c.args.sitting.seat c.args.sitting.now marks c.args.row.now c.args.packet.now c.args.report promised kind.0);
  orderly = search rules;
  of = search rules;
  number = search rules;
}

pub returns-in_err-promise-in-Some : goal.returns-in_err-promise-in-Some
returns-in_err-promise-in-Some c = record {
  turn = λ marks stands.
      let p = proposal_stands c.args.self.now c.in-Some.proposal marks c.in-Some.is stands in
      let of = rw c.in-Some.is at c.requires.take.of.proposal in
      let promised : c.args.row.now.promised ≡ Some c.args.packet.now.ballot = c.if-not-is_promised.ensures.0 refl ∙ ap Some c.ballot-ballot.ensures in
      MatchResult-from_err c.from_residual.result _ _ c.from_residual.ensures.0
      (λ _.
      promise_stirs c.args.sitting.seat c.args.sitting.now marks c.args.row.now c.args.packet.now c.args.report promised
      (is_new_told c.args.sitting.seat.me c.args.self.now.number c.args.packet.now.number c.ballot-ballot.result c.args.packet.now.ballot c.from.result c.args.packet.now.from marks (sym c.requires.take.number) c.ballot-ballot.ensures c.from.ensures
      (subst (λ m. IsNew m c.args.self.now.number c.ballot-ballot.result c.from.result marks) of.0 (c.in_err-promise-in-Some.ensures.refused.is_new c.args.self.now.number marks p))));
  orderly = search rules;
  of = search rules;
  number = search rules;
}
