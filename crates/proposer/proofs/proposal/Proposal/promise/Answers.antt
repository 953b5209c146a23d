-- What a promise is, by the slots.
use Rattle.std.proofs.Common.{◌≡◌, ◌-◌, ◌∙◌, ap, sym, subst, arith, rules, true, false, length, Some, set}
use Rattle.std.specs.Prelude.{◌&&◌, is_some}
use Rattle.protocol.specs.Ballots.{is_same, IsMember}
use Rattle.proposer.specs.InHand.{InHand}
use Rattle.proposer.specs.Slots.{report_at}
use Rattle.proposer.specs.Answers.{IsNew, IsRepeated, completes}
use Rattle.proposer.proofs.Standing.{opened, on_err}
use Rattle.proposer.proofs.Promising.{is_repeated, is_new, is_quorum_now, stands_after, was_counted, was_not_counted, only_not_counted}
use Rattle.proposer.proofs.proposal.Proposal.promise.Goals as goal

pub returns-then-not-is_new-clause-counted : goal.returns-then-not-is_new-clause-counted
returns-then-not-is_new-clause-counted c = record {
  kind = λ n marks h.
      let gathers : c.self.inside.gathers && is_same c.self.inside.ballot c.args.ballot ≡ true = ap (λ (q : InHand). q.gathers && is_same q.ballot c.args.ballot) c.self.view_is ∙ sym c.gathers_at.ensures.value ∙ c.if-not-gathers_at.false in
      let many : length c.self.inside.slots ≡ c.args.self.now.members = ap (λ (q : InHand). q.members) c.self.view_is in
      let member : IsMember (length c.self.inside.slots) c.args.from = (omega (arith, c.get-range.ensures), omega (arith, many)) in
      subst (λ (q : InHand). IsRepeated q.me n c.args.ballot c.args.from marks) c.self.view_is
      (is_repeated _ n marks (opened c.self.view_is h) c.args.ballot gathers c.args.from member c.slots_of_members.ensures.read (was_counted _ c.in_ok-is_new.is_new c.in_ok-is_new.ensures.new c.if-not-is_new.true));
  stands = search rules;
  stays = search rules;
  circuit = search rules;
}

pub returns-in_err-is_new-clause-refused : goal.returns-in_err-is_new-clause-refused
returns-in_err-is_new-clause-refused c = on_err c.from_residual.result (record {
  same = search rules;
  is_new = λ n marks h.
      let gathers : c.self.inside.gathers && is_same c.self.inside.ballot c.args.ballot ≡ true = ap (λ (q : InHand). q.gathers && is_same q.ballot c.args.ballot) c.self.view_is ∙ sym c.gathers_at.ensures.value ∙ c.if-not-gathers_at.false in
      let many : length c.self.inside.slots ≡ c.args.self.now.members = ap (λ (q : InHand). q.members) c.self.view_is in
      let member : IsMember (length c.self.inside.slots) c.args.from = (omega (arith, c.get-range.ensures), omega (arith, many)) in
      let new : is_some (report_at c.self.inside.slots c.args.from) ≡ false =
      only_not_counted _ (λ e. let taken = c.count_once.ensures.no_memory e in let refused = c.in_err-is_new.was in let bad : false ≡ true = rw refused at taken in cc) in
      subst (λ (q : InHand). IsNew q.me n c.args.ballot c.args.from marks) c.self.view_is
      (is_new _ n marks (opened c.self.view_is h) c.args.ballot gathers c.args.from member c.slots_of_members.ensures.read new);
})

pub returns-then-not-is_quorum-clause-counted : goal.returns-then-not-is_quorum-clause-counted
returns-then-not-is_quorum-clause-counted c = record {
  kind = λ n marks h.
      let gathers : c.self.inside.gathers && is_same c.self.inside.ballot c.args.ballot ≡ true = ap (λ (q : InHand). q.gathers && is_same q.ballot c.args.ballot) c.self.view_is ∙ sym c.gathers_at.ensures.value ∙ c.if-not-gathers_at.false in
      let many : length c.self.inside.slots ≡ c.args.self.now.members = ap (λ (q : InHand). q.members) c.self.view_is in
      let member : IsMember (length c.self.inside.slots) c.args.from = (omega (arith, c.get-range.ensures), omega (arith, many)) in
      let new : is_some (report_at c.self.inside.slots c.args.from) ≡ false = was_not_counted _ c.in_ok-is_new.is_new c.in_ok-is_new.ensures.new c.if-not-is_new.false in
      let counts : c.count_once.new.slots ≡ set c.self.inside.slots (c.args.from - 1) (Some c.args.report) = rw c.if-not-is_new.false at c.in_ok-is_new.ensures.slots in
      subst (λ (q : InHand). (x : IsNew q.me n c.args.ballot c.args.from marks) × (completes q.members q.me n c.args.ballot c.args.from c.args.report marks x.opening ≡ false)) c.self.view_is
      (is_quorum_now _ n marks (opened c.self.view_is h) c.args.ballot gathers c.args.from member c.slots_of_members.ensures.read c.slots_of_members.ensures.set c.slots_of_members.ensures.many c.args.report new c.count_once.new.slots counts c.slots_of_members.ensures.count false
      (sym c.is_quorum.ensures ∙ c.if-not-is_quorum.true));
  stands = λ n marks h.
      let gathers : c.self.inside.gathers && is_same c.self.inside.ballot c.args.ballot ≡ true = ap (λ (q : InHand). q.gathers && is_same q.ballot c.args.ballot) c.self.view_is ∙ sym c.gathers_at.ensures.value ∙ c.if-not-gathers_at.false in
      let many : length c.self.inside.slots ≡ c.args.self.now.members = ap (λ (q : InHand). q.members) c.self.view_is in
      let member : IsMember (length c.self.inside.slots) c.args.from = (omega (arith, c.get-range.ensures), omega (arith, many)) in
      let new : is_some (report_at c.self.inside.slots c.args.from) ≡ false = was_not_counted _ c.in_ok-is_new.is_new c.in_ok-is_new.ensures.new c.if-not-is_new.false in
      let counts : c.count_once.new.slots ≡ set c.self.inside.slots (c.args.from - 1) (Some c.args.report) = rw c.if-not-is_new.false at c.in_ok-is_new.ensures.slots in
      stands_after _ n marks (opened c.self.view_is h) c.args.ballot gathers c.args.from member c.slots_of_members.ensures.read c.slots_of_members.ensures.set c.slots_of_members.ensures.many c.args.report new c.count_once.new.slots counts;
  stays = tt;
  circuit = search rules;
}

pub returns-clause-counted : goal.returns-clause-counted
returns-clause-counted c = record {
  kind = λ n marks h.
      let gathers : c.self.inside.gathers && is_same c.self.inside.ballot c.args.ballot ≡ true = ap (λ (q : InHand). q.gathers && is_same q.ballot c.args.ballot) c.self.view_is ∙ sym c.gathers_at.ensures.value ∙ c.if-not-gathers_at.false in
      let many : length c.self.inside.slots ≡ c.args.self.now.members = ap (λ (q : InHand). q.members) c.self.view_is in
      let member : IsMember (length c.self.inside.slots) c.args.from = (omega (arith, c.get-range.ensures), omega (arith, many)) in
      let new : is_some (report_at c.self.inside.slots c.args.from) ≡ false = was_not_counted _ c.in_ok-is_new.is_new c.in_ok-is_new.ensures.new c.if-not-is_new.false in
      let counts : c.count_once.new.slots ≡ set c.self.inside.slots (c.args.from - 1) (Some c.args.report) = rw c.if-not-is_new.false at c.in_ok-is_new.ensures.slots in
      subst (λ (q : InHand). (x : IsNew q.me n c.args.ballot c.args.from marks) × (completes q.members q.me n c.args.ballot c.args.from c.args.report marks x.opening ≡ true)) c.self.view_is
      (is_quorum_now _ n marks (opened c.self.view_is h) c.args.ballot gathers c.args.from member c.slots_of_members.ensures.read c.slots_of_members.ensures.set c.slots_of_members.ensures.many c.args.report new c.count_once.new.slots counts c.slots_of_members.ensures.count true
      (sym c.is_quorum.ensures ∙ c.if-not-is_quorum.false));
  stands = λ n marks h.
      let gathers : c.self.inside.gathers && is_same c.self.inside.ballot c.args.ballot ≡ true = ap (λ (q : InHand). q.gathers && is_same q.ballot c.args.ballot) c.self.view_is ∙ sym c.gathers_at.ensures.value ∙ c.if-not-gathers_at.false in
      let many : length c.self.inside.slots ≡ c.args.self.now.members = ap (λ (q : InHand). q.members) c.self.view_is in
      let member : IsMember (length c.self.inside.slots) c.args.from = (omega (arith, c.get-range.ensures), omega (arith, many)) in
      let new : is_some (report_at c.self.inside.slots c.args.from) ≡ false = was_not_counted _ c.in_ok-is_new.is_new c.in_ok-is_new.ensures.new c.if-not-is_new.false in
      let counts : c.count_once.new.slots ≡ set c.self.inside.slots (c.args.from - 1) (Some c.args.report) = rw c.if-not-is_new.false at c.in_ok-is_new.ensures.slots in
      stands_after _ n marks (opened c.self.view_is h) c.args.ballot gathers c.args.from member c.slots_of_members.ensures.read c.slots_of_members.ensures.set c.slots_of_members.ensures.many c.args.report new c.count_once.new.slots counts;
  stays = tt;
  circuit = search rules;
}
