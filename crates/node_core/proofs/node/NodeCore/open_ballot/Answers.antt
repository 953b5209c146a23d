-- What is in hand stands for the marks.
use Rattle.std.proofs.Common.{rules, ap, ◌∙◌, Some, None}
use Rattle.std.specs.Ordering.{nat_cmp}
use Rattle.std.specs.BTreeMap.{get}
use Rattle.protocol.specs.Proposals.{open_ballot}
use Rattle.node_core.specs.Standing.{Core}
use Rattle.node_core.proofs.Keeping.{stands_there, none_in_hand}
use Rattle.node_core.proofs.node.NodeCore.open_ballot.Goals as goal

pub returns-in-None : goal.returns-in-None
returns-in-None c = record {
  failed = search rules;
  value = λ marks h.
      none_in_hand c.args.self.now.members c.args.number marks
      (stands_there c.args.self.now c.self.inside.instances c.args.number None marks (ap (λ (v : Core). v.instances) c.self.view_is) (c.in-None.ensures.value ∙ ap (get nat_cmp c.self.inside.instances) c.get.ensures.value) h);
}

pub returns-in-Some : goal.returns-in-Some
returns-in-Some c = record {
  failed = search rules;
  value = λ marks h.
      let s = stands_there c.args.self.now c.self.inside.instances c.args.number (Some c.deref.result.now) marks (ap (λ (v : Core). v.instances) c.self.view_is)
      (ap Some (c.deref.ensures ∙ c.boxed.view_is) ∙ c.in-Some.ensures.value ∙ ap (get nat_cmp c.self.inside.instances) c.get.ensures.value) h in
      c.open_ballot.ensures marks s.1 ∙ ap (λ n. open_ballot n marks) s.0;
}
