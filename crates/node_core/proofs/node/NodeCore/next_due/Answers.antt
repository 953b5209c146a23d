-- The least in hand that is due is the least number that is.
use Rattle.std.proofs.Common.{rules, ℕ, List, sym, ap, subst}
use Rattle.protocol.specs.Proposals.{is_due_number, next_due}
use Rattle.node_core.specs.declared.instance.Instance.{Instance}
use Rattle.node_core.specs.Standing.{AllStand, IsLeastPassing, Core}
use Rattle.node_core.proofs.Dueing.{all_stand, is_next_due}
use Rattle.node_core.proofs.node.NodeCore.next_due.Goals as goal

pub returns : goal.returns
returns c = record {
  failed = search rules;
  value = λ marks h.
      let is = ap (λ (v : Core). v.instances) c.self.view_is in
      let least = c.least_due.ensures c.self.inside.seat marks c.self.invariant (subst (λ (es : List (ℕ × Instance)). AllStand es marks) (sym is) (all_stand c.args.self.now marks h)) in
      is_next_due c.args.self.now c.args.self.now.me c.args.now marks c.least_due.result (next_due c.args.self.now.me c.args.now marks) h
      (subst (λ (v : Core). IsLeastPassing (is_due_number v.me c.args.now marks) v.instances c.least_due.result) c.self.view_is least) (c.next_due_is_least.ensures.number c.args.self.now.me c.args.now marks);
}
