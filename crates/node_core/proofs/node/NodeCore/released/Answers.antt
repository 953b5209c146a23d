use Rattle.std.proofs.Common.{rules, ap, ◌∙◌}
use Rattle.std.specs.Ordering.{nat_cmp}
use Rattle.std.specs.List.{list_any}
use Rattle.std.specs.BTreeMap.{is_at}
use Rattle.node_core.specs.Standing.{Core}
use Rattle.node_core.proofs.node.NodeCore.released.Goals as goal

pub returns-then-not-self : goal.returns-then-not-self
returns-then-not-self c = record {
  failed = search rules;
  value = λ marks h.
      c.contains.ensures ∙ ap (λ n. list_any (is_at (nat_cmp n)) c.self.inside.released.keys) c.get.ensures.value ∙ ap (λ (v : Core). list_any (is_at (nat_cmp c.args.number)) v.released) c.self.view_is ∙ h.released c.args.number;
}
