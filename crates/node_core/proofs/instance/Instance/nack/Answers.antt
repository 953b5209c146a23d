-- A Nack is kept, or stale.
use Rattle.std.proofs.Common.{rules, ◌≡◌, refl, sym, subst, ◌∷◌, Some, None}
use Rattle.protocol.specs.Marks.{Denied}
use Rattle.protocol.specs.Proposals.{proposal_at}
use Rattle.node_core.specs.declared.instance.Instance.{Instance}
use Rattle.node_core.specs.Standing.{InstanceStands}
use Rattle.node_core.proofs.Phases.{stays_so, one_more, still, proposal_stands}
use Rattle.node_core.proofs.instance.Instance.nack.Goals as goal

pub returns-then-nack : goal.returns-then-nack
returns-then-nack c = record {
  turn = λ row marks stands.
      let p = proposal_stands c.args.self.now c.in-Some.proposal marks c.in-Some.is stands in
      let instance : Instance = record c.args.self.now { proposal = Some c.nack.new.self } in
      let o = c.if-nack.ensures.kept c.args.self.now.number marks p in
      let at : proposal_at c.args.packet.now.number c.args.packet.now.ballot marks ≡ Some o.0 = rw (c.requires, ← c.ballot.ensures) o.1 in
      rw at
      (stays_so c.quiet-then-nack.ensures.nothing (rw c.quiet-then-nack.ensures.note refl)
      (subst (λ n. InstanceStands instance (Denied n c.args.promised ∷ marks)) (sym c.requires)
      (one_more c.other_marks_pass.ensures c.args.self.now c.nack.new.self (Denied c.args.self.now.number c.args.promised) marks refl refl stands (c.if-nack.ensures.stands c.args.self.now.number marks p))));
  orderly = search rules;
  of = search rules;
  number = search rules;
}

pub returns-else-nack : goal.returns-else-nack
returns-else-nack c = record {
  turn = λ row marks stands.
      let p = proposal_stands c.args.self.now c.in-Some.proposal marks c.in-Some.is stands in
      let none : proposal_at c.args.packet.now.number c.args.packet.now.ballot marks ≡ None = rw (c.requires, ← c.ballot.ensures) (c.if-nack.ensures.kept c.args.self.now.number marks p) in
      rw none
      (stays_so c.quiet-else-nack.ensures.nothing (rw c.quiet-else-nack.ensures.note refl)
      (still c.args.self.now c.nack.new.self marks stands (c.if-nack.ensures.stands c.args.self.now.number marks p)));
  orderly = search rules;
  of = search rules;
  number = search rules;
}
