use Rattle.std.proofs.Common.{◌≡◌, sym, ◌∙◌, rules}
use Rattle.tape_frames.specs.Packing.{unpacked}
use Rattle.tape_frames.proofs.Packings.{one_packed}
use Rattle.tape_frames.proofs.packed.PackedRef.is_packed_as.Goals as goal

pub returns-then-self-other : goal.returns-then-self-other
returns-then-self-other c = (
  λ t.
      let same : c.self.inside.bytes.now ≡ c.other.inside.bytes.now = search rules in
      sym c.self.view_is ∙ (λ i. unpacked (c.if-self-other.true i) (same i)) ∙ c.other.view_is,
  λ e.
      let same : c.self.inside.bytes.now ≡ c.other.inside.bytes.now = (one_packed _ _ _ _ c.self.invariant c.other.invariant (c.self.view_is ∙ e ∙ sym c.other.view_is)).1 in
      search rules,
)

pub returns-else-self-other : goal.returns-else-self-other
returns-else-self-other c = (
  λ t. absurd (c.if-self-other.false (search rules)),
  λ e. absurd (c.if-self-other.false (one_packed _ _ _ _ c.self.invariant c.other.invariant (c.self.view_is ∙ e ∙ sym c.other.view_is)).0),
)
