use Rattle.std.proofs.Common.{◌≡◌, ℕ, List, length, sym, ap, subst, ◌∙◌}
use Rattle.tape_frames.specs.Packing.{Packs, IsPacked, packing_of}
use Rattle.tape_frames.proofs.Packings.{packed_are_tapes, packed_are_packing}
use Rattle.tape_frames.proofs.packed.PackedRef.bytes.Goals as goal

-- as many frames as the view has
pub returns-clause-packed : goal.returns-clause-packed
returns-clause-packed c =
    let many : c.self.inside.length ≡ length c.args.self.now = sym (packed_are_tapes _ _ c.self.invariant).1 ∙ ap (λ (xs : List ℕ). length xs) c.self.view_is in
    subst (λ (n : ℕ). IsPacked n c.self.inside.bytes.now) many c.self.invariant

pub returns-clause-packs : goal.returns-clause-packs
returns-clause-packs c = subst (λ (xs : List ℕ). Packs xs c.self.inside.bytes.now) c.self.view_is (packed_are_tapes _ _ c.self.invariant).2

pub returns-clause-exact : goal.returns-clause-exact
returns-clause-exact c = packed_are_packing _ _ c.self.invariant ∙ ap packing_of c.self.view_is
