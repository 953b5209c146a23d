use Rattle.std.proofs.Common.{ℕ, List, sym, ap, subst, ◌∙◌}
use Rattle.tape_frames.specs.Frames.{IsTape}
use Rattle.tape_frames.specs.Packing.{unpacked}
use Rattle.tape_frames.proofs.Packings.{packed_are_tapes}
use Rattle.tape_frames.proofs.packed.PackedRef.unpack.Goals as goal

pub of_frames-requires : goal.of_frames-requires
of_frames-requires c =
    let frames = c.in_ok-frames.ensures ∙ ap (λ (n : ℕ). unpacked n c.self.inside.bytes.now) c.from.ensures in
    subst (λ (xs : List ℕ). IsTape xs) (sym frames) (packed_are_tapes _ _ c.self.invariant).0
