use Rattle.std.proofs.Common.{ℕ, List, length, sym, ap, subst, ◌∙◌}
use Rattle.tape_frames.specs.Frames.{IsTape}
use Rattle.tape_frames.proofs.Packings.{packed_are_tapes}
use Rattle.tape_frames.proofs.packed.PackedRef.len.Goals as goal

pub returns-clause-len : goal.returns-clause-len
returns-clause-len c = c.from.ensures ∙ sym (packed_are_tapes _ _ c.self.invariant).1 ∙ ap (λ (xs : List ℕ). length xs) c.self.view_is

pub returns-clause-is_tape : goal.returns-clause-is_tape
returns-clause-is_tape c = subst (λ (xs : List ℕ). IsTape xs) c.self.view_is (packed_are_tapes _ _ c.self.invariant).0
