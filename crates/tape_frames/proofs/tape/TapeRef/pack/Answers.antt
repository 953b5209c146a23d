use Rattle.std.proofs.Common.{ℕ, List, refl, sym, subst, ◌∙◌}
use Rattle.tape_frames.specs.Frames.{IsTape}
use Rattle.tape_frames.specs.Packing.{AreBytes, Packs}
use Rattle.tape_frames.proofs.Packings.{packing_is_given, tapes_are_packed, unpacking_undoes}
use Rattle.tape_frames.proofs.tape.TapeRef.pack.Goals as goal

pub returns-clause-exact : goal.returns-clause-exact
returns-clause-exact c = c.in_ok-put_packed.ensures ∙ rw c.in_ok-out.ensures.items refl

pub returns-clause-packs : goal.returns-clause-packs
returns-clause-packs c =
    let is : IsTape c.args.self.now = c.frames-frames.ensures.is_tape in
    subst (λ (xs : List ℕ). Packs c.args.self.now xs) (sym (returns-clause-exact c)) (packing_is_given c.args.self.now is.small).0

pub returns-clause-bytes : goal.returns-clause-bytes
returns-clause-bytes c =
    let is : IsTape c.args.self.now = c.frames-frames.ensures.is_tape in
    subst (λ (xs : List ℕ). AreBytes xs) (sym (returns-clause-exact c)) (packing_is_given c.args.self.now is.small).1

pub returns-clause-packed : goal.returns-clause-packed
returns-clause-packed c = tapes_are_packed _ _ c.frames-frames.ensures.is_tape (returns-clause-bytes c) (returns-clause-packs c)

pub returns-clause-again : goal.returns-clause-again
returns-clause-again c = let is : IsTape c.args.self.now = c.frames-frames.ensures.is_tape in unpacking_undoes _ _ is.small (returns-clause-bytes c) (returns-clause-packs c)
