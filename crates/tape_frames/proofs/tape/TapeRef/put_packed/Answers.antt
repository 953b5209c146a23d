use Rattle.std.proofs.Common.{◌≡◌, ℕ, List, ◌++◌, sym, ap, subst, ◌∙◌, rules, append_assoc, append-nil}
use Rattle.std.proofs.lemmas.List.{nil_from_length}
use Rattle.std.specs.Slice.Iter.{chunks_rest, chunks_size}
use Rattle.tape_frames.specs.Frames.{AreFrames, IsTape}
use Rattle.tape_frames.specs.Packing.{packing_of}
use Rattle.tape_frames.proofs.Groups.{packing_first, frames_parts}
use Rattle.tape_frames.proofs.tape.TapeRef.put_packed.Goals as goal

pub loop-group-init : goal.loop-group-init
loop-group-init c =
    let all : chunks_rest c.into_iter-group-iterator.result ≡ c.args.self.now = search rules in
    let is : IsTape c.args.self.now = c.frames.ensures.is_tape in (
      search rules,
      tt,
      ap chunks_size c.into_iter-group-iterator.ensures.into_iter_gives ∙ c.chunks-group-items.ensures.size,
      subst (λ (xs : List ℕ). AreFrames xs) (sym all) is.small,
      ap (λ (xs : List ℕ). c.args.out.now.items ++ packing_of xs) all,
    )

pub loop-group-preserved : goal.loop-group-preserved
loop-group-preserved c =
    let steps = c.in-Some.ensures.steps in
    let (next, end, size, small, left) = c.loop-group.invariant in
    let group = c.in-Some.group.now in
    let rest = chunks_rest c.next.new.self in
    let before = c.loop-group.out.items in
    let parts = frames_parts group rest (subst (λ (xs : List ℕ). AreFrames xs) steps.1.0 small) in (
      search rules,
      tt,
      steps.0 ∙ size,
      parts.1,
      ap (λ (xs : List ℕ). xs ++ packing_of rest) c.in_ok-put_group.ensures ∙ append_assoc before (packing_of group) (packing_of rest)
          ∙ ap (λ (xs : List ℕ). before ++ xs) (sym (packing_first (chunks_rest c.loop-group.group-iterator) group rest steps.1.0 (rw size at steps.1.1))) ∙ left,
    )

pub returns : goal.returns
returns c =
    let end = nil_from_length _ c.in-None.ensures.steps.1.0 in
    sym (append-nil c.loop-group.out.items) ∙ ap (λ (xs : List ℕ). c.loop-group.out.items ++ packing_of xs) (sym end) ∙ c.loop-group.invariant.4
