use Rattle.std.proofs.Common.{◌≡◌, ℕ, List, ◌++◌, take, sym, ap, ◌∙◌, rules, append_assoc, append-nil}
use Rattle.std.proofs.lemmas.List.{nil_from_length}
use Rattle.std.specs.Slice.Iter.{chunks_rest, chunks_size}
use Rattle.tape_frames.specs.Packing.{frames_in}
use Rattle.tape_frames.proofs.Unpackings.{frames_first}
use Rattle.tape_frames.proofs.unpacking.frames_of.Goals as goal

pub loop-group-init : goal.loop-group-init
loop-group-init c =
    let all : chunks_rest c.into_iter-group-iterator.result ≡ c.args.bytes.now = search rules in (
      search rules,
      tt,
      ap chunks_size c.into_iter-group-iterator.ensures.into_iter_gives ∙ c.chunks-group-items.ensures.size,
      rw c.in_ok-out.ensures.items (ap frames_in all),
    )

pub loop-group-preserved : goal.loop-group-preserved
loop-group-preserved c =
    let steps = c.in-Some.ensures.steps in
    let (next, end, size, left) = c.loop-group.invariant in
    let group = c.in-Some.group.now in
    let rest = chunks_rest c.next.new.self in
    let before = c.loop-group.out.items in (
      search rules,
      tt,
      steps.0 ∙ size,
      ap (λ (xs : List ℕ). xs ++ frames_in rest) c.in_ok-put_frames.ensures ∙ append_assoc before (frames_in group) (frames_in rest)
          ∙ ap (λ (xs : List ℕ). before ++ xs) (sym (frames_first (chunks_rest c.loop-group.group-iterator) group rest steps.1.0 (rw size at steps.1.1))) ∙ left,
    )

pub returns : goal.returns
returns c =
    let end = nil_from_length _ c.in-None.ensures.steps.1.0 in
    let all = sym (append-nil c.loop-group.out.items) ∙ ap (λ (xs : List ℕ). c.loop-group.out.items ++ frames_in xs) (sym end) ∙ c.loop-group.invariant.3 in
    c.truncate.ensures.items ∙ ap (λ (xs : List ℕ). take c.args.frames xs) all
