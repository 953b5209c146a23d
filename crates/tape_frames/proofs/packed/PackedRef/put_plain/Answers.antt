use Rattle.std.proofs.Common.{ℕ, List, [], ◌∷◌, ◌++◌, take, sym, ap, ◌∙◌, append_assoc, arith}
use Rattle.tape_frames.proofs.Unpackings.{one_more, has_frame}
use Rattle.tape_frames.proofs.packed.PackedRef.put_plain.Goals as goal
use Rattle.tape_frames.proofs.packed.PackedRef.put_plain.Goals.{in-Some+in_ok-push, in_default}

pub loop-i-preserved : goal.loop-i-preserved
loop-i-preserved c =
    let frames = c.args.self.now in
    let before = c.args.out.now.items in
    elim c.match-frame.branch [
      | in-Some+in_ok-push w ↦
          rw w.out-is (w.in_ok-push.ensures.items ∙ ap (λ (xs : List ℕ). xs ++ w.in-Some.frame ∷ []) c.loop-i.invariant ∙ append_assoc before (take c.loop-i.i frames) (w.in-Some.frame ∷ [])
          ∙ ap (λ (xs : List ℕ). before ++ xs) (sym (one_more frames c.loop-i.i w.in-Some.frame (sym c.frame.ensures ∙ w.in-Some.is))))
      | in_default w ↦
          let l = c.loop-i-test.true in
          let all = c.len-i-end.ensures.len in
          absurd (has_frame frames c.loop-i.i (omega (arith, l, all)) (sym c.frame.ensures ∙ w.in_default.is))
    ]
