use Rattle.std.proofs.Common.{List, ℕ, ◌++◌, ap, ◌∙◌, arith}
use Rattle.tape_frames.proofs.Groups.{is_one, is_two, is_three, is_four}
use Rattle.tape_frames.proofs.packing.put_group.Goals as goal

pub returns-in_ok-push-in-len1 : goal.returns-in_ok-push-in-len1
returns-in_ok-push-in-len1 c = c.in_ok-push-in-len1.ensures.items ∙ ap (λ (xs : List ℕ). c.args.out.now.items ++ xs) (is_one c.args.frames.now (omega arith))

pub returns-in_ok-extend_from_slice-in-len2 : goal.returns-in_ok-extend_from_slice-in-len2
returns-in_ok-extend_from_slice-in-len2 c = c.in_ok-extend_from_slice-in-len2.ensures.items ∙ ap (λ (xs : List ℕ). c.args.out.now.items ++ xs) (is_two c.args.frames.now (omega arith))

pub returns-in_ok-extend_from_slice-in-len3 : goal.returns-in_ok-extend_from_slice-in-len3
returns-in_ok-extend_from_slice-in-len3 c = c.in_ok-extend_from_slice-in-len3.ensures.items ∙ ap (λ (xs : List ℕ). c.args.out.now.items ++ xs) (is_three c.args.frames.now (omega arith))

pub returns-in_ok-extend_from_slice-in-len4 : goal.returns-in_ok-extend_from_slice-in-len4
returns-in_ok-extend_from_slice-in-len4 c = c.in_ok-extend_from_slice-in-len4.ensures.items ∙ ap (λ (xs : List ℕ). c.args.out.now.items ++ xs) (is_four c.args.frames.now (omega arith))
