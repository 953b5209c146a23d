use Rattle.std.proofs.Common.{◌≡◌, ◌++◌, take}
use Rattle.tape_frames.proofs.packed.PackedRef.put_plain.Given as goal

-- the frames so far are written
abbrev pub invariant-loop-i : goal.invariant-loop-i
invariant-loop-i l = l.out.items ≡ l.initial.out.items ++ take l.i l.self
