use Rattle.std.proofs.Common.{◌≡◌, ◌++◌}
use Rattle.std.specs.Slice.Iter.{chunks_rest, chunks_size}
use Rattle.tape_frames.specs.Packing.{frames_in}
use Rattle.tape_frames.proofs.unpacking.frames_of.Given as goal

-- the frames in the bytes that are left stand behind those that are written
abbrev pub invariant-loop-group : goal.invariant-loop-group
invariant-loop-group l =
    goal.iterator-loop-group.can_next l.group-iterator
    × goal.iterator-loop-group.is_finite l.group-iterator
    × (chunks_size l.group-iterator ≡ 3)
    × (l.out.items ++ frames_in (chunks_rest l.group-iterator) ≡ frames_in l.bytes)
