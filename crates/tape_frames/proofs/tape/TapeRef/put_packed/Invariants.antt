use Rattle.std.proofs.Common.{◌≡◌, ◌++◌}
use Rattle.std.specs.Slice.Iter.{chunks_rest, chunks_size}
use Rattle.tape_frames.specs.Frames.{AreFrames}
use Rattle.tape_frames.specs.Packing.{packing_of}
use Rattle.tape_frames.proofs.tape.TapeRef.put_packed.Given as goal

-- the packing of the frames that are left stands behind what is written
abbrev pub invariant-loop-group : goal.invariant-loop-group
invariant-loop-group l =
    goal.iterator-loop-group.can_next l.group-iterator
    × goal.iterator-loop-group.is_finite l.group-iterator
    × (chunks_size l.group-iterator ≡ 4)
    × AreFrames (chunks_rest l.group-iterator)
    × (l.out.items ++ packing_of (chunks_rest l.group-iterator) ≡ l.initial.out.items ++ packing_of l.self)
