-- Whether each byte so far is a frame.
use Rattle.std.proofs.Common.{◌≡◌, leb, take}
use Rattle.std.specs.List.{list_all}
use Rattle.tape_frames.proofs.tape.are_frames.Given as goal

abbrev pub invariant-loop-byte : goal.invariant-loop-byte
invariant-loop-byte l = l.all ≡ list_all (λ f. leb f 63) (take l.byte-index l.bytes)
