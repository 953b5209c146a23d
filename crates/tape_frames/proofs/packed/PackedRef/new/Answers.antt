use Rattle.std.proofs.Common.{arith, rules}
use Rattle.tape_frames.specs.Packing.{AreBytes, IsPacked}
use Rattle.tape_frames.proofs.Packings.{packed_are_tapes, are_bytes}
use Rattle.tape_frames.proofs.packed.PackedRef.new.Goals as goal

pub returns-clause-packs : goal.returns-clause-packs
returns-clause-packs c =
    let fit : AreBytes c.args.bytes.now = are_bytes _ (λ i. omega (arith, c.type_inv.bytes i)) in
    let is : IsPacked c.args.length c.args.bytes.now = search rules in
    (packed_are_tapes _ _ is).2

pub returns-clause-is_tape : goal.returns-clause-is_tape
returns-clause-is_tape c =
    let fit : AreBytes c.args.bytes.now = are_bytes _ (λ i. omega (arith, c.type_inv.bytes i)) in
    let is : IsPacked c.args.length c.args.bytes.now = search rules in
    (packed_are_tapes _ _ is).0
