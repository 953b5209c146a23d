use Rattle.std.proofs.Common.{◌≤◌, length, arith}
use Rattle.std.proofs.lemmas.Bool.Decides.{nat_tests}
use Rattle.tape_frames.specs.Frames.{most_frames}
use Rattle.text_tape.proofs.Punched.{punched_tape}
use Rattle.text_tape.proofs.punching.punch.Goals as goal

pub returns-in-Ok-frames_of-clause-punched : goal.returns-in-Ok-frames_of-clause-punched
returns-in-Ok-frames_of-clause-punched c =
    let p = c.in-Ok-frames_of.ensures.punched in
    let e = c.if-is_empty.ensures in
    let some : 1 ≤ length c.args.text.now = grind (arith, nat_tests) in
    let few : length c.in-Ok-frames_of.frames.items ≤ most_frames = omega (arith, c.in-Ok-frames_of.ensures.few, c.most_of.ensures.range.1) in
    record {
      is_tape = punched_tape c.args.by.now.ligatures.now _ c.args.text.now (length c.args.text.now) p.0 c.in-Ok-frames_of.frames.items p.1 some few;
      few = rw c.most_of.ensures.value at c.in-Ok-frames_of.ensures.few;
      punched = rw c.in-Ok.ensures at p;
    }
