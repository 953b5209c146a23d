use Rattle.std.proofs.Common.{rules, arith}
use Rattle.tape_frames.proofs.Taking.{is_first, is_second, is_third, is_fourth}
use Rattle.tape_frames.proofs.packed.frame_at.Goals as goal

pub returns-in-0 : goal.returns-in-0
returns-in-0 c = let l = c.if-i-frames.false in is_first c.args.bytes.now c.args.frames c.args.i c.requires (omega (arith, l)) c.in-0.is

pub returns-in-1 : goal.returns-in-1
returns-in-1 c = let l = c.if-i-frames.false in is_second c.args.bytes.now c.args.frames c.args.i c.requires (omega (arith, l)) c.in-1.is

pub returns-in-2 : goal.returns-in-2
returns-in-2 c = let l = c.if-i-frames.false in is_third c.args.bytes.now c.args.frames c.args.i c.requires (omega (arith, l)) c.in-2.is

pub returns-in_default : goal.returns-in_default
returns-in_default c = let l = c.if-i-frames.false in is_fourth c.args.bytes.now c.args.frames c.args.i c.requires (omega (arith, l)) (search rules)
