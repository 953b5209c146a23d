use Rattle.reel_commands.proofs.Made.{made_more}
use Rattle.reel_commands.proofs.importing.make_all.Goals as goal

pub loop-before-preserved : goal.loop-before-preserved
loop-before-preserved g c =
    made_more c.args.roll.now.frames.items c.deref.result.now c.frames_in-frames.result.now c.args.roll.now.tapes.items c.deref-tape-items.result.now c.loop-before.before
    (record { from = 0; to = 0 }) (g.F.TapeFolder.made c.args.folder.now) (g.F.TapeFolder.made c.loop-before.folder) (g.F.TapeFolder.made c.make_one.new.folder)
    c.loop-before-test.true c.deref-tape-items.ensures.value c.deref.ensures.value c.frames_in-frames.ensures c.loop-before.invariant c.in_ok-make_one.ensures.ok
