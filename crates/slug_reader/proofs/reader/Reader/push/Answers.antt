-- A piece, frame by frame.
use Rattle.std.proofs.Common.{refl, ◌∙◌}
use Rattle.slug_reader.proofs.Standing.{stopped_pushed, step_on, fault_on}
use Rattle.slug_reader.proofs.reader.Reader.push.Goals as goal

pub returns-in-Err-clause-pushed : goal.returns-in-Err-clause-pushed
returns-in-Err-clause-pushed c = λ tape i s p.
    let h = c.loop-frame.invariant.stands tape i s p in
    stopped_pushed c.args.self.now _ tape i _ c.read_frame.new.lines.items c.in-Err.fault c.stopped.result c.stopped.ensures
    (λ m. fault_on c.args.self.now c.loop-frame.self c.read_frame.new.self tape i c.loop-frame.frame-index c.args.piece.now c.loop-frame.lines.items c.read_frame.new.lines.items c.in-Err.fault h.0 h.1 c.loop-frame.invariant.table c.loop-frame.invariant.widths p c.loop-frame-test.true
    (c.in-Err.ensures.step tape _ h.0) m)
    refl

pub loop-frame-preserved : goal.loop-frame-preserved
loop-frame-preserved c = record {
  table = c.in_default-read_frame.ensures.by.0 ∙ c.loop-frame.invariant.table;
  widths = c.in_default-read_frame.ensures.by.1 ∙ c.loop-frame.invariant.widths;
  going = c.in_default-read_frame.ensures.fault ∙ c.loop-frame.invariant.going;
  fresh = c.loop-frame.invariant.fresh;
  stands = λ tape i s p.
      let h = c.loop-frame.invariant.stands tape i s p in
      step_on c.args.self.now c.loop-frame.self c.read_frame.new.self tape i c.loop-frame.frame-index c.args.piece.now c.loop-frame.lines.items c.read_frame.new.lines.items _ h.0 h.1 c.loop-frame.invariant.table c.loop-frame.invariant.widths p c.loop-frame-test.true
      (c.in_default-read_frame.ensures.step tape _ h.0);
}
