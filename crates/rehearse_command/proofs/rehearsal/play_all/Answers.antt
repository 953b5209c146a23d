-- One line more; and the flush leaves what was written.
use Rattle.std.proofs.Common.{rules}
use Rattle.std.proofs.lemmas.Result.{IfOk-from_err}
use Rattle.streams.proofs.Parts.{at_err}
use Rattle.rehearse_command.proofs.Shown.{front_rehearsed, kept_rehearsed, staged_rehearsed}
use Rattle.rehearse_command.proofs.rehearsal.play_all.Goals as goal
use Rattle.rehearse_command.proofs.rehearsal.play_all.Goals.{then-not-is_ignored+in_default, else-not-is_ignored}

pub loop-index-preserved : goal.loop-index-preserved
loop-index-preserved g c = λ by set_up.
    elim c.if-not-is_ignored.branch [
      | then-not-is_ignored+in_default w ↦ rw (w.out-is, w.stage-is) (w.in_default.ensures.goes_on by (g.W.Write.contents c.args.out.now) set_up (c.loop-index.invariant by set_up))
      | else-not-is_ignored w ↦ rw (w.out-is, w.stage-is) (c.loop-index.invariant by set_up)
    ]

pub returns-in-Err : goal.returns-in-Err
returns-in-Err g c = λ by set_up. record {
  ok = tt;
  err = c.in-Err.ensures.stops by (g.W.Write.contents c.args.out.now) set_up (c.loop-index.invariant by set_up);
  ends = c.at.ensures;
}

pub returns : goal.returns
returns g c = λ by set_up. record {
  ok = kept_rehearsed by (g.W.Write.contents c.args.out.now) (g.W.Write.contents c.loop-index.out) (g.W.Write.contents c.hand_on.new.out) c.hand_on.ensures
      (staged_rehearsed by (g.W.Write.contents c.args.out.now) (g.W.Write.contents c.loop-index.out) c.loop-index.stage (c.loop-index.invariant by set_up));
  err = tt;
  ends = tt;
}

pub returns-in_err-hand_on : goal.returns-in_err-hand_on
returns-in_err-hand_on g c = λ by set_up.
    let r = c.from_residual-in_err-hand_on in
    record {
      ok = IfOk-from_err r.result _ r.ensures.0;
      err = at_err r.result (front_rehearsed by (g.W.Write.contents c.args.out.now) (g.W.Write.contents c.hand_on.new.out)
          (kept_rehearsed by (g.W.Write.contents c.args.out.now) (g.W.Write.contents c.loop-index.out) (g.W.Write.contents c.hand_on.new.out) c.hand_on.ensures
          (staged_rehearsed by (g.W.Write.contents c.args.out.now) (g.W.Write.contents c.loop-index.out) c.loop-index.stage (c.loop-index.invariant by set_up))));
      ends = search rules;
    }
