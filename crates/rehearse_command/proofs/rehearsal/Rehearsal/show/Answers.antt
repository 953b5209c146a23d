-- One scene more; or none, where the world refuses the step.
use Rattle.std.proofs.Common.{length, ap, refl}
use Rattle.std.specs.Io.KnownBytes.{Appends}
use Rattle.std.proofs.KnownBytes.{Appends-trans}
use Rattle.std.proofs.lemmas.Result.{IfOk-from_err}
use Rattle.streams.specs.Fronts.{AppendsFront}
use Rattle.streams.proofs.Parts.{at_err, front_then}
use Rattle.rehearse_command.proofs.Shown.{behind, front_shown, shown_step, shown_still}
use Rattle.rehearse_command.proofs.rehearsal.Rehearsal.show.Goals as goal

pub returns : goal.returns
returns g c = record {
  goes_on = λ by start s.
      let adds = c.in_ok-seen.ensures.tells.1 in
      let mid = g.W.Write.contents c.args.out.now in
      let new = g.W.Write.contents c.put_scene.new.out in
      shown_step by (Appends start mid) (Appends start new) c.args.self.now.world c.step.new.self c.args.step.now c.in_ok-seen.seen _ _ _ s c.in_ok-seen.ensures.steps adds.member c.in_ok-seen.ensures.reached c.in_ok-seen.ensures.agreed
      (ap length c.sent.ensures)
      (behind _ _ _ _ _ _ adds.sent c.sent.ensures c.sent-2.ensures c.split_at.ensures.back)
      (behind _ _ _ _ _ _ adds.releases c.releases.ensures c.releases-2.ensures c.split_at-2.ensures.back)
      (λ text p. Appends-trans start mid new text _ p c.in_ok-put_scene.ensures.ok);
  stops = λ by start s. tt;
  is_new = refl;
}

pub returns-in_err-put_scene : goal.returns-in_err-put_scene
returns-in_err-put_scene g c =
    let r = c.from_residual-in_err-put_scene in
    record {
      goes_on = λ by start s. IfOk-from_err r.result _ r.ensures.0;
      stops = λ by start s.
          let adds = c.in_ok-seen.ensures.tells.1 in
          let mid = g.W.Write.contents c.args.out.now in
          let new = g.W.Write.contents c.put_scene.new.out in
          at_err r.result (shown_step by (Appends start mid) (AppendsFront start new) c.args.self.now.world c.step.new.self c.args.step.now c.in_ok-seen.seen _ _ _ s c.in_ok-seen.ensures.steps adds.member c.in_ok-seen.ensures.reached c.in_ok-seen.ensures.agreed
          (ap length c.sent.ensures)
          (behind _ _ _ _ _ _ adds.sent c.sent.ensures c.sent-2.ensures c.split_at.ensures.back)
          (behind _ _ _ _ _ _ adds.releases c.releases.ensures c.releases-2.ensures c.split_at-2.ensures.back)
          (λ text p. front_then start mid new text _ p c.in_err-put_scene.ensures.err));
      is_new = refl;
    }

pub returns-in_err-seen : goal.returns-in_err-seen
returns-in_err-seen g c =
    let r = c.from_residual in
    record {
      goes_on = λ by start s. IfOk-from_err r.result _ r.ensures.0;
      stops = λ by start s.
          let v = c.args.self.now.world in
          let w = c.step.new.self in
          let same = c.in_err-seen.ensures.tells.1 in
          let mid = g.W.Write.contents c.args.out.now in
          at_err r.result (front_shown by start mid w (shown_still by (Appends start mid) v w c.args.step.now c.in_err-seen.field-0.0 s c.in_err-seen.ensures.steps c.in_err-seen.ensures.reached c.in_err-seen.ensures.agreed same.sent same.releases));
      is_new = refl;
    }
