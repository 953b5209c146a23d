-- What was asked and the turns, over the output behind the printer.
use Rattle.std.proofs.Common.{rules, ◌≡◌, ◌∙◌, false, refl}
use Rattle.command_ends.specs.Ends.{end_of}
use Rattle.command_ends.specs.declared.end.End.TheVariants as ends
use Rattle.driver.specs.Events.{ended}
use Rattle.driver.specs.Driving.{known, post, post_of}
use Rattle.driver.proofs.Driven.{came_from, drove_kept, left_so, seen_from, stays, untouched, when_well}
use Rattle.driver.proofs.Stretches.{ends_badly}
use Rattle.serve_command.specs.Serving.{prints, IsRun}
use Rattle.serve_command.specs.Printed.{printing_fates}
use Rattle.serve_command.proofs.serve_loop.serve_run.Goals as goal

pub returns-then-stopped : goal.returns-then-stopped
returns-then-stopped g c = record {
  done =
      untouched (known g.R.Rows g.R.Settles.is_settled g.N.Wire.passed (prints g.W.Write.contents)) _ (printing_fates g.W.Write.contents) c.args.machine.now.station c.args.machine.now.wire c.args.machine.now.outside
      ends.Input (end_of c.of_step.result) (IsRun c.args.task) c.of_step.ensures (ends_badly c.of_step.result) refl;
  was_kept = λ kept. kept;
  goes_on = tt;
}

pub returns : goal.returns
returns g c =
    let k = known g.R.Rows g.R.Settles.is_settled g.N.Wire.passed (prints g.W.Write.contents) in
    let last = c.ask_and_turn.new.driver in
    let form = IsRun c.args.task in
    let drove = c.ask_and_turn.ensures in
    let end = ended c.ask_and_turn.result in
    let was = post c.args.machine.now.station c.args.machine.now.wire c.args.machine.now.outside in
    let there = post last.station.now last.wire.now last.sink.out.now in
    let station : last.station.ghost_name ≡ _ = drove.hands.0 in
    let wire : last.wire.ghost_name ≡ _ = drove.hands.1 in
    let came = came_from _ _ (post_of last) _ _ _ end form c.new-driver.ensures.is drove.done in
    let same : last.sink.out.ghost_name ≡ _ = came.1.0 in
    let told = seen_from _ (prints g.W.Write.contents) _ (post_of last) _ _ _ end form c.args.machine.now.outside last.sink.out.now c.new-driver.ensures.is drove.done (λ log p. p.1) (λ log done p. p.1) in
    let kept : (g.R.Rows.kept last.station.now.rows → g.R.Rows.kept c.args.machine.now.station.rows) = drove_kept k was there end form told in
    let went : c.args.machine.now.station.stopped ≡ false = search rules in
    let goes : (end ≡ ends.Done → last.station.now.stopped ≡ false) = (λ done. stays k was there end form done told ∙ went) in
    record {
      done = left_so k was last.station.now _ last.wire.now _ last.sink.out.now _ end form (search rules) (search rules) (search rules) told;
      was_kept = search rules;
      goes_on = when_well c.ask_and_turn.result _ (λ done. let gone : last.station.now.stopped ≡ false = goes done in search rules);
    }
