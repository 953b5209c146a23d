-- What a step did, its datagrams, and its releases.
use Rattle.std.proofs.Common.{◌++◌}
use Rattle.std.specs.Prelude.{flat_map}
use Rattle.streams.proofs.Writing.{stopped, then_wrote}
use Rattle.rehearse_command.specs.Datagrams.{datagrams_text}
use Rattle.rehearse_command.specs.Lines.{outcome_line, released_text}
use Rattle.rehearse_command.proofs.scene_lines.put_scene.Goals as goal

pub returns-in_err-put_outcome : goal.returns-in_err-put_outcome
returns-in_err-put_outcome g c =
    let step = c.args.step.now in
    let line = outcome_line step.seen.member step.seen.outcome in
    let sent = datagrams_text step.before step.sent.now in
    let released = flat_map released_text step.releases.now in
    stopped c.from_residual.result (g.W.Write.contents c.args.out.now) (g.W.Write.contents c.put_outcome.new.out) line (sent ++ released) c.from_residual.ensures.0 c.in_err-put_outcome.ensures.err

pub returns-in_err-put_datagrams : goal.returns-in_err-put_datagrams
returns-in_err-put_datagrams g c =
    let step = c.args.step.now in
    let line = outcome_line step.seen.member step.seen.outcome in
    let sent = datagrams_text step.before step.sent.now in
    let released = flat_map released_text step.releases.now in
    let r = c.from_residual-in_err-put_datagrams in
    let from = g.W.Write.contents c.args.out.now in
    let mid = g.W.Write.contents c.put_outcome.new.out in
    let to = g.W.Write.contents c.put_datagrams.new.out in
    then_wrote r.result from mid to line (sent ++ released) c.in_ok-put_outcome.ensures.ok (stopped r.result mid to sent released r.ensures.0 c.in_err-put_datagrams.ensures.err)

pub returns : goal.returns
returns g c =
    let step = c.args.step.now in
    let line = outcome_line step.seen.member step.seen.outcome in
    let sent = datagrams_text step.before step.sent.now in
    let released = flat_map released_text step.releases.now in
    let from = g.W.Write.contents c.args.out.now in
    let mid = g.W.Write.contents c.put_outcome.new.out in
    let next = g.W.Write.contents c.put_datagrams.new.out in
    let to = g.W.Write.contents c.put_releases.new.out in
    then_wrote c.put_releases.result from mid to line (sent ++ released) c.in_ok-put_outcome.ensures.ok
    (then_wrote c.put_releases.result mid next to sent released c.in_ok-put_datagrams.ensures.ok c.put_releases.ensures)
