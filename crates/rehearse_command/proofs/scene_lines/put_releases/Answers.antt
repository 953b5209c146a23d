-- One release more.
use Rattle.std.specs.Prelude.{flat_map}
use Rattle.streams.proofs.Parts.{stopped_part}
use Rattle.streams.proofs.Writing.{front_written}
use Rattle.rehearse_command.specs.Lines.{released_text}
use Rattle.rehearse_command.proofs.scene_lines.put_releases.Goals as goal

pub returns-in_err-put_released : goal.returns-in_err-put_released
returns-in_err-put_released g c =
    front_written c.from_residual.result (g.W.Write.contents c.args.out.now) (g.W.Write.contents c.put_released.new.out) (flat_map released_text c.args.releases.now) c.from_residual.ensures.0
    (stopped_part released_text c.args.releases.now c.loop-release.release-index c.release-item.result c.release-item.result
    (g.W.Write.contents c.args.out.now) (g.W.Write.contents c.loop-release.out) (g.W.Write.contents c.put_released.new.out)
    c.loop-release-test.true c.release-item.is c.loop-release.invariant c.in_err-put_released.ensures.err)
