-- The releases so far are written.
use Rattle.std.proofs.Common.{take}
use Rattle.std.specs.Prelude.{flat_map}
use Rattle.std.specs.Io.KnownBytes.{Appends}
use Rattle.rehearse_command.specs.Lines.{released_text}
use Rattle.rehearse_command.proofs.scene_lines.put_releases.Given as goal

abbrev pub invariant-loop-release : goal.invariant-loop-release
invariant-loop-release g l = Appends (g.W.Write.contents l.initial.out) (g.W.Write.contents l.out) (flat_map released_text (take l.release-index l.releases))
