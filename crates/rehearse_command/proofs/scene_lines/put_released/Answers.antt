-- The line of a tape that sets, and its galley, are the text of its release.
use Rattle.std.proofs.Common.{rules, ◌≡◌, ℕ, List, ◌++◌, subst}
use Rattle.line_check.specs.Galley.{galley_of}
use Rattle.streams.specs.Writing.{Writes}
use Rattle.rehearse_command.specs.Lines.{released_text}
use Rattle.rehearse_command.proofs.scene_lines.put_released.Goals as goal

pub returns-in_ok-set_line-in-Tape-Ok : goal.returns-in_ok-set_line-in-Tape-Ok
returns-in_ok-set_line-in-Tape-Ok g c =
    let text : c.deref.result.now ++ galley_of c.in-Tape-Ok.slugs.now ≡ released_text c.args.release.now = search rules in
    subst (λ (t : List ℕ). Writes c.put_set.result (g.W.Write.contents c.args.out.now) (g.W.Write.contents c.put_set.new.out) t) text c.put_set.ensures
