-- What was written before the flush that failed is all of the text.
use Rattle.std.proofs.Common.{rules}
use Rattle.std.specs.Io.KnownBytes.{Appends}
use Rattle.std.proofs.KnownBytes.{Appends-kept}
use Rattle.streams.proofs.Writing.{not_handed_on}
use Rattle.serve_command.specs.Serving.{release_of}
use Rattle.serve_command.proofs.printer.announce.Goals as goal

pub returns-in_err-hand_on : goal.returns-in_err-hand_on
returns-in_err-hand_on g c =
    let written : Appends (g.W.Write.contents c.args.out.now) (g.W.Write.contents c.put_release.new.out) (release_of c.args.release.now) = search rules in
    not_handed_on _ _ _ _ c.from_residual-in_err-hand_on.ensures.0 (Appends-kept _ (g.W.Write.contents c.put_release.new.out) _ _ written c.hand_on.ensures)
