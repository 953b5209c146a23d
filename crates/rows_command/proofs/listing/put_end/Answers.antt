use Rattle.std.proofs.KnownBytes.{Appends-kept}
use Rattle.streams.proofs.Writing.{not_handed_on}
use Rattle.rows_command.proofs.listing.put_end.Goals as goal

pub returns-in_err-hand_on : goal.returns-in_err-hand_on
returns-in_err-hand_on g c =
    not_handed_on _ _ _ _ c.from_residual-in_err-hand_on.ensures.0 (Appends-kept _ (g.W.Write.contents c.put_head.new.out) _ _ c.in_ok-put_head.ensures.ok c.hand_on.ensures)
