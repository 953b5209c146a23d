-- The line is that of the packet which the datagram spells.
use Rattle.std.proofs.Common.{ℕ, List, subst, ◌∙◌}
use Rattle.streams.specs.Writing.{Writes}
use Rattle.rehearse_command.proofs.DatagramListing.{datagram_is}
use Rattle.rehearse_command.proofs.datagram_lines.put_datagram.Goals as goal

pub returns : goal.returns
returns g c =
    subst (λ (text : List ℕ). Writes c.put_line.result (g.W.Write.contents c.args.out.now) (g.W.Write.contents c.put_line.new.out) text)
    (datagram_is c.args.k c.args.datagram.now c.bytes.result.now c.in-Ok.packet c.deref.result.now c.bytes.ensures c.in-Ok.ensures.exact (c.deref.ensures ∙ c.in_ok-packet_line.ensures))
    c.put_line.ensures
