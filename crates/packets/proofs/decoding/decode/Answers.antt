-- What was read is read in the grammar's words.
use Rattle.std.proofs.Common.{arith, ◌∙◌}
use Rattle.packets.proofs.Unique.{at_found, at_read, at_nothing, at_fits}
use Rattle.packets.proofs.decoding.decode.Goals as goal

pub returns-clause-found : goal.returns-clause-found
returns-clause-found c = at_found c.packings.ensures _ _ _ (λ i. omega (arith, c.type_inv.bytes i)) (c.packet_of.ensures ∙ c.read_version.ensures)

pub returns-clause-only : goal.returns-clause-only
returns-clause-only c p s = c.packet_of.ensures ∙ c.read_version.ensures ∙ at_read c.packings.ensures _ _ p s

pub returns-clause-nothing : goal.returns-clause-nothing
returns-clause-nothing c = at_nothing c.packings.ensures _ _ _ (c.packet_of.ensures ∙ c.read_version.ensures)

pub returns-clause-fits : goal.returns-clause-fits
returns-clause-fits c = at_fits _ _ _ (c.packet_of.ensures ∙ c.read_version.ensures)
