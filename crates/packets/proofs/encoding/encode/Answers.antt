-- What was written is the packet's one spelling.
use Rattle.std.proofs.Common.{rules}
use Rattle.tape_frames.specs.Entries.{version_of}
use Rattle.packets.specs.Grammar.{IsPacket}
use Rattle.packets.proofs.Written.{is_spelled, is_only}
use Rattle.packets.proofs.Unique.{is_read, is_own, is_two}
use Rattle.packets.proofs.Lengths.{lengths_are_bounded}
use Rattle.packets.proofs.encoding.encode.Goals as goal

pub returns-clause-exact : goal.returns-clause-exact
returns-clause-exact c = search rules

pub returns-clause-spelled : goal.returns-clause-spelled
returns-clause-spelled c =
    let packet : IsPacket c.args.packet.now = (search rules) in
    is_spelled c.packings.ensures (version_of c.args.version) c.args.packet.now c.put_body.new.out.items packet c.requires (returns-clause-exact c)

pub returns-clause-only : goal.returns-clause-only
returns-clause-only c = is_only c.packings.ensures (version_of c.args.version) c.args.packet.now c.put_body.new.out.items (returns-clause-exact c)

pub returns-clause-again : goal.returns-clause-again
returns-clause-again c = is_read c.packings.ensures (version_of c.args.version) c.put_body.new.out.items c.args.packet.now (returns-clause-spelled c)

pub returns-clause-own : goal.returns-clause-own
returns-clause-own c = is_own c.packings.ensures (version_of c.args.version) c.put_body.new.out.items c.args.packet.now (returns-clause-spelled c)

pub returns-clause-two : goal.returns-clause-two
returns-clause-two c = is_two c.packings.ensures (version_of c.args.version) c.put_body.new.out.items c.args.packet.now (returns-clause-spelled c)

pub returns-clause-at_least : goal.returns-clause-at_least
returns-clause-at_least c = (lengths_are_bounded c.packings.ensures (version_of c.args.version) c.put_body.new.out.items c.args.packet.now (returns-clause-spelled c)).0

pub returns-clause-at_most : goal.returns-clause-at_most
returns-clause-at_most c = (lengths_are_bounded c.packings.ensures (version_of c.args.version) c.put_body.new.out.items c.args.packet.now (returns-clause-spelled c)).1
