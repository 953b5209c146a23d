-- A copy with another addressee is the packet's spelling.
use Rattle.std.proofs.Common.{rules, subst}
use Rattle.std.specs.Prelude.{IfSome}
use Rattle.tape_frames.specs.Entries.{version_of}
use Rattle.packets.specs.Grammar.{SpellsAlike}
use Rattle.packets.proofs.Alike.{is_alike}
use Rattle.packets.proofs.Unique.{is_again}
use Rattle.packets.proofs.encoding.encode_beside.Goals as goal

pub returns-in-Some-clause-spelled : goal.returns-in-Some-clause-spelled
returns-in-Some-clause-spelled c =
    let alike : SpellsAlike (version_of c.args.version) c.in-Some.spelled.now c.args.packet.now =
    subst (λ o. IfSome o (λ bytes. SpellsAlike (version_of c.args.version) bytes.now c.args.packet.now)) c.in-Some.is c.requires.alike in
    is_alike c.packings.ensures (version_of c.args.version) c.args.packet.now c.in-Some.spelled.now c.to.result c.readdressed.result c.readdressed.ensures c.to.ensures (search rules) alike c.keeps_rules.ensures

pub returns-in-Some-clause-again : goal.returns-in-Some-clause-again
returns-in-Some-clause-again c = is_again c.packings.ensures _ _ _ (returns-in-Some-clause-spelled c)
