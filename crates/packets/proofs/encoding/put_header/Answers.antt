-- Each field stands behind those before it.
use Rattle.std.proofs.Common.{rules, ◌≡◌, ◌++◌, ◌∷◌, []}
use Rattle.std.specs.Int.{w16, w32, to_be_bytes}
use Rattle.tape_frames.specs.Entries.{version_of}
use Rattle.packets.specs.Grammar.{number_of_version}
use Rattle.packets.specs.Rules.{kind_of}
use Rattle.packets.specs.Spelling.{kind_byte, ballot_bytes}
use Rattle.packets.proofs.Written.{behind}
use Rattle.packets.proofs.encoding.put_header.Goals as goal

pub returns-clause-ok : goal.returns-clause-ok
returns-clause-ok c =
    let out = c.args.out.now.items in
    let p = c.args.packet.now in
    let mark : c.extend_from_slice.new.self.items ≡ out ++ 84 ∷ 78 ∷ number_of_version (version_of c.args.version) ∷ kind_byte (kind_of p.body) ∷ [] = (search rules) in
    let circuit : c.extend_from_slice-2.new.self.items ≡ c.extend_from_slice.new.self.items ++ to_be_bytes w16 p.circuit = (search rules) in
    let ends : c.extend_from_slice-3.new.self.items ≡ c.extend_from_slice-2.new.self.items ++ p.from ∷ p.to ∷ [] = (search rules) in
    let number : c.extend_from_slice-4.new.self.items ≡ c.extend_from_slice-3.new.self.items ++ to_be_bytes w32 p.number = (search rules) in
    let ballot : c.put_ballot.new.out.items ≡ c.extend_from_slice-4.new.self.items ++ ballot_bytes p.ballot = (search rules) in
    behind out _ _ _ _ (behind out _ _ _ _ (behind out _ _ _ _ (behind out _ _ _ _ mark circuit) ends) number) ballot
