-- What a member of a circuit may say is a packet of the grammar.
use Rattle.std.proofs.Common.{◌≡◌, ℕ, ◌<◌, ◌≤◌, refl, sym, ◌∙◌, arith, Some, None, true, false}
use Rattle.std.specs.Prelude.{◌==◌, not, ◌&&◌, IsTrue}
use Rattle.std.proofs.lemmas.Bool.{eq-eqb, leb-true, and_parts}
use Rattle.tape_frames.specs.Entries.{IsEntry}
use Rattle.protocol.specs.Limits.{most_members}
use Rattle.protocol.specs.Ballots.{Ballot, IsBallot, IsBelow, IsMember, is_below}
use Rattle.protocol.specs.Packets.{Packet, Body, Prepare, Promise, Accept, Accepted, Nack}
use Rattle.protocol.specs.Circuit.{Circuit}
use Rattle.protocol.specs.Progress.{IsBallotOf, BodyMaySay, MaySay}
use Rattle.packets.specs.Rules.{kind_of, may_send, may_say}
use Rattle.packets.specs.Grammar.{IsBody, IsPacket}
use Rattle.packets.specs.Laws.{HasOneSpelling, ReadsItAgain, ReadWhatFits, MembersCanSpeak}
use Rattle.std.proofs.lemmas.Bool.Decides.{nat_tests}

below-is : (a b : Ballot) → IsBelow a b → is_below a b ≡ true
below-is a b e = grind (arith, nat_tests)

ballot_is : (c : ℕ) (b : Ballot) → c ≤ most_members → IsBallotOf c b → IsBallot b
ballot_is c b few is =
    let high : b.owner ≤ c = is.owner.1 in
    record { round_low = is.round_low; round_high = is.round_high; owner_low = is.owner.0; owner_high = omega arith }

body_is : (c : ℕ) (b : Ballot) (from to : ℕ) (body : Body) → c ≤ most_members → BodyMaySay c IsEntry b from to body → IsBody body
body_is c b from to Prepare few says = tt
body_is c b from to (Promise None) few says = tt
body_is c b from to (Promise (Some vote)) few says = (ballot_is c vote.ballot few says.1, says.3)
body_is c b from to (Accept entry) few says = says.1
body_is c b from to (Accepted entry) few says = says
body_is c b from to (Nack promised) few says = ballot_is c promised few says.1

rules_hold : (c : ℕ) (b : Ballot) (from to : ℕ) (body : Body) → (from == to) ≡ false → BodyMaySay c IsEntry b from to body
    → IsTrue (not (from == to) && may_send (kind_of body) b.owner from to && may_say body b)
rules_hold c b from to Prepare differ says = rw (differ, eq-eqb b.owner from says) refl
rules_hold c b from to (Promise None) differ says = rw (differ, eq-eqb b.owner to says) refl
rules_hold c b from to (Promise (Some vote)) differ says = rw (differ, eq-eqb b.owner to says.0, below-is vote.ballot b says.2) refl
rules_hold c b from to (Accept entry) differ says = rw (differ, eq-eqb b.owner from says.0) refl
rules_hold c b from to (Accepted entry) differ says = rw differ refl
rules_hold c b from to (Nack promised) differ says = rw (differ, eq-eqb b.owner to says.0, below-is b promised says.2) refl

module _ {D G F : Type 0} (z : Circuit D G F) (low : z.number < 65536) (few : z.count ≤ most_members) where
  member_is : (m : ℕ) → IsMember z.count m → IsMember most_members m
  member_is m i = let high : m ≤ z.count = i.1 in (i.0, omega arith)

  packet_is : (p : Packet) → MaySay z IsEntry p → IsPacket p
  packet_is p says =
      let range = and_parts _ _ says.number in
      record {
        circuit = let e : p.circuit ≡ z.number = says.circuit in omega arith;
        from = member_is p.from says.from;
        to = member_is p.to says.to;
        number_low = leb-true _ _ range.0;
        number_high = leb-true _ _ range.1;
        ballot = ballot_is z.count p.ballot few says.ballot;
        body = body_is z.count p.ballot p.from p.to p.body few says.body;
        rules = rules_hold z.count p.ballot p.from p.to p.body says.differ says.body;
      }

pub members_can_speak : {G F : Type 0} → HasOneSpelling → ReadsItAgain → ReadWhatFits → MembersCanSpeak G F
members_can_speak spelling again fits z low few reads = (
  λ v bytes p e. fits v bytes p (sym (reads v bytes) ∙ e),
  λ v p says body. (
      let s = spelling v p (packet_is z low few p says) body in
      (s.0, reads v s.0 ∙ again v s.0 p s.1)
      ),
)
