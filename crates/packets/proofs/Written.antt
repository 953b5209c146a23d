-- What spells a packet in a version is what is written of it, and what is written spells it.
use Rattle.std.proofs.Common.{◌≡◌, ℕ, List, [], ◌∷◌, ◌++◌, length, Some, None, refl, sym, ap, subst, ◌∙◌, arith, append_assoc}
use Rattle.std.specs.Int.{w16, w32, to_be_bytes}
use Rattle.tape_frames.specs.Entries.{entry_frames, IsEntry}
use Rattle.tape_frames.specs.Packing.{packing_of}
use Rattle.protocol.specs.Ballots.{Ballot, IsBallot}
use Rattle.protocol.specs.Entries.{Tape, Entry, Void, Taped}
use Rattle.protocol.specs.Rows.{Vote}
use Rattle.protocol.specs.Versions.{Version, One, Two}
use Rattle.protocol.specs.Packets.{Packet, Body, Prepare, Promise, Accept, Accepted, Nack}
use Rattle.protocol.specs.Fitting.{Fits, BodyFits}
use Rattle.packets.specs.Rules.{kind_of}
use Rattle.packets.specs.Spelling.{kind_byte, ballot_bytes, entry_bytes, report_bytes, body_bytes, spelling}
use Rattle.packets.specs.Grammar.{IsTapeOne, SpellsBallot, SpellsTape, SpellsPacked, SpellsEntry, SpellsVote, SpellsBody, Spells, number_of_version, number_of_kind, IsBody, IsPacket}
use Rattle.packets.specs.Laws.{HasOneSpelling, OnlyWhatFits, Packings}
use Rattle.packets.proofs.Numbers.{two_are, two_below, four_are, two_written, four_written}
use Rattle.packets.proofs.Entries.{few_frames, are_frames}
use Rattle.packets.proofs.Tapes.{tape_one, one_tape, fits_one}

kind_is : (b : Body) → number_of_kind b ≡ kind_byte (kind_of b)
kind_is Prepare = refl
kind_is (Promise report) = refl
kind_is (Accept entry) = refl
kind_is (Accepted entry) = refl
kind_is (Nack promised) = refl

-- what is put behind bytes that were put
pub behind : (out first second once twice : List ℕ) → once ≡ out ++ first → twice ≡ once ++ second → twice ≡ out ++ (first ++ second)
behind out first second once twice e f = f ∙ ap (λ (x : List ℕ). x ++ second) e ∙ append_assoc out first second

-- the fields of a packet, one behind the other
abbrev joined : ℕ → ℕ → List ℕ → ℕ → ℕ → List ℕ → List ℕ → List ℕ → List ℕ
joined version kind circuit from to number ballot body = 84 ∷ 78 ∷ version ∷ kind ∷ [] ++ circuit ++ from ∷ to ∷ [] ++ number ++ ballot ++ body

-- ---- what is spelled fits

entry_is : (v : Version) (bytes : List ℕ) (x : Entry) → SpellsEntry v bytes x → IsEntry x × Fits v x
entry_is One bytes Void s = absurd s
entry_is One bytes (Taped tape) s = let is : IsTapeOne tape = s.is_tape in (one_tape tape is, fits_one tape is.some is.few)
entry_is Two bytes x s = (s.is_entry, refl)

body_is : (v : Version) (bytes : List ℕ) (b : Body) → SpellsBody v bytes b → IsBody b × BodyFits v b
body_is v bytes Prepare s = (tt, tt)
body_is v bytes (Promise None) s = (tt, tt)
body_is v bytes (Promise (Some vote)) s = let entry = entry_is v s.entry vote.entry s.spells_entry in ((s.spells_ballot.is_ballot, entry.0), entry.1)
body_is v bytes (Accept entry) s = entry_is v bytes entry s
body_is v bytes (Accepted entry) s = entry_is v bytes entry s
body_is v bytes (Nack promised) s = (s.is_ballot, tt)

-- what has a spelling in a version is a packet, whose entries fit it
pub packet_is : OnlyWhatFits
packet_is v bytes p s =
    let body = body_is v s.body p.body s.spells_body in (
      record {
        circuit = two_below s.circuit p.circuit s.spells_circuit;
        from = s.from_is_member;
        to = s.to_is_member;
        number_low = s.number_low;
        number_high = s.number_high;
        ballot = s.spells_ballot.is_ballot;
        body = body.0;
        rules = s.rules;
      },
      body.1,
    )

-- ---- parts without an entry

ballot_are : (bytes : List ℕ) (b : Ballot) → SpellsBallot bytes b → bytes ≡ ballot_bytes b
ballot_are bytes b s = s.are ∙ ap (λ (r : List ℕ). r ++ b.owner ∷ []) (four_are s.round b.round s.spells_round)

ballot_written : (b : Ballot) → IsBallot b → SpellsBallot (ballot_bytes b) b
ballot_written b is =
    let high = is.round_high in
    record { round = to_be_bytes w32 b.round; are = refl; spells_round = four_written b.round (omega (arith, high)); is_ballot = is }

tape_are : (bytes : List ℕ) (tape : Tape) → SpellsTape bytes tape → bytes ≡ entry_bytes One (Taped tape)
tape_are bytes tape s = s.are ∙ ap (λ (r : List ℕ). r ++ tape) (two_are s.count (length tape) s.spells_count)

tape_written : (tape : Tape) → IsTapeOne tape → SpellsTape (entry_bytes One (Taped tape)) tape
tape_written tape is =
    let few = is.few in
    record { count = to_be_bytes w16 (length tape); are = refl; spells_count = two_written (length tape) (omega (arith, few)); is_tape = is }

module _ (k : Packings) where
  -- ---- what is spelled is what is written

  packed_are : (bytes : List ℕ) (x : Entry) → SpellsPacked bytes x → bytes ≡ entry_bytes Two x
  packed_are bytes x s =
      let frames = entry_frames x in
      let own = k.given frames (are_frames x s.is_entry) in
      let count = two_are s.count (length frames) s.spells_count in
      let packed : s.packed ≡ packing_of frames = k.one frames s.packed (packing_of frames) s.are_bytes own.1 s.packs own.0 in
      s.are ∙ (λ i. count i ++ packed i)

  entry_are : (v : Version) (bytes : List ℕ) (x : Entry) → SpellsEntry v bytes x → bytes ≡ entry_bytes v x
  entry_are One bytes Void s = absurd s
  entry_are One bytes (Taped tape) s = tape_are bytes tape s
  entry_are Two bytes x s = packed_are bytes x s

  vote_are : (v : Version) (bytes : List ℕ) (vote : Vote) → SpellsVote v bytes vote → bytes ≡ report_bytes v (Some vote)
  vote_are v bytes vote s =
      let b = ballot_are s.ballot vote.ballot s.spells_ballot in
      let t = entry_are v s.entry vote.entry s.spells_entry in
      s.are ∙ (λ i. 1 ∷ b i ++ t i)

  body_are : (v : Version) (bytes : List ℕ) (b : Body) → SpellsBody v bytes b → bytes ≡ body_bytes v b
  body_are v bytes Prepare s = s
  body_are v bytes (Promise None) s = s
  body_are v bytes (Promise (Some vote)) s = vote_are v bytes vote s
  body_are v bytes (Accept entry) s = entry_are v bytes entry s
  body_are v bytes (Accepted entry) s = entry_are v bytes entry s
  body_are v bytes (Nack promised) s = ballot_are bytes promised s

  -- what spells a packet is what is written of it
  pub packet_are : (v : Version) (bytes : List ℕ) (p : Packet) → Spells v bytes p → bytes ≡ spelling v p
  packet_are v bytes p s =
      let kind = kind_is p.body in
      let circuit = two_are s.circuit p.circuit s.spells_circuit in
      let number = four_are s.number p.number s.spells_number in
      let ballot = ballot_are s.ballot p.ballot s.spells_ballot in
      let body = body_are v s.body p.body s.spells_body in
      s.are ∙ (λ i. joined (number_of_version v) (kind i) (circuit i) p.from p.to (number i) (ballot i) (body i))

  -- ---- what is written spells it

  packed_written : (x : Entry) → IsEntry x → SpellsPacked (entry_bytes Two x) x
  packed_written x is =
      let frames = entry_frames x in
      let own = k.given frames (are_frames x is) in
      let few = few_frames x is in
      record {
        count = to_be_bytes w16 (length frames);
        packed = packing_of frames;
        are = refl;
        spells_count = two_written (length frames) (omega (arith, few));
        packs = own.0;
        are_bytes = own.1;
        is_entry = is;
      }

  entry_written : (v : Version) (x : Entry) → IsEntry x → Fits v x → SpellsEntry v (entry_bytes v x) x
  entry_written One Void is fits = absurd cc
  entry_written One (Taped tape) is fits = tape_written tape (tape_one tape is fits)
  entry_written Two x is fits = packed_written x is

  body_written : (v : Version) (b : Body) → IsBody b → BodyFits v b → SpellsBody v (body_bytes v b) b
  body_written v Prepare is fits = refl
  body_written v (Promise None) is fits = refl
  body_written v (Promise (Some vote)) is fits =
      record {
        ballot = ballot_bytes vote.ballot;
        entry = entry_bytes v vote.entry;
        are = refl;
        spells_ballot = ballot_written vote.ballot is.0;
        spells_entry = entry_written v vote.entry is.1 fits;
      }
  body_written v (Accept entry) is fits = entry_written v entry is fits
  body_written v (Accepted entry) is fits = entry_written v entry is fits
  body_written v (Nack promised) is fits = ballot_written promised is

  -- what is written of a packet spells it
  pub packet_written : (v : Version) (p : Packet) → IsPacket p → BodyFits v p.body → Spells v (spelling v p) p
  packet_written v p is fits =
      let high = is.number_high in
      record {
        circuit = to_be_bytes w16 p.circuit;
        number = to_be_bytes w32 p.number;
        ballot = ballot_bytes p.ballot;
        body = body_bytes v p.body;
        are =
            ap (λ k. joined (number_of_version v) k (to_be_bytes w16 p.circuit) p.from p.to (to_be_bytes w32 p.number) (ballot_bytes p.ballot) (body_bytes v p.body))
            (sym (kind_is p.body));
        spells_circuit = two_written p.circuit is.circuit;
        from_is_member = is.from;
        to_is_member = is.to;
        spells_number = four_written p.number (omega (arith, high));
        number_low = is.number_low;
        number_high = is.number_high;
        spells_ballot = ballot_written p.ballot is.ballot;
        spells_body = body_written v p.body is.body fits;
        rules = is.rules;
      }

  pub has_one : HasOneSpelling
  has_one v p is fits = (spelling v p, packet_written v p is fits, λ other s. packet_are v other p s)

  -- what was written, in the grammar's words
  pub is_spelled : (v : Version) (p : Packet) (bytes : List ℕ) → IsPacket p → BodyFits v p.body → bytes ≡ spelling v p → Spells v bytes p
  is_spelled v p bytes is fits e = subst (λ (x : List ℕ). Spells v x p) (sym e) (packet_written v p is fits)

  pub is_only : (v : Version) (p : Packet) (bytes : List ℕ) → bytes ≡ spelling v p → (other : List ℕ) → Spells v other p → other ≡ bytes
  is_only v p bytes e other s = packet_are v other p s ∙ sym e
