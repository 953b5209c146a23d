-- What is written of a packet in a version is read again in it, and where bytes follow it, they are too many.
use Rattle.std.proofs.Common.{◌≡◌, ℕ, ◌<◌, ◌≤◌, Bool, true, false, cond, not, ◌&&◌, ltb, leb, eqb, List, [], ◌∷◌, ◌++◌, length, Some, None, Ok, refl, ap, ◌∙◌, arith}
use Rattle.std.specs.Int.{w16, w32, to_be_bytes}
use Rattle.std.proofs.lemmas.Bool.{le-ltb, le-leb, eq-eqb, ne_eqb, and_parts, not-true}
use Rattle.std.proofs.lemmas.List.{take_at, drop_at, length-append}
use Rattle.std.proofs.lemmas.Nat.{from_be_bytes-to_be_bytes_2, from_be_bytes-to_be_bytes_4}
use Rattle.tape_frames.specs.Frames.{most_frames}
use Rattle.tape_frames.specs.Packing.{packed_len, packing_of, pad_of}
use Rattle.tape_frames.specs.Entries.{entry_frames, IsEntry}
use Rattle.protocol.specs.Limits.{most_frames_one}
use Rattle.protocol.specs.Ballots.{Ballot, IsBallot, IsMember, is_below}
use Rattle.protocol.specs.Entries.{Tape, Entry, Void, Taped}
use Rattle.protocol.specs.Rows.{Vote}
use Rattle.protocol.specs.Versions.{Version, One, Two}
use Rattle.protocol.specs.Packets.{Packet, Body, Prepare, Promise, Accept, Accepted, Nack}
use Rattle.protocol.specs.Fitting.{Fits, BodyFits}
use Rattle.packets.specs.declared.body.PacketKind.{PacketKind}
use Rattle.packets.specs.declared.body.PacketKind.TheVariants as kinds
use Rattle.packets.specs.Rules.{kind_of, may_send, may_say, keeps_rules}
use Rattle.packets.specs.Spelling.{kind_byte, ballot_bytes, header_bytes, entry_bytes, body_bytes, spelling}
use Rattle.packets.specs.Grammar.{IsTapeOne, IsBody, IsPacket, number_of_version}
use Rattle.packets.specs.Laws.{Packings}
use Rattle.packets.proofs.Entries.{few_frames, packing_length}
use Rattle.packets.proofs.Tapes.{no_fault, tape_one}
use Rattle.packets.specs.Reading.{◌>>=◌, ends, frames_at, packed_entry, packed_at, entry_at, whole_entry_at, ballot_at, vote_at, promise_at, nack_at, body_at, kind_at, members_at, member_at, number_at, header_at, packet_in, kind_of_byte}

-- ---- the header

ballot_again : (b : Ballot) (rest : List ℕ) → IsBallot b → ballot_at (ballot_bytes b ++ rest) 0 ≡ Some b
unfolding ballot_at
ballot_again b rest is =
    let high = is.round_high in
    let back = from_be_bytes-to_be_bytes_4 b.round (omega (arith, high)) in
    let t0 = le-leb _ _ is.round_low in
    let t1 = le-leb _ _ is.owner_low in
    let t2 = le-leb _ _ is.owner_high in
    rw (back, t0, t1, t2) refl

kind_back : (kind : PacketKind) → kind_of_byte (kind_byte kind) ≡ Some kind
kind_back kinds.Prepare = refl
kind_back kinds.Promise = refl
kind_back kinds.Accept = refl
kind_back kinds.Accepted = refl
kind_back kinds.Nack = refl

kind_again : (v : Version) (kind : PacketKind) (rest : List ℕ) → 13 ≤ length rest → kind_at v (84 ∷ 78 ∷ number_of_version v ∷ kind_byte kind ∷ rest) ≡ Ok kind
unfolding kind_at
kind_again v kind rest h =
    let long : ltb (length (84 ∷ 78 ∷ number_of_version v ∷ kind_byte kind ∷ rest)) 17 ≡ false = le-ltb _ _ (omega (arith, h)) in
    let version : eqb (number_of_version v) (number_of_version v) ≡ true = eq-eqb _ _ refl in
    rw (long, version, kind_back kind) refl

header_again : (v : Version) (kind : PacketKind) (circuit from to number : ℕ) (b : Ballot) (rest : List ℕ) → circuit < 65536 → IsMember 15 from → IsMember 15 to → 1 ≤ number → number ≤ 999999 → IsBallot b → eqb from to ≡ false → may_send kind b.owner from to ≡ true
    → header_at v (header_bytes v kind circuit from to number b ++ rest) ≡ Ok (record { kind = kind; route = record { circuit = circuit; from = from; to = to }; number = number; ballot = b })
unfolding header_at members_at member_at number_at ballot_at
header_again v kind circuit from to number b rest fits is_from is_to low high is differ send =
    let first = kind_again v kind (to_be_bytes w16 circuit ++ from ∷ to ∷ [] ++ to_be_bytes w32 number ++ ballot_bytes b ++ rest) (omega arith) in
    let c = from_be_bytes-to_be_bytes_2 circuit fits in
    let n = from_be_bytes-to_be_bytes_4 number (omega (arith, high)) in
    let round_high = is.round_high in
    let r = from_be_bytes-to_be_bytes_4 b.round (omega (arith, round_high)) in
    let f0 = le-leb _ _ is_from.0 in
    let f1 = le-leb _ _ is_from.1 in
    let t0 = le-leb _ _ is_to.0 in
    let t1 = le-leb _ _ is_to.1 in
    let n0 = le-leb _ _ low in
    let n1 = le-leb _ _ high in
    let b0 = le-leb _ _ is.round_low in
    let b1 = le-leb _ _ is.owner_low in
    let b2 = le-leb _ _ is.owner_high in
    rw (first, f0, f1, t0, t1, differ, n, n0, n1, r, b0, b1, b2, send, c) refl

-- the rules of a packet, one by one
record Rules (p : Packet) : Type 0 where
  pub differ : eqb p.from p.to ≡ false
  pub send : may_send (kind_of p.body) p.ballot.owner p.from p.to ≡ true
  pub say : may_say p.body p.ballot ≡ true

rules_of : (p : Packet) → keeps_rules p ≡ true → Rules p
rules_of p h =
    let a = and_parts (not (eqb p.from p.to) && may_send (kind_of p.body) p.ballot.owner p.from p.to) (may_say p.body p.ballot) h in
    let b = and_parts (not (eqb p.from p.to)) (may_send (kind_of p.body) p.ballot.owner p.from p.to) a.0 in
    record { differ = not-true _ b.0; send = b.1; say = a.1 }

-- ---- entries

frames_again : (tape rest : List ℕ) → IsTapeOne tape → frames_at (entry_bytes One (Taped tape) ++ rest) ≡ Ok (tape, rest)
unfolding frames_at
frames_again tape rest is =
    let some = is.some in
    let few = is.few in
    let back = from_be_bytes-to_be_bytes_2 (length tape) (omega (arith, few)) in
    let long : ltb (length (entry_bytes One (Taped tape) ++ rest)) 2 ≡ false = le-ltb _ _ (omega arith) in
    let low : leb 1 (length tape) ≡ true = le-leb _ _ some in
    let high : leb (length tape) most_frames_one ≡ true = le-leb _ _ few in
    let enough : ltb (length (tape ++ rest)) (length tape) ≡ false = le-ltb _ _ (omega (arith, length-append tape rest)) in
    rw (long, back, low, high, enough, take_at tape rest (length tape) refl, drop_at tape rest (length tape) refl, no_fault tape is) refl

-- a test that failed
else_is : {A : Type 0} (b : Bool) (x y : A) → b ≡ false → cond b x y ≡ y
else_is true x y e = absurd cc
else_is false x y e = refl

-- a test that passed
then_is : {A : Type 0} (b : Bool) (x y : A) → b ≡ true → cond b x y ≡ x
then_is true x y e = refl
then_is false x y e = absurd cc

-- a step behind the end
ends_then : {A B : Type 0} (x : A) (f : A → B) (rest : List ℕ) → (ends x rest >>= λ y. Ok (f y)) ≡ ends (f x) rest
ends_then x f [] = refl
ends_then x f (b ∷ rest) = refl

packet_of : Packet → Body → Packet
packet_of p b = record { circuit = p.circuit; from = p.from; to = p.to; number = p.number; ballot = p.ballot; body = b }

module _ (k : Packings) where
  packed_back : (x : Entry) → IsEntry x → packed_entry (length (entry_frames x)) (packing_of (entry_frames x)) ≡ Ok x
  unfolding packed_entry
  packed_back Void is = refl
  packed_back (Taped tape) is =
      let some = is.some in
      let own = k.given tape is.small in
      let packed = k.tapes tape (packing_of tape) is own.1 own.0 in
      else_is (eqb (length tape) 0) _ _ (ne_eqb (length tape) 0 (λ e. omega (arith, some, e)))
      ∙ then_is (eqb (pad_of (length tape) (packing_of tape)) 0) _ _ (eq-eqb _ _ packed.pad)
      ∙ ap (λ (t : Tape). Ok (Taped t)) (k.undoes tape (packing_of tape) is.small own.1 own.0)

  packed_again : (x : Entry) (rest : List ℕ) → IsEntry x → packed_at (entry_bytes Two x ++ rest) ≡ Ok (x, rest)
  unfolding packed_at
  packed_again x rest is =
      let frames = entry_frames x in
      let n = length frames in
      let few : n ≤ most_frames = few_frames x is in
      let whole : length (packing_of frames) ≡ packed_len n = packing_length frames in
      let back = from_be_bytes-to_be_bytes_2 n (omega (arith, few)) in
      let long : ltb (length (entry_bytes Two x ++ rest)) 2 ≡ false = le-ltb _ _ (omega arith) in
      let high : ltb most_frames n ≡ false = le-ltb _ _ few in
      let enough : ltb (length (packing_of frames ++ rest)) (packed_len n) ≡ false = le-ltb _ _ (omega (arith, whole, length-append (packing_of frames) rest)) in
      rw (long, back, high, enough, take_at (packing_of frames) rest (packed_len n) whole, drop_at (packing_of frames) rest (packed_len n) whole, packed_back x is) refl

  entry_again : (v : Version) (x : Entry) (rest : List ℕ) → IsEntry x → Fits v x → entry_at v (entry_bytes v x ++ rest) ≡ Ok (x, rest)
  unfolding entry_at
  entry_again One Void rest is fits = absurd cc
  entry_again One (Taped tape) rest is fits = rw (frames_again tape rest (tape_one tape is fits)) refl
  entry_again Two x rest is fits = packed_again x rest is

  -- ---- the body

  whole_entry_again : (v : Version) (x : Entry) (rest : List ℕ) → IsEntry x → Fits v x → whole_entry_at v (entry_bytes v x ++ rest) ≡ ends x rest
  unfolding whole_entry_at
  whole_entry_again v x rest is fits = rw (entry_again v x rest is fits) refl

  vote_again :
      (v : Version) (ballot : Ballot) (w : Vote) (rest : List ℕ) → IsBallot w.ballot → IsEntry w.entry → Fits v w.entry → is_below w.ballot ballot ≡ true
      → vote_at v ballot ((ballot_bytes w.ballot ++ entry_bytes v w.entry) ++ rest) ≡ Ok (w, rest)
  unfolding vote_at
  vote_again v ballot w rest is entry fits below =
      let first : ballot_at ((ballot_bytes w.ballot ++ entry_bytes v w.entry) ++ rest) 0 ≡ Some w.ballot = ballot_again w.ballot (entry_bytes v w.entry ++ rest) is in
      let long : ltb (length ((ballot_bytes w.ballot ++ entry_bytes v w.entry) ++ rest)) 7 ≡ false = le-ltb _ _ (omega arith) in
      rw (long, first, below, entry_again v w.entry rest entry fits) refl

  body_again : (v : Version) (b : Body) (ballot : Ballot) (rest : List ℕ) → IsBody b → BodyFits v b → may_say b ballot ≡ true → body_at v (kind_of b) ballot (body_bytes v b ++ rest) ≡ ends b rest
  unfolding body_at promise_at nack_at
  body_again v Prepare ballot rest is fits say = refl
  body_again v (Promise None) ballot rest is fits say = refl
  body_again v (Promise (Some w)) ballot rest is fits say = rw (vote_again v ballot w rest is.0 is.1 fits say) refl
  body_again v (Accept entry) ballot rest is fits say = rw (whole_entry_again v entry rest is fits) (ends_then entry (λ t. Accept t) rest)
  body_again v (Accepted entry) ballot rest is fits say = rw (whole_entry_again v entry rest is fits) (ends_then entry (λ t. Accepted t) rest)
  body_again v (Nack promised) ballot rest is fits say =
      let long : ltb (length (ballot_bytes promised ++ rest)) 5 ≡ false = le-ltb _ _ (omega arith) in
      rw (long, ballot_again promised rest is, say) refl

  -- what is written is read again, whatever follows it
  pub packet_again : (v : Version) (p : Packet) (rest : List ℕ) → IsPacket p → BodyFits v p.body → packet_in v (spelling v p ++ rest) ≡ ends p rest
  unfolding packet_in packet_of
  packet_again v p rest is fits =
      let rules = rules_of p is.rules in
      let first = header_again v (kind_of p.body) p.circuit p.from p.to p.number p.ballot (body_bytes v p.body ++ rest) is.circuit is.from is.to is.number_low is.number_high is.ballot rules.differ rules.send in
      rw (first, body_again v p.body p.ballot rest is.body fits rules.say) (ends_then p.body (packet_of p) rest)
