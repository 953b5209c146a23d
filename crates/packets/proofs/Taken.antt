-- What is read in a version is spelled so in it.
use Rattle.std.proofs.Common.{◌≡◌, ℕ, zero, suc, ◌+◌, ◌<◌, ◌≤◌, Bool, true, false, cond, not, ◌&&◌, ltb, leb, eqb, List, [], ◌∷◌, ◌++◌, length, take, drop, Option, Some, None, Result, Ok, Err, refl, sym, ap, subst, ◌∙◌, arith}
use Rattle.std.specs.Prelude.{is_some, slice_index}
use Rattle.std.specs.Int.{w32, from_be_bytes}
use Rattle.std.proofs.lemmas.Bool.{ltb-false, leb-true, eqb-true, ne_eqb, and_parts, not-false, and_from, not_from_false}
use Rattle.std.proofs.lemmas.List.{take-append-drop, length-take-le, get_or-drop, append-nil}
use Rattle.tape_frames.specs.Frames.{most_frames, tape_fault}
use Rattle.tape_frames.specs.Packing.{AreBytes, Packs, none, packed_len, pad_of, unpacked, IsPacked}
use Rattle.tape_frames.specs.Entries.{entry_frames, IsEntry}
use Rattle.protocol.specs.Limits.{most_frames_one}
use Rattle.protocol.specs.Ballots.{Ballot, IsMember, is_below}
use Rattle.protocol.specs.Entries.{Tape, Entry, Void, Taped}
use Rattle.protocol.specs.Rows.{Vote, vote_for}
use Rattle.protocol.specs.Versions.{Version, One, Two}
use Rattle.protocol.specs.Packets.{Packet, Body, Prepare, Promise, Accept, Accepted, Nack}
use Rattle.packets.specs.declared.fault.PacketFault.{PacketFault}
use Rattle.packets.specs.declared.fault.PacketFault.TheVariants.{BadPad}
use Rattle.packets.specs.declared.body.PacketKind.{PacketKind}
use Rattle.packets.specs.declared.body.PacketKind.TheVariants as kinds
use Rattle.packets.specs.declared.header.Header.{Header}
use Rattle.packets.specs.Rules.{kind_of, may_send, may_say, keeps_rules}
use Rattle.packets.specs.Spelling.{kind_byte}
use Rattle.packets.specs.Grammar.{IsBytes, SpellsTwo, SpellsFour, SpellsBallot, SpellsTape, SpellsEntry, SpellsBody, Spells, number_of_version, number_of_kind}
use Rattle.packets.specs.Laws.{Packings, FindsWhatIsSpelled}
use Rattle.packets.specs.Reading.{◌>>=◌, ends, wanted, u16_at, u32_at, kind_of_byte, frames_at, packed_entry, packed_at, entry_at, whole_entry_at, ballot_at, vote_at, promise_at, nack_at, body_at, kind_at, members_at, member_at, number_at, header_at, packet_in}
use Rattle.packets.proofs.Numbers.{two_read, four_read}
use Rattle.packets.proofs.Entries.{are_bytes, bytes_taken}
use Rattle.packets.proofs.Tapes.{is_tape}

IsBytes-drop : (n : ℕ) (bytes : List ℕ) → IsBytes bytes → IsBytes (drop n bytes)
IsBytes-drop n bytes h i = rw get_or-drop (h (n + i))

-- ---- steps that did not fail

pub bind_ok : {A B : Type 0} (r : Result A PacketFault) (f : A → Result B PacketFault) (y : B) → (r >>= f) ≡ Ok y → (x : A) × (r ≡ Ok x) × (f x ≡ Ok y)
bind_ok (Ok x) f y e = (x, refl, e)
bind_ok (Err d) f y e = absurd cc

pub guard : {A : Type 0} (b : Bool) (d : PacketFault) (r : Result A PacketFault) (y : A) → cond b (Err d) r ≡ Ok y → (b ≡ false) × (r ≡ Ok y)
guard true d r y e = absurd cc
guard false d r y e = (refl, e)

pub guard_else : {A : Type 0} (b : Bool) (d : PacketFault) (x y : A) → cond b (Ok x) (Err d) ≡ Ok y → (b ≡ true) × (x ≡ y)
guard_else true d x y e = (refl, cc)
guard_else false d x y e = absurd cc

guard_not : {A : Type 0} (b : Bool) (r s t : A) → b ≡ false → cond b r s ≡ t → s ≡ t
guard_not true r s t f e = absurd cc
guard_not false r s t f e = e

guard_some : {A : Type 0} (b : Bool) (x y : A) → cond b (Some x) None ≡ Some y → (b ≡ true) × (x ≡ y)
guard_some true x y e = (refl, cc)
guard_some false x y e = absurd cc

pub wanted_ok : {A : Type 0} (d : PacketFault) (o : Option A) (y : A) → wanted d o ≡ Ok y → o ≡ Some y
wanted_ok d None y e = absurd cc
wanted_ok d (Some x) y e = cc

pub ends_ok : {A : Type 0} (x y : A) (rest : List ℕ) → ends x rest ≡ Ok y → (rest ≡ []) × (x ≡ y)
ends_ok x y [] e = (refl, cc)
ends_ok x y (b ∷ rest) e = absurd cc

abbrev done : {A : Type 0} → A → Result A PacketFault
done x = Ok x

pub ok_is : {A : Type 0} (x y : A) → done x ≡ done y → x ≡ y
ok_is x y e = cc

-- ---- the header

kind_from : (n : ℕ) (kind : PacketKind) → kind_of_byte n ≡ Some kind → n ≡ kind_byte kind
kind_from n kind e = grind (arith, e)

pub record TakesKind (v : Version) (c0 c1 c2 c3 : ℕ) (kind : PacketKind) : Type 0 where
  pub mark_0 : c0 ≡ 84
  pub mark_1 : c1 ≡ 78
  pub version : c2 ≡ number_of_version v
  pub number : c3 ≡ kind_byte kind

kind_takes : (v : Version) (c0 c1 c2 c3 : ℕ) (rest : List ℕ) (kind : PacketKind) → kind_at v (c0 ∷ c1 ∷ c2 ∷ c3 ∷ rest) ≡ Ok kind → TakesKind v c0 c1 c2 c3 kind
unfolding kind_at
kind_takes v c0 c1 c2 c3 rest kind e =
    let a = guard (ltb (length (c0 ∷ c1 ∷ c2 ∷ c3 ∷ rest)) 17) _ _ kind e in
    let b = guard (not (eqb c0 84 && eqb c1 78)) _ _ kind a.1 in
    let c = guard (not (eqb c2 (number_of_version v))) _ _ kind b.1 in
    let marks = and_parts _ _ (not-false _ b.0) in
    record {
      mark_0 = eqb-true _ _ marks.0;
      mark_1 = eqb-true _ _ marks.1;
      version = eqb-true _ _ (not-false _ c.0);
      number = kind_from c3 kind (wanted_ok _ _ kind c.1);
    }

-- a test of two bounds
pub between : (x low high : ℕ) → leb low x && leb x high ≡ true → (low ≤ x) × (x ≤ high)
between x low high e =
    let both = and_parts _ _ e in
    (leb-true _ _ both.0, leb-true _ _ both.1)

member_takes : (bytes : List ℕ) (at m : ℕ) → member_at bytes at ≡ Ok m → (slice_index bytes at ≡ m) × IsMember 15 m
unfolding member_at
member_takes bytes at m e =
    let g = guard_else _ _ _ m e in
    (g.1, subst (λ n. IsMember 15 n) g.1 (between (slice_index bytes at) 1 15 g.0))

record TakesMembers (bytes : List ℕ) (m : ℕ × ℕ) : Type 0 where
  pub from : slice_index bytes 6 ≡ m.0
  pub to : slice_index bytes 7 ≡ m.1
  pub from_is_member : IsMember 15 m.0
  pub to_is_member : IsMember 15 m.1
  pub differ : eqb m.0 m.1 ≡ false

members_take : (bytes : List ℕ) (m : ℕ × ℕ) → members_at bytes ≡ Ok m → TakesMembers bytes m
unfolding members_at
members_take bytes m e =
    let a = bind_ok (member_at bytes 6) _ m e in
    let b = bind_ok (member_at bytes 7) _ m a.2 in
    let g = guard (eqb a.0 b.0) _ _ m b.2 in
    let from = member_takes bytes 6 a.0 a.1 in
    let to = member_takes bytes 7 b.0 b.1 in
    subst (λ (x : ℕ × ℕ). TakesMembers bytes x) (ok_is (a.0, b.0) m g.1) (record { from = from.0; to = to.0; from_is_member = from.1; to_is_member = to.1; differ = g.0 })

number_takes : (bytes : List ℕ) (n : ℕ) → number_at bytes ≡ Ok n → (u32_at bytes 8 ≡ n) × ((1 ≤ n) × (n ≤ 999999))
unfolding number_at
number_takes bytes n e =
    let g = guard_else _ _ _ n e in
    (g.1, subst (λ x. (1 ≤ x) × (x ≤ 999999)) g.1 (between (u32_at bytes 8) 1 999999 g.0))

-- the five bytes of a ballot, wherever they stand
ballot_takes : (b3 b2 b1 b0 owner : ℕ) (b : Ballot) → b3 < 256 → b2 < 256 → b1 < 256 → b0 < 256 → ballot_at (b3 ∷ b2 ∷ b1 ∷ b0 ∷ owner ∷ []) 0 ≡ Some b → SpellsBallot (b3 ∷ b2 ∷ b1 ∷ b0 ∷ owner ∷ []) b
unfolding ballot_at
ballot_takes b3 b2 b1 b0 owner b h3 h2 h1 h0 e =
    let n = from_be_bytes w32 (b3 ∷ b2 ∷ b1 ∷ b0 ∷ []) in
    let g = guard_some _ (record { round = n; owner = owner }) b e in
    let parts = and_parts _ _ g.0 in
    let range = between owner 1 15 parts.1 in
    subst (λ (x : Ballot). SpellsBallot (b3 ∷ b2 ∷ b1 ∷ b0 ∷ owner ∷ []) x) g.1 (record {
      round = b3 ∷ b2 ∷ b1 ∷ b0 ∷ [];
      are = refl;
      spells_round = four_read b3 b2 b1 b0 h3 h2 h1 h0;
      is_ballot = record { round_low = leb-true _ _ parts.0; round_high = omega (arith, h3, h2, h1, h0); owner_low = range.0; owner_high = range.1 };
    })

pub record TakesHeader (v : Version) (bytes : List ℕ) (h : Header) : Type 0 where
  pub circuit : List ℕ
  pub number : List ℕ
  pub ballot : List ℕ
  pub are : bytes ≡ 84 ∷ 78 ∷ number_of_version v ∷ kind_byte h.kind ∷ [] ++ circuit ++ h.route.from ∷ h.route.to ∷ [] ++ number ++ ballot ++ drop 17 bytes
  pub spells_circuit : SpellsTwo circuit h.route.circuit
  pub from_is_member : IsMember 15 h.route.from
  pub to_is_member : IsMember 15 h.route.to
  pub spells_number : SpellsFour number h.number
  pub number_low : 1 ≤ h.number
  pub number_high : h.number ≤ 999999
  pub spells_ballot : SpellsBallot ballot h.ballot
  pub differ : eqb h.route.from h.route.to ≡ false
  pub send : may_send h.kind h.ballot.owner h.route.from h.route.to ≡ true

header_are : (c0 c1 c2 c3 c4 c5 c6 c7 version kind from to : ℕ) (rest : List ℕ) → c0 ≡ 84 → c1 ≡ 78 → c2 ≡ version → c3 ≡ kind → c6 ≡ from → c7 ≡ to
    → c0 ∷ c1 ∷ c2 ∷ c3 ∷ c4 ∷ c5 ∷ c6 ∷ c7 ∷ rest ≡ 84 ∷ 78 ∷ version ∷ kind ∷ c4 ∷ c5 ∷ from ∷ to ∷ rest
header_are c0 c1 c2 c3 c4 c5 c6 c7 version kind from to rest e0 e1 e2 e3 e6 e7 = cc

pub header_takes : (v : Version) (bytes : List ℕ) (h : Header) → IsBytes bytes → header_at v bytes ≡ Ok h → TakesHeader v bytes h
unfolding header_at kind_at ballot_at
header_takes v (c0 ∷ c1 ∷ c2 ∷ c3 ∷ c4 ∷ c5 ∷ c6 ∷ c7 ∷ c8 ∷ c9 ∷ c10 ∷ c11 ∷ c12 ∷ c13 ∷ c14 ∷ c15 ∷ c16 ∷ rest) h fits e =
    let bytes = c0 ∷ c1 ∷ c2 ∷ c3 ∷ c4 ∷ c5 ∷ c6 ∷ c7 ∷ c8 ∷ c9 ∷ c10 ∷ c11 ∷ c12 ∷ c13 ∷ c14 ∷ c15 ∷ c16 ∷ rest in
    let k = bind_ok (kind_at v bytes) _ h e in
    let m = bind_ok (members_at bytes) _ h k.2 in
    let n = bind_ok (number_at bytes) _ h m.2 in
    let b = bind_ok (wanted _ (ballot_at bytes 12)) _ h n.2 in
    let g = guard_else _ _ _ h b.2 in
    let kind = kind_takes v c0 c1 c2 c3 (c4 ∷ c5 ∷ c6 ∷ c7 ∷ c8 ∷ c9 ∷ c10 ∷ c11 ∷ c12 ∷ c13 ∷ c14 ∷ c15 ∷ c16 ∷ rest) k.0 k.1 in
    let members = members_take bytes m.0 m.1 in
    let number = number_takes bytes n.0 n.1 in
    subst (λ (x : Header). TakesHeader v bytes x) g.1 (record {
      circuit = c4 ∷ c5 ∷ [];
      number = c8 ∷ c9 ∷ c10 ∷ c11 ∷ [];
      ballot = c12 ∷ c13 ∷ c14 ∷ c15 ∷ c16 ∷ [];
      are = header_are c0 c1 c2 c3 c4 c5 c6 c7 _ _ _ _ _ kind.mark_0 kind.mark_1 kind.version kind.number members.from members.to;
      spells_circuit = two_read c4 c5 (fits 4) (fits 5);
      from_is_member = members.from_is_member;
      to_is_member = members.to_is_member;
      spells_number = subst (λ x. SpellsFour (c8 ∷ c9 ∷ c10 ∷ c11 ∷ []) x) number.0 (four_read c8 c9 c10 c11 (fits 8) (fits 9) (fits 10) (fits 11));
      number_low = number.1.0;
      number_high = number.1.1;
      spells_ballot = ballot_takes c12 c13 c14 c15 c16 b.0 (fits 12) (fits 13) (fits 14) (fits 15) (wanted_ok _ _ b.0 b.1);
      differ = members.differ;
      send = g.0;
    })
header_takes v bytes h fits e = absurd cc

-- ---- entries

record TakesTape (bytes : List ℕ) (x : Tape × List ℕ) : Type 0 where
  pub text : List ℕ
  pub parts : bytes ≡ text ++ x.1
  pub spells : SpellsTape text x.0

frames_take : (bytes : List ℕ) (x : Tape × List ℕ) → IsBytes bytes → frames_at bytes ≡ Ok x → TakesTape bytes x
unfolding frames_at
frames_take (b1 ∷ b0 ∷ rest) x fits e =
    let bytes = b1 ∷ b0 ∷ rest in
    let n = u16_at bytes 0 in
    let a = guard (ltb (length bytes) 2) _ _ x e in
    let b = guard (not (leb 1 n && leb n most_frames_one)) _ _ x a.1 in
    let many = between n 1 most_frames_one (not-false _ b.0) in
    let c = guard (ltb (length rest) n) _ _ x b.1 in
    let d = guard (is_some (tape_fault (take n rest))) _ _ x c.1 in
    let tape = take n rest in
    let len : length tape ≡ n = length-take-le n rest (ltb-false _ _ c.0) in
    subst (λ (y : Tape × List ℕ). TakesTape bytes y) (ok_is (tape, drop n rest) x d.1) (record {
      text = b1 ∷ b0 ∷ tape;
      parts = ap (λ (r : List ℕ). b1 ∷ b0 ∷ r) (sym (take-append-drop n rest));
      spells = record { count = b1 ∷ b0 ∷ []; are = refl; spells_count = subst (λ k. SpellsTwo (b1 ∷ b0 ∷ []) k) (sym len) (two_read b1 b0 (fits 0) (fits 1)); is_tape = is_tape tape (omega (arith, len, many)) d.0 };
    })
frames_take bytes x fits e = absurd cc

pub record TakesEntry (v : Version) (bytes : List ℕ) (x : Entry × List ℕ) : Type 0 where
  pub text : List ℕ
  pub parts : bytes ≡ text ++ x.1
  pub spells : SpellsEntry v text x.0

-- an entry and the bytes in which so many of its frames are packed
record IsPackedIn (count : ℕ) (bytes : List ℕ) (x : Entry) : Type 0 where
  pub many : length (entry_frames x) ≡ count
  pub packs : Packs (entry_frames x) bytes
  pub is_entry : IsEntry x

pub record TakesVote (v : Version) (ballot : Ballot) (bytes : List ℕ) (x : Vote × List ℕ) : Type 0 where
  pub first : List ℕ
  pub second : List ℕ
  pub parts : bytes ≡ first ++ (second ++ x.1)
  pub spells_ballot : SpellsBallot first x.0.ballot
  pub spells_entry : SpellsEntry v second x.0.entry
  pub below : is_below x.0.ballot ballot ≡ true

-- what a body says that was read
pub record TakesBody (v : Version) (kind : PacketKind) (ballot : Ballot) (bytes : List ℕ) (b : Body) : Type 0 where
  pub spells : SpellsBody v bytes b
  pub kind_is : kind_of b ≡ kind
  pub say : may_say b ballot ≡ true

nack_takes : (v : Version) (ballot : Ballot) (bytes : List ℕ) (b : Body) → IsBytes bytes → nack_at ballot bytes ≡ Ok b → TakesBody v kinds.Nack ballot bytes b
unfolding nack_at ballot_at
nack_takes v ballot (b3 ∷ b2 ∷ b1 ∷ b0 ∷ owner ∷ rest) b fits e =
    let bytes = b3 ∷ b2 ∷ b1 ∷ b0 ∷ owner ∷ rest in
    let a = guard (ltb (length bytes) 5) _ _ b e in
    let p = bind_ok (wanted _ (ballot_at bytes 0)) _ b a.1 in
    let c = guard (not (is_below ballot p.0)) _ _ b p.2 in
    let d = ends_ok (Nack p.0) b rest c.1 in
    let spells = ballot_takes b3 b2 b1 b0 owner p.0 (fits 0) (fits 1) (fits 2) (fits 3) (wanted_ok _ _ p.0 p.1) in
    let all : b3 ∷ b2 ∷ b1 ∷ b0 ∷ owner ∷ [] ≡ bytes = ap (λ (r : List ℕ). b3 ∷ b2 ∷ b1 ∷ b0 ∷ owner ∷ r) (sym d.0) in
    subst (λ (y : Body). TakesBody v kinds.Nack ballot bytes y) d.1 (record { spells = subst (λ (y : List ℕ). SpellsBallot y p.0) all spells; kind_is = refl; say = not-false _ c.0 })
nack_takes v ballot bytes b fits e = absurd cc

kind_number : (b : Body) (kind : PacketKind) → kind_of b ≡ kind → kind_byte kind ≡ number_of_kind b
kind_number Prepare kind e = ap kind_byte (sym e)
kind_number (Promise report) kind e = ap kind_byte (sym e)
kind_number (Accept entry) kind e = ap kind_byte (sym e)
kind_number (Accepted entry) kind e = ap kind_byte (sym e)
kind_number (Nack promised) kind e = ap kind_byte (sym e)

module _ (k : Packings) where
  packed_takes : (count : ℕ) (bytes : List ℕ) (x : Entry) → AreBytes bytes → count ≤ most_frames → length bytes ≡ packed_len count → packed_entry count bytes ≡ Ok x → IsPackedIn count bytes x
  unfolding packed_entry
  packed_takes zero [] x fit few whole e = subst (λ (y : Entry). IsPackedIn zero [] y) (ok_is Void x e) (record { many = refl; packs = none; is_entry = tt })
  packed_takes zero (b ∷ bytes) x fit few whole e = absurd (omega (arith, whole))
  packed_takes (suc n) bytes x fit few whole e =
      let count = suc n in
      let some = guard_not (eqb count 0) (Ok Void) _ (Ok x) (ne_eqb count 0 (λ z. omega (arith, z))) e in
      let g = guard_else (eqb (pad_of count bytes) 0) BadPad (Taped (unpacked count bytes)) x some in
      let is : IsPacked count bytes = record { small = fit; some = omega arith; few = few; whole = whole; pad = eqb-true _ _ g.0 } in
      let tape = k.are_tapes count bytes is in
      subst (λ (y : Entry). IsPackedIn count bytes y) g.1 (record { many = tape.1; packs = tape.2; is_entry = tape.0 })

  packed_take : (bytes : List ℕ) (x : Entry × List ℕ) → IsBytes bytes → packed_at bytes ≡ Ok x → TakesEntry Two bytes x
  unfolding packed_at
  packed_take (b1 ∷ b0 ∷ rest) x fits e =
      let bytes = b1 ∷ b0 ∷ rest in
      let n = u16_at bytes 0 in
      let a = guard (ltb (length bytes) 2) _ _ x e in
      let b = guard (ltb most_frames n) _ _ x a.1 in
      let c = guard (ltb (length rest) (packed_len n)) _ _ x b.1 in
      let packed = take (packed_len n) rest in
      let d = bind_ok (packed_entry n packed) _ x c.1 in
      let len : length packed ≡ packed_len n = length-take-le (packed_len n) rest (ltb-false _ _ c.0) in
      let fit = bytes_taken (packed_len n) rest (are_bytes rest (IsBytes-drop 2 bytes fits)) in
      let is = packed_takes n packed d.0 fit (ltb-false _ _ b.0) len d.1 in
      subst (λ (y : Entry × List ℕ). TakesEntry Two bytes y) (ok_is (d.0, drop (packed_len n) rest) x d.2) (record {
        text = b1 ∷ b0 ∷ packed;
        parts = ap (λ (r : List ℕ). b1 ∷ b0 ∷ r) (sym (take-append-drop (packed_len n) rest));
        spells = record {
          count = b1 ∷ b0 ∷ [];
          packed = packed;
          are = refl;
          spells_count = subst (λ j. SpellsTwo (b1 ∷ b0 ∷ []) j) (sym is.many) (two_read b1 b0 (fits 0) (fits 1));
          packs = is.packs;
          are_bytes = fit;
          is_entry = is.is_entry;
        };
      })
  packed_take bytes x fits e = absurd cc

  entry_takes : (v : Version) (bytes : List ℕ) (x : Entry × List ℕ) → IsBytes bytes → entry_at v bytes ≡ Ok x → TakesEntry v bytes x
  unfolding entry_at
  entry_takes One bytes x fits e =
      let a = bind_ok (frames_at bytes) _ x e in
      let t = frames_take bytes a.0 fits a.1 in
      subst (λ (y : Entry × List ℕ). TakesEntry One bytes y) (ok_is (Taped a.0.0, a.0.1) x a.2) (record { text = t.text; parts = t.parts; spells = t.spells })
  entry_takes Two bytes x fits e = packed_take bytes x fits e

  -- ---- the body

  whole_entry_takes : (v : Version) (bytes : List ℕ) (x : Entry) → IsBytes bytes → whole_entry_at v bytes ≡ Ok x → SpellsEntry v bytes x
  unfolding whole_entry_at
  whole_entry_takes v bytes x fits e =
      let a = bind_ok (entry_at v bytes) _ x e in
      let b = ends_ok a.0.0 x a.0.1 a.2 in
      let t = entry_takes v bytes a.0 fits a.1 in
      let all : t.text ≡ bytes = sym (t.parts ∙ ap (λ (r : List ℕ). t.text ++ r) b.0 ∙ append-nil t.text) in
      subst (λ (y : Entry). SpellsEntry v bytes y) b.1 (subst (λ (y : List ℕ). SpellsEntry v y a.0.0) all t.spells)

  vote_takes : (v : Version) (ballot : Ballot) (bytes : List ℕ) (x : Vote × List ℕ) → IsBytes bytes → vote_at v ballot bytes ≡ Ok x → TakesVote v ballot bytes x
  unfolding vote_at ballot_at
  vote_takes v ballot (b3 ∷ b2 ∷ b1 ∷ b0 ∷ owner ∷ rest) x fits e =
      let bytes = b3 ∷ b2 ∷ b1 ∷ b0 ∷ owner ∷ rest in
      let a = guard (ltb (length bytes) 7) _ _ x e in
      let b = bind_ok (wanted _ (ballot_at bytes 0)) _ x a.1 in
      let c = guard (not (is_below b.0 ballot)) _ _ x b.2 in
      let d = bind_ok (entry_at v rest) _ x c.1 in
      let t = entry_takes v rest d.0 (IsBytes-drop 5 bytes fits) d.1 in
      subst (λ (y : Vote × List ℕ). TakesVote v ballot bytes y) (ok_is (vote_for b.0 d.0.0, d.0.1) x d.2) (record {
        first = b3 ∷ b2 ∷ b1 ∷ b0 ∷ owner ∷ [];
        second = t.text;
        parts = ap (λ (r : List ℕ). b3 ∷ b2 ∷ b1 ∷ b0 ∷ owner ∷ r) t.parts;
        spells_ballot = ballot_takes b3 b2 b1 b0 owner b.0 (fits 0) (fits 1) (fits 2) (fits 3) (wanted_ok _ _ b.0 b.1);
        spells_entry = t.spells;
        below = not-false _ c.0;
      })
  vote_takes v ballot bytes x fits e = absurd cc

  promise_takes : (v : Version) (ballot : Ballot) (bytes : List ℕ) (b : Body) → IsBytes bytes → promise_at v ballot bytes ≡ Ok b → TakesBody v kinds.Promise ballot bytes b
  unfolding promise_at
  promise_takes v ballot [] b fits e = absurd cc
  promise_takes v ballot (zero ∷ rest) b fits e =
      let a = ends_ok (Promise None) b rest e in
      subst (λ (y : Body). TakesBody v kinds.Promise ballot (0 ∷ rest) y) a.1 (record { spells = ap (λ (r : List ℕ). 0 ∷ r) a.0; kind_is = refl; say = refl })
  promise_takes v ballot (suc zero ∷ rest) b fits e =
      let a = bind_ok (vote_at v ballot rest) _ b e in
      let c = ends_ok (Promise (Some a.0.0)) b a.0.1 a.2 in
      let t = vote_takes v ballot rest a.0 (IsBytes-drop 1 (1 ∷ rest) fits) a.1 in
      let all : 1 ∷ rest ≡ 1 ∷ t.first ++ t.second = ap (λ (r : List ℕ). 1 ∷ r) (t.parts ∙ ap (λ (r : List ℕ). t.first ++ (t.second ++ r)) c.0 ∙ ap (λ (r : List ℕ). t.first ++ r) (append-nil t.second)) in
      subst (λ (y : Body). TakesBody v kinds.Promise ballot (1 ∷ rest) y) c.1 (record {
        spells = record { ballot = t.first; entry = t.second; are = all; spells_ballot = t.spells_ballot; spells_entry = t.spells_entry };
        kind_is = refl;
        say = t.below;
      })
  promise_takes v ballot (suc (suc n) ∷ rest) b fits e = absurd cc

  body_takes : (v : Version) (kind : PacketKind) (ballot : Ballot) (bytes : List ℕ) (b : Body) → IsBytes bytes → body_at v kind ballot bytes ≡ Ok b → TakesBody v kind ballot bytes b
  unfolding body_at
  body_takes v kinds.Prepare ballot bytes b fits e =
      let a = ends_ok Prepare b bytes e in
      subst (λ (y : Body). TakesBody v kinds.Prepare ballot bytes y) a.1 (record { spells = a.0; kind_is = refl; say = refl })
  body_takes v kinds.Promise ballot bytes b fits e = promise_takes v ballot bytes b fits e
  body_takes v kinds.Accept ballot bytes b fits e =
      let a = bind_ok (whole_entry_at v bytes) _ b e in
      subst (λ (y : Body). TakesBody v kinds.Accept ballot bytes y) (ok_is (Accept a.0) b a.2) (record { spells = whole_entry_takes v bytes a.0 fits a.1; kind_is = refl; say = refl })
  body_takes v kinds.Accepted ballot bytes b fits e =
      let a = bind_ok (whole_entry_at v bytes) _ b e in
      subst (λ (y : Body). TakesBody v kinds.Accepted ballot bytes y) (ok_is (Accepted a.0) b a.2) (record { spells = whole_entry_takes v bytes a.0 fits a.1; kind_is = refl; say = refl })
  body_takes v kinds.Nack ballot bytes b fits e = nack_takes v ballot bytes b fits e

  -- ---- the packet

  -- a packet that is read is spelled by the bytes
  pub packet_takes : FindsWhatIsSpelled
  unfolding packet_in
  packet_takes v bytes p fits e =
      let a = bind_ok (header_at v bytes) _ p e in
      let h = a.0 in
      let b = bind_ok (body_at v h.kind h.ballot (drop 17 bytes)) _ p a.2 in
      let first = header_takes v bytes h fits a.1 in
      let second = body_takes v h.kind h.ballot (drop 17 bytes) b.0 (IsBytes-drop 17 bytes fits) b.1 in
      let made : Packet = record { circuit = h.route.circuit; from = h.route.from; to = h.route.to; number = h.number; ballot = h.ballot; body = b.0 } in
      let send : may_send (kind_of b.0) h.ballot.owner h.route.from h.route.to ≡ true = ap (λ (j : PacketKind). may_send j h.ballot.owner h.route.from h.route.to) second.kind_is ∙ first.send in
      let rules : keeps_rules made ≡ true = and_from _ _ (and_from _ _ (not_from_false _ first.differ) send) second.say in
      subst (λ (x : Packet). Spells v bytes x) (ok_is made p b.2) (record {
        circuit = first.circuit;
        number = first.number;
        ballot = first.ballot;
        body = drop 17 bytes;
        are =
            first.are
            ∙ ap (λ j. 84 ∷ 78 ∷ number_of_version v ∷ j ∷ [] ++ first.circuit ++ h.route.from ∷ h.route.to ∷ [] ++ first.number ++ first.ballot ++ drop 17 bytes) (kind_number b.0 h.kind second.kind_is);
        spells_circuit = first.spells_circuit;
        from_is_member = first.from_is_member;
        to_is_member = first.to_is_member;
        spells_number = first.spells_number;
        number_low = first.number_low;
        number_high = first.number_high;
        spells_ballot = first.spells_ballot;
        spells_body = second.spells;
        rules = rules;
      })
