-- Reading a head, and writing one.
use Rattle.std.proofs.Common.{◌≡◌, ◌≢◌, ℕ, ◌+◌, ◌-◌, ◌*◌, ◌/◌, ◌%◌, ◌<◌, ◌≤◌, Bool, true, false, cond, not, ◌&&◌, ltb, leb, eqb, List, [], ◌∷◌, ◌++◌, length, take, drop, Some, None, Result, Ok, Err, refl, sym, ap, subst, ◌∙◌, arith}
use Rattle.std.specs.Prelude.{slice_index}
use Rattle.std.proofs.lemmas.Bool.{ltb-true, ltb-false, leb-true, eqb-true, eqb-false, le-ltb, lt-ltb, le-leb, eq-eqb, ne_eqb, and_parts, and_from, not-false}
use Rattle.std.proofs.lemmas.List.{take_at, drop_at, length-append, length-take-le, length-drop, take-append-drop, append_assoc, take-take, drop-take}
use Rattle.hmac.specs.Hmac.{hmac_of_block}
use Rattle.hmac.specs.Laws.{TagsHaveTheirLength}
use Rattle.protocol.specs.Limits.{most_members}
use Rattle.protocol.specs.Ballots.{IsMember}
use Rattle.seals.specs.declared.head.SealFault.{SealFault}
use Rattle.seals.specs.declared.head.Head.{Head}
use Rattle.seals.specs.declared.label.Label.{Label}
use Rattle.seals.specs.Sealing.{most_packet, tag_of, tagged, count_of, part_len, head_of}
use Rattle.seals.specs.Reading.{◌>>=◌, id_at, member_at, ends_at, has_part, head_at}
use Rattle.seals.specs.declared.opening.Keys.{Keys}
use Rattle.seals.specs.declared.opening.KeyPlace.{KeyPlace}
use Rattle.seals.specs.Opening.{IsTagged, IsPlaceOf, Opens, OpensAt, OpensNone}

-- a tag has 16 bytes
pub length-tag_of : TagsHaveTheirLength → (block bytes : List ℕ) → length (tag_of block bytes) ≡ 16
length-tag_of tags block bytes =
    let whole = tags block bytes in
    length-take-le 16 (hmac_of_block block bytes) (omega arith)

-- there is a byte in each part
part_len-low : (length index : ℕ) → 1 ≤ length → index < count_of length → 1 ≤ part_len length index
part_len-low length index some low = omega arith

-- how long a datagram is
pub length-opens : TagsHaveTheirLength → (block : List ℕ) (own : ℕ) (bytes : List ℕ) (label : Label) (index : ℕ) (part : List ℕ) → Opens block own bytes label index part → length bytes ≡ 24 + part_len label.length index + 16
length-opens tags block own bytes label index part o =
    let tag = length-tag_of tags block (head_of label index ++ part) in
    let front = length-append (head_of label index) part in
    let id = o.id_length in
    let rest = o.part_length in
    ap length o.are ∙ length-append (head_of label index ++ part) _ ∙ omega arith

-- ---- a head that was written is read

-- the bytes of a head, and whatever follows, are read as it
head_read : (from to index high low size : ℕ) (id rest : List ℕ) → high * 256 + low ≡ size → length id ≡ 16 → IsMember most_members from → IsMember most_members to → from ≢ to → 1 ≤ size → size ≤ most_packet → index < count_of size
    → length (84 ∷ 83 ∷ 1 ∷ from ∷ to ∷ index ∷ high ∷ low ∷ (id ++ rest)) ≡ 24 + part_len size index + 16
    → head_at to (84 ∷ 83 ∷ 1 ∷ from ∷ to ∷ index ∷ high ∷ low ∷ (id ++ rest)) ≡ Ok (record { label = record { from = from; to = to; length = size; id = id }; index = index })
unfolding head_at ends_at member_at
head_read from to index high low size id rest is_size sixteen is_from is_to differ some few at long =
    let bytes = 84 ∷ 83 ∷ 1 ∷ from ∷ to ∷ index ∷ high ∷ low ∷ (id ++ rest) in
    let byte = part_len-low size index some at in
    let enough : ltb (length bytes) 41 ≡ false = le-ltb _ _ (omega arith) in
    let f0 = le-leb _ _ is_from.0 in
    let f1 = le-leb _ _ is_from.1 in
    let t0 = le-leb _ _ is_to.0 in
    let t1 = le-leb _ _ is_to.1 in
    let apart = ne_eqb from to differ in
    let own = eq-eqb to to refl in
    let fits : has_part size index (length bytes) ≡ true =
    and_from _ _ (and_from _ _ (le-leb _ _ some) (le-leb _ _ few)) (and_from _ _ (lt-ltb _ _ at) (eq-eqb _ _ long)) in
    let name : take 16 (id ++ rest) ≡ id = take_at id rest 16 sixteen in
    rw (enough, f0, f1, t0, t1, apart, own, is_size, fits, name) refl

-- the bytes of what is under a key one for this member
bytes_of : (label : Label) (index : ℕ) (part tag : List ℕ) → (head_of label index ++ part) ++ tag ≡ 84 ∷ 83 ∷ 1 ∷ label.from ∷ label.to ∷ index ∷ label.length / 256 ∷ label.length % 256 ∷ (label.id ++ (part ++ tag))
bytes_of label index part tag =
    ap (λ (l : List ℕ). 84 ∷ 83 ∷ 1 ∷ label.from ∷ label.to ∷ index ∷ label.length / 256 ∷ label.length % 256 ∷ l) (append_assoc label.id part tag)

-- what is under a key one for this member has a good head
pub head_again : TagsHaveTheirLength → (block : List ℕ) (own : ℕ) (bytes : List ℕ) (label : Label) (index : ℕ) (part : List ℕ) → Opens block own bytes label index part
    → head_at own bytes ≡ Ok (record { label = label; index = index })
head_again tags block own bytes label index part o =
    let size : label.length / 256 * 256 + label.length % 256 ≡ label.length = omega arith in
    let tag = tag_of block (head_of label index ++ part) in
    let are = o.are ∙ bytes_of label index part tag in
    let long = sym (ap length are) ∙ length-opens tags block own bytes label index part o in
    let read = head_read label.from label.to index (label.length / 256) (label.length % 256) label.length label.id (part ++ tag) size o.id_length o.from o.to_is_member o.differ o.some o.few o.index_low long in
    ap (λ (m : ℕ). head_at m bytes) (sym o.to) ∙ ap (λ (l : List ℕ). head_at label.to l) are ∙ read

-- ---- a head that is read was written

guard : {A : Type 0} (b : Bool) (d : SealFault) (r : Result A SealFault) (y : A) → cond b (Err d) r ≡ Ok y → (b ≡ false) × (r ≡ Ok y)
guard true d r y e = absurd cc
guard false d r y e = (refl, e)

guard_else : {A : Type 0} (b : Bool) (d : SealFault) (x y : A) → cond b (Ok x) (Err d) ≡ Ok y → (b ≡ true) × (x ≡ y)
guard_else true d x y e = (refl, cc)
guard_else false d x y e = absurd cc

bind_ok : {A B : Type 0} (r : Result A SealFault) (f : A → Result B SealFault) (y : B) → (r >>= f) ≡ Ok y → (x : A) × (r ≡ Ok x) × (f x ≡ Ok y)
bind_ok (Ok x) f y e = (x, refl, e)
bind_ok (Err d) f y e = absurd cc

between : (x low high : ℕ) → leb low x && leb x high ≡ true → (low ≤ x) × (x ≤ high)
between x low high e =
    let both = and_parts _ _ e in
    (leb-true _ _ both.0, leb-true _ _ both.1)

member_takes : (bytes : List ℕ) (at m : ℕ) → member_at bytes at ≡ Ok m → (slice_index bytes at ≡ m) × IsMember most_members m
unfolding member_at
member_takes bytes at m e =
    let g = guard_else _ _ _ m e in
    (g.1, subst (λ (n : ℕ). IsMember most_members n) g.1 (between (slice_index bytes at) 1 most_members g.0))

record TakesEnds (own : ℕ) (bytes : List ℕ) (ends : ℕ × ℕ) : Type 0 where
  pub from : slice_index bytes 3 ≡ ends.0
  pub to : slice_index bytes 4 ≡ ends.1
  pub from_is_member : IsMember most_members ends.0
  pub to_is_member : IsMember most_members ends.1
  pub differ : ends.0 ≢ ends.1
  pub own_is : ends.1 ≡ own

ends_take : (own : ℕ) (bytes : List ℕ) (ends : ℕ × ℕ) → ends_at own bytes ≡ Ok ends → TakesEnds own bytes ends
unfolding ends_at
ends_take own bytes ends e =
    let a = bind_ok (member_at bytes 3) _ ends e in
    let b = bind_ok (member_at bytes 4) _ ends a.2 in
    let g = guard (eqb a.0 b.0) _ _ ends b.2 in
    let k = guard_else (eqb b.0 own) _ (a.0, b.0) ends g.1 in
    let from = member_takes bytes 3 a.0 a.1 in
    let to = member_takes bytes 4 b.0 b.1 in
    subst (λ (x : ℕ × ℕ). TakesEnds own bytes x) k.1 (record { from = from.0; to = to.0; from_is_member = from.1; to_is_member = to.1; differ = eqb-false _ _ g.0; own_is = eqb-true _ _ k.0 })

pub record TakesHead (own : ℕ) (bytes : List ℕ) (h : Head) : Type 0 where
  pub enough : 41 ≤ length bytes
  pub mark_0 : slice_index bytes 0 ≡ 84
  pub mark_1 : slice_index bytes 1 ≡ 83
  pub version : slice_index bytes 2 ≡ 1
  pub from : slice_index bytes 3 ≡ h.label.from
  pub to : slice_index bytes 4 ≡ h.label.to
  pub index : slice_index bytes 5 ≡ h.index
  pub size : slice_index bytes 6 * 256 + slice_index bytes 7 ≡ h.label.length
  pub id : id_at bytes ≡ h.label.id
  pub from_is_member : IsMember most_members h.label.from
  pub to_is_member : IsMember most_members h.label.to
  pub differ : h.label.from ≢ h.label.to
  pub own_is : h.label.to ≡ own
  pub some : 1 ≤ h.label.length
  pub few : h.label.length ≤ most_packet
  pub low : h.index < count_of h.label.length
  pub long : length bytes ≡ 24 + part_len h.label.length h.index + 16

pub head_takes : (own : ℕ) (bytes : List ℕ) (h : Head) → head_at own bytes ≡ Ok h → TakesHead own bytes h
unfolding head_at
head_takes own bytes h e =
    let a = guard (ltb (length bytes) 41) _ _ h e in
    let b = guard (not (eqb (slice_index bytes 0) 84 && eqb (slice_index bytes 1) 83)) _ _ h a.1 in
    let c = guard (not (eqb (slice_index bytes 2) 1)) _ _ h b.1 in
    let d = bind_ok (ends_at own bytes) _ h c.1 in
    let size = slice_index bytes 6 * 256 + slice_index bytes 7 in
    let index = slice_index bytes 5 in
    let head : Head = record { label = record { from = d.0.0; to = d.0.1; length = size; id = id_at bytes }; index = index } in
    let g = guard_else (has_part size index (length bytes)) _ head h d.2 in
    let ends = ends_take own bytes d.0 d.1 in
    let marks = and_parts _ _ (not-false _ b.0) in
    let parts = and_parts _ _ g.0 in
    let range = between size 1 most_packet parts.0 in
    let last = and_parts _ _ parts.1 in
    subst (λ (x : Head). TakesHead own bytes x) g.1 (record {
      enough = ltb-false _ _ a.0;
      mark_0 = eqb-true _ _ marks.0;
      mark_1 = eqb-true _ _ marks.1;
      version = eqb-true _ _ (not-false _ c.0);
      from = ends.from;
      to = ends.to;
      index = refl;
      size = refl;
      id = refl;
      from_is_member = ends.from_is_member;
      to_is_member = ends.to_is_member;
      differ = ends.differ;
      own_is = ends.own_is;
      some = range.0;
      few = range.1;
      low = ltb-true _ _ last.0;
      long = eqb-true _ _ last.1;
    })

-- the first eight bytes
first_eight : (bytes : List ℕ) → 8 ≤ length bytes
    → take 8 bytes ≡ slice_index bytes 0 ∷ slice_index bytes 1 ∷ slice_index bytes 2 ∷ slice_index bytes 3 ∷ slice_index bytes 4 ∷ slice_index bytes 5 ∷ slice_index bytes 6 ∷ slice_index bytes 7 ∷ []
first_eight (b0 ∷ b1 ∷ b2 ∷ b3 ∷ b4 ∷ b5 ∷ b6 ∷ b7 ∷ rest) h = refl
first_eight (b0 ∷ b1 ∷ b2 ∷ b3 ∷ b4 ∷ b5 ∷ b6 ∷ []) h = absurd (omega arith)
first_eight (b0 ∷ b1 ∷ b2 ∷ b3 ∷ b4 ∷ b5 ∷ []) h = absurd (omega arith)
first_eight (b0 ∷ b1 ∷ b2 ∷ b3 ∷ b4 ∷ []) h = absurd (omega arith)
first_eight (b0 ∷ b1 ∷ b2 ∷ b3 ∷ []) h = absurd (omega arith)
first_eight (b0 ∷ b1 ∷ b2 ∷ []) h = absurd (omega arith)
first_eight (b0 ∷ b1 ∷ []) h = absurd (omega arith)
first_eight (b0 ∷ []) h = absurd (omega arith)
first_eight [] h = absurd (omega arith)

-- the first a and b bytes are the first a, and the b behind them
take_both : (a b : ℕ) (xs : List ℕ) → take (a + b) xs ≡ take a xs ++ take b (drop a xs)
take_both a b xs =
    let whole = take-append-drop a (take (a + b) xs) in
    sym (rw (take-take a (a + b) xs (omega arith), drop-take a b xs) at whole)

-- the first 24 bytes are the head
head_spelled : (own : ℕ) (bytes : List ℕ) (h : Head) → ((i : ℕ) → slice_index bytes i < 256) → TakesHead own bytes h → take 24 bytes ≡ head_of h.label h.index
head_spelled own bytes h small t =
    let low = small 7 in
    let size = t.size in
    let enough = t.enough in
    let high_is : slice_index bytes 6 ≡ h.label.length / 256 = omega arith in
    let low_is : slice_index bytes 7 ≡ h.label.length % 256 = omega arith in
    let eight = first_eight bytes (omega arith) in
    take_both 8 16 bytes ∙ rw (eight, t.mark_0, t.mark_1, t.version, t.from, t.to, t.index, high_is, low_is, t.id) refl

-- what has a good head, and ends with its tag under this key, is under it one for this member
pub opens_from_head : (block : List ℕ) (own : ℕ) (bytes : List ℕ) (h : Head) → ((i : ℕ) → slice_index bytes i < 256) → head_at own bytes ≡ Ok h → IsTagged block bytes
    → Opens block own bytes h.label h.index (take (length bytes - 24 - 16) (drop 24 bytes))
opens_from_head block own bytes h small e tagged_so =
    let t = head_takes own bytes h e in
    let n = length bytes - 24 - 16 in
    let enough = t.enough in
    let long = t.long in
    let part = take n (drop 24 bytes) in
    let ends : length bytes - 16 ≡ 24 + n = omega arith in
    let front : take (length bytes - 16) bytes ≡ head_of h.label h.index ++ part =
    ap (λ (k : ℕ). take k bytes) ends ∙ take_both 24 n bytes ∙ ap (λ (l : List ℕ). l ++ part) (head_spelled own bytes h small t) in
    let rest = length-drop 24 bytes in
    let part_length = length-take-le n (drop 24 bytes) (omega arith) in
    let id_length : length (id_at bytes) ≡ 16 = length-take-le 16 (drop 8 bytes) (omega (arith, length-drop 8 bytes)) in
    record {
      are = sym (take-append-drop (length bytes - 16) bytes) ∙ ap (λ (l : List ℕ). take (length bytes - 16) bytes ++ l) (sym tagged_so) ∙ ap (λ (l : List ℕ). tagged block l) front;
      from = t.from_is_member;
      to_is_member = t.to_is_member;
      to = t.own_is;
      differ = t.differ;
      some = t.some;
      few = t.few;
      index_low = t.low;
      part_length = part_length ∙ omega arith;
      id_length = sym (ap length t.id) ∙ id_length;
    }

-- what is under a key one for this member ends with its tag
pub tagged_when_opens : TagsHaveTheirLength → (block : List ℕ) (own : ℕ) (bytes : List ℕ) (label : Label) (index : ℕ) (part : List ℕ) → Opens block own bytes label index part → IsTagged block bytes
tagged_when_opens tags block own bytes label index part o =
    let front = head_of label index ++ part in
    let tag = tag_of block front in
    let sixteen = length-tag_of tags block front in
    let whole : length bytes ≡ length front + 16 = ap length o.are ∙ length-append front tag ∙ omega arith in
    let less : length front ≡ length bytes - 16 = omega arith in
    let taken : take (length bytes - 16) bytes ≡ front = ap (λ (l : List ℕ). take (length bytes - 16) l) o.are ∙ take_at front tag (length bytes - 16) less in
    let dropped : drop (length bytes - 16) bytes ≡ tag = ap (λ (l : List ℕ). drop (length bytes - 16) l) o.are ∙ drop_at front tag (length bytes - 16) less in
    ap (λ (l : List ℕ). tag_of block l) taken ∙ sym dropped

-- where the head has a fault, or no key fits, it is none
pub none_from_fault : TagsHaveTheirLength → (keys : Keys) (own : ℕ) (bytes : List ℕ) (fault : SealFault) → head_at own bytes ≡ Err fault → OpensNone keys own bytes
none_from_fault tags keys own bytes fault e = λ place label index part o.
    let good = head_again tags o.block own bytes label index part o.opens in
    absurd cc

pub none_from_place : TagsHaveTheirLength → (keys : Keys) (own : ℕ) (bytes : List ℕ) → IsPlaceOf keys bytes None → OpensNone keys own bytes
none_from_place tags keys own bytes none = λ place label index part o.
    none place o.block o.is_key (tagged_when_opens tags o.block own bytes label index part o.opens)

-- where the head is good and a key fits, it is one
pub opens_from_place : (keys : Keys) (own : ℕ) (bytes : List ℕ) (h : Head) (place : KeyPlace) → ((i : ℕ) → slice_index bytes i < 256) → head_at own bytes ≡ Ok h → IsPlaceOf keys bytes (Some place)
    → OpensAt keys place own bytes h.label h.index (take (length bytes - 24 - 16) (drop 24 bytes))
opens_from_place keys own bytes h place small e some = record {
  block = some.0;
  is_key = some.1;
  opens = opens_from_head some.0 own bytes h small e some.2;
}
