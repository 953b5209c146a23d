-- What is known of a packet of which some parts are there.
use Rattle.std.proofs.Common.{◌≡◌, ℕ, suc, ◌+◌, ◌*◌, ◌<◌, ◌≤◌, inl, inr, Bool, true, false, List, [], ◌∷◌, ◌++◌, length, take, drop, get_or, set, replicate, refl, sym, ap, subst, ◌∙◌, arith}
use Rattle.std.specs.Prelude.{◌↔◌, Option, Some, None, IfSome, IsSome, MatchOption, option_map}
use Rattle.std.specs.List.{All, HoldsAt}
use Rattle.std.proofs.lemmas.Bool.{cases_lt, cases_eq, cases_order, false≢true}
use Rattle.std.proofs.lemmas.List.{length-set, length-take, length-replicate, length_push, take_at, take-set, get_or-take, get_or-set_same, get_or-set_other, get_or_push, get_or-replicate, get_or_past}
use Rattle.std.proofs.lemmas.List.Elements.{All-append, All-take, All-drop}
use Rattle.seals.specs.Sealing.{count_of, part_of, part_len}
use Rattle.seals.specs.declared.label.Label.{Label}
use Rattle.seals.specs.declared.opening.Keys.{Keys}
use Rattle.seals.specs.declared.opening.KeyPlace.{KeyPlace}
use Rattle.seals.specs.Parts.{Parts, IsFor, IsSealedAs, IsWhole, blank, placed, with_part}
use Rattle.seals.specs.Opening.{IsPart}
use Rattle.seals.specs.Places.{IsFirst, IsReady, PutsAt, Roomed, Holds, Knows, Gathers}
use Rattle.seals.proofs.Placing.{length-placed, part_of-placed_same, part_of-placed_other, same_from_parts}
use Rattle.seals.proofs.Counting.{some_parts}

-- ---- one packet

-- the length in the label is that of the packet
length_sealed : (keys : Keys) (place : KeyPlace) (label : Label) (packet : List ℕ) → IsSealedAs keys place label packet → label.length ≡ length packet
length_sealed keys place label packet sealed = ap (λ (l : Label). l.length) sealed.2

none_there : (n k : ℕ) → get_or (replicate n false) k false ≡ false
none_there n k = elim (cases_lt k n) as (λ _. get_or (replicate n false) k false ≡ false) [
  | inl lt ↦ get_or-replicate n k false false lt
  | inr past ↦ get_or_past (replicate n false) k false (let e = length-replicate n false in omega arith)
]

-- nothing is there of one that was begun
blank_holds : (place : KeyPlace) (label : Label) (packet : List ℕ) → label.length ≡ length packet → Holds packet (replicate 11 false) (blank place label)
blank_holds place label packet long = record {
  room = length-replicate label.length 0 ∙ long;
  have = refl;
  parts = λ k low there. absurd (false≢true (sym (none_there 11 k) ∙ there));
}

-- with one part more
put_holds : (packet : List ℕ) (had : List Bool) (p : Parts) (index : ℕ) (part : List ℕ) → Holds packet had p → index < count_of (length packet) → length part ≡ part_len (length packet) index
    → part ≡ part_of packet index → Holds packet (set had index true) (with_part p index part)
put_holds packet had p index part h low long is_part =
    let room = h.room in
    let at : index < count_of (length p.bytes) = omega arith in
    let size : length part ≡ part_len (length p.bytes) index = omega arith in
    let fits : 1192 * index + length part ≤ length p.bytes = omega arith in
    record {
      room = length-placed p.bytes index part fits ∙ h.room;
      have = ap (λ (l : List Bool). set l index true) h.have;
      parts = λ k k_low there. elim (cases_eq k index) as (λ _. part_of (placed p.bytes index part) k ≡ part_of packet k) [
        | inl same ↦ subst (λ (i : ℕ). part_of (placed p.bytes index part) i ≡ part_of packet i) (sym same) (part_of-placed_same p.bytes index part at size ∙ is_part)
        | inr other ↦ part_of-placed_other p.bytes index part k at size (omega arith) other ∙ h.parts k k_low (sym (get_or-set_other had index k true false other) ∙ there)
      ];
    }

-- the bytes of one that is whole are the packet
whole_bytes : (packet : List ℕ) (had : List Bool) (p : Parts) → Holds packet had p → IsWhole had (count_of (length packet)) → p.bytes ≡ packet
whole_bytes packet had p h whole = same_from_parts p.bytes packet h.room (λ k low. h.parts k low (whole k low))

-- ---- among the others

first_not_none : (P : Parts → Type 0) (slots : List Parts) (n : ℕ) → All (λ p. ¬ P p) slots → IsFirst P slots n → ⊥
first_not_none P slots n none first = none n some_parts first.inside (first.here some_parts)

first_before : (P : Parts → Type 0) (slots : List Parts) (n m : ℕ) → IsFirst P slots n → IsFirst P slots m → n < m → ⊥
first_before P slots n m f g lt =
    let inside = f.inside in
    let there = g.inside in
    let e = get_or-take m slots n some_parts lt in
    g.before n some_parts (omega (arith, length-take m slots)) (subst P (sym e) (f.here some_parts))

first_once : (P : Parts → Type 0) (slots : List Parts) (n m : ℕ) → IsFirst P slots n → IsFirst P slots m → n ≡ m
first_once P slots n m f g = elim (cases_order n m) as (λ _. n ≡ m) [
  | inl same ↦ same
  | inr (inl lt) ↦ absurd (first_before P slots n m f g lt)
  | inr (inr gt) ↦ absurd (first_before P slots m n g f gt)
]

-- what was begun behind the others is the first
first_behind : (P : Parts → Type 0) (slots : List Parts) (p : Parts) → All (λ q. ¬ P q) slots → P p → IsFirst P (slots ++ p ∷ []) (length slots)
first_behind P slots p none here = record {
  inside = let e = length_push slots p in omega arith;
  before = subst (λ (l : List Parts). All (λ q. ¬ P q) l) (sym (take_at slots (p ∷ []) (length slots) refl)) none;
  here = λ d. subst P (sym (get_or_push slots p d (length slots) refl)) here;
}

-- none is left of what was not there
roomed_none : (P : Parts → Type 0) (member : ℕ) (old new : List Parts) → Roomed member old new → All (λ p. ¬ P p) old → All (λ p. ¬ P p) new
roomed_none P member old new (inl h) none = subst (λ (l : List Parts). All (λ p. ¬ P p) l) (sym h.1) none
roomed_none P member old new (inr h) none =
    subst (λ (l : List Parts). All (λ p. ¬ P p) l) (sym h.3)
    (All-append (λ (p : Parts). ¬ P p) (take h.0 old) (drop (suc h.0) old) (All-take (λ (p : Parts). ¬ P p) h.0 old none) (All-drop (λ (p : Parts). ¬ P p) (suc h.0) old none))

-- these parts of the packet stand there, first of those for it
abbrev pub Stands : KeyPlace → Label → List ℕ → List Bool → List Parts → ℕ → Type 0
Stands place label packet had slots n = IsFirst (IsFor place label) slots n × HoldsAt (Holds packet had) slots n

-- once it is ready, what is known of it stands there
pub ready_stands : (place : KeyPlace) (label : Label) (packet : List ℕ) (had : List Bool) (old new : List Parts) (n : ℕ) → label.length ≡ length packet → Knows place label packet had old → IsReady place label old new n → Stands place label packet had new n
ready_stands place label packet had old new n long (inl none) (inl ready) = absurd (first_not_none (IsFor place label) old n none.0 ready.0)
ready_stands place label packet had old new n long (inr some) (inr ready) = absurd (first_not_none (IsFor place label) old some.0 ready.0 some.1)
ready_stands place label packet had old new n long (inr some) (inl ready) =
    let same = first_once (IsFor place label) old some.0 n some.1 ready.0 in
    subst (λ (l : List Parts). Stands place label packet had l n) (sym ready.1) (ready.0, subst (λ (m : ℕ). HoldsAt (Holds packet had) old m) same some.2)
ready_stands place label packet had old new n long (inl none) (inr ready) =
    let roomed = ready.1.0 in
    let p = blank place label in
    let first = first_behind (IsFor place label) roomed p (roomed_none (IsFor place label) label.from old roomed ready.1.1 ready.0) (refl, refl) in
    let holds : HoldsAt (Holds packet had) (roomed ++ p ∷ []) (length roomed) = λ d.
    subst (λ (q : Parts). Holds packet had q) (sym (get_or_push roomed p d (length roomed) refl))
    (subst (λ (h : List Bool). Holds packet h p) (sym none.1) (blank_holds place label packet long))
    in
    subst (λ (l : List Parts). Stands place label packet had l n) (sym ready.1.2)
    (subst (λ (m : ℕ). Stands place label packet had (roomed ++ p ∷ []) m) (sym ready.1.3) (first, holds))

-- ---- a part is taken in

-- it stands there with this part more, and it is told whether it is whole
put_stands : (place : KeyPlace) (label : Label) (packet : List ℕ) (had : List Bool) (index : ℕ) (part : List ℕ) (old new : List Parts) (n : ℕ) (whole : Bool)
    → label.length ≡ length packet → Stands place label packet had old n → IsPart label index part → part ≡ part_of packet index → PutsAt n index part old new whole
    → Stands place label packet (set had index true) new n × ((whole ≡ true) ↔ IsWhole (set had index true) (count_of (length packet)))
put_stands place label packet had index part old new n whole long stands is is_part puts =
    let p = get_or old n some_parts in
    let q = with_part p index part in
    let for_p = stands.0.here some_parts in
    let h = stands.1 some_parts in
    let inside = stands.0.inside in
    let low = is.index_low in
    let size = is.part_length in
    let at : index < count_of (length packet) = subst (λ (k : ℕ). index < count_of k) long low in
    let fits : length part ≡ part_len (length packet) index = subst (λ (k : ℕ). length part ≡ part_len k index) long size in
    let holds = put_holds packet had p index part h at fits is_part in
    let first : IsFirst (IsFor place label) (set old n q) n = record {
      inside = let e = length-set old n q in omega arith;
      before = subst (λ (l : List Parts). All (λ r. ¬ IsFor place label r) l) (sym (take-set old n q)) stands.0.before;
      here = λ d. subst (IsFor place label) (sym (get_or-set_same old n q d inside)) for_p;
    } in
    let there : HoldsAt (Holds packet (set had index true)) (set old n q) n = λ d.
    subst (λ (r : Parts). Holds packet (set had index true) r) (sym (get_or-set_same old n q d inside)) holds
    in
    let is_length : p.label.length ≡ length packet = ap (λ (l : Label). l.length) for_p.1 ∙ long in
    let told = subst (λ (k : ℕ). (whole ≡ true) ↔ IsWhole (set p.have index true) (count_of k)) is_length (puts some_parts).1 in (
      subst (λ (l : List Parts). Stands place label packet (set had index true) l n) (sym (puts some_parts).0) (first, there),
      subst (λ (l : List Bool). (whole ≡ true) ↔ IsWhole (set l index true) (count_of (length packet))) h.have told,
    )

-- one that is not whole then
pub gathers_none : (keys : Keys) (place : KeyPlace) (label : Label) (index : ℕ) (part : List ℕ) (old mid new : List Parts) (n : ℕ) (whole : Bool)
    → IsPart label index part → IsReady place label old mid n → PutsAt n index part mid new whole → whole ≡ false → Gathers keys place label index part old new None
gathers_none keys place label index part old mid new n whole is ready puts lacks = λ packet had sealed is_part knows.
    let long = length_sealed keys place label packet sealed in
    let stands = ready_stands place label packet had old mid n long knows ready in
    let put = put_stands place label packet had index part mid new n whole long stands is is_part puts in
    (inr (n, put.0.0, put.0.1), λ all. false≢true (sym lacks ∙ put.1.1 all))

answered : {V : Type 0} (items : V → List ℕ) (bytes packet : List ℕ) (N W : Type 0) (o : Option V) → IfSome o (λ v. items v ≡ bytes) → IsSome o → bytes ≡ packet → W → MatchOption (option_map items o) N (λ out. (out ≡ packet) × W)
answered items bytes packet N W None same is e w = absurd (false≢true is)
answered items bytes packet N W (Some v) same is e w = (same ∙ e, w)

-- one that is whole then
pub gathers_whole : {V : Type 0} (items : V → List ℕ) (keys : Keys) (place : KeyPlace) (label : Label) (index : ℕ) (part : List ℕ) (old mid new rest : List Parts) (n : ℕ) (whole : Bool) (p : Parts) (o : Option V)
    → IsPart label index part → IsReady place label old mid n → PutsAt n index part mid new whole → whole ≡ true → p ≡ get_or new n p
    → IfSome o (λ v. items v ≡ p.bytes) → (IsSealedAs keys p.place p.label p.bytes → IsSome o)
    → Gathers keys place label index part old rest (option_map items o)
gathers_whole items keys place label index part old mid new rest n whole p o is ready puts all at some only = λ packet had sealed is_part knows.
    let long = length_sealed keys place label packet sealed in
    let stands = ready_stands place label packet had old mid n long knows ready in
    let put = put_stands place label packet had index part mid new n whole long stands is is_part puts in
    let now = put.1.0 all in
    let holds = subst (λ (r : Parts). Holds packet (set had index true) r) (sym at) (put.0.1 p) in
    let for_p = subst (IsFor place label) (sym at) (put.0.0.here p) in
    let bytes = whole_bytes packet (set had index true) p holds now in
    let sealed_p : IsSealedAs keys p.place p.label p.bytes =
    subst (λ (b : List ℕ). IsSealedAs keys p.place p.label b) (sym bytes)
    (subst (λ (l : Label). IsSealedAs keys p.place l packet) (sym for_p.1) (subst (λ (k : KeyPlace). IsSealedAs keys k label packet) (sym for_p.0) sealed))
    in
    answered items p.bytes packet _ _ o some (only sealed_p) bytes now

-- what stands there is for the piece
pub ready_for : (place : KeyPlace) (label : Label) (old new : List Parts) (n : ℕ) → IsReady place label old new n → (n < length new) × HoldsAt (IsFor place label) new n
ready_for place label old new n (inl ready) = subst (λ (l : List Parts). (n < length l) × HoldsAt (IsFor place label) l n) (sym ready.1) (ready.0.inside, ready.0.here)
ready_for place label old new n (inr ready) =
    let roomed = ready.1.0 in
    let p = blank place label in
    let e = length_push roomed p in
    let here : HoldsAt (IsFor place label) (roomed ++ p ∷ []) (length roomed) = λ d. subst (IsFor place label) (sym (get_or_push roomed p d (length roomed) refl)) (refl, refl) in
    subst (λ (l : List Parts). (n < length l) × HoldsAt (IsFor place label) l n) (sym ready.1.2)
    (subst (λ (m : ℕ). (m < length (roomed ++ p ∷ [])) × HoldsAt (IsFor place label) (roomed ++ p ∷ []) m) (sym ready.1.3) (omega arith, here))

pub taken_for : (place : KeyPlace) (label : Label) (index : ℕ) (part : List ℕ) (old mid new : List Parts) (n : ℕ) (whole : Bool) (p : Parts)
    → IsReady place label old mid n → PutsAt n index part mid new whole → p ≡ get_or new n p → IsFor place label p
taken_for place label index part old mid new n whole p ready puts at =
    let r = ready_for place label old mid n ready in
    let q = with_part (get_or mid n some_parts) index part in
    let new_is : get_or new n p ≡ q = ap (λ (l : List Parts). get_or l n p) (puts some_parts).0 ∙ get_or-set_same mid n q p r.0 in
    subst (IsFor place label) (sym (at ∙ new_is)) (r.1 some_parts)

pub ready_inside : (place : KeyPlace) (label : Label) (index : ℕ) (part : List ℕ) (old mid new : List Parts) (n : ℕ) (whole : Bool) → IsReady place label old mid n → PutsAt n index part mid new whole → n < length new
ready_inside place label index part old mid new n whole ready puts =
    let r = ready_for place label old mid n ready in
    let q = with_part (get_or mid n some_parts) index part in
    let e = ap length (puts some_parts).0 ∙ length-set mid n q in
    let inside = r.0 in
    omega arith

sealed_as : {V : Type 0} (items : V → List ℕ) (keys : Keys) (place : KeyPlace) (label : Label) (p : Parts) (o : Option V) → IsFor place label p
    → IfSome o (λ v. (items v ≡ p.bytes) × IsSealedAs keys p.place p.label (items v)) → IfSome o (λ v. IsSealedAs keys place label (items v))
sealed_as items keys place label p None for_p some = tt
sealed_as items keys place label p (Some v) for_p some =
    subst (λ (k : KeyPlace). IsSealedAs keys k label (items v)) for_p.0 (subst (λ (l : Label). IsSealedAs keys p.place l (items v)) for_p.1 some.1)

pub finished : {V : Type 0} (items : V → List ℕ) (keys : Keys) (place : KeyPlace) (label : Label) (p : Parts) (o : Option V) → IsFor place label p
    → IfSome o (λ v. (items v ≡ p.bytes) × IsSealedAs keys p.place p.label (items v)) → IfSome o (λ v. IsSealedAs keys place label (items v)) × IfSome o (λ v. items v ≡ p.bytes)
finished items keys place label p None for_p some = (tt, tt)
finished items keys place label p (Some v) for_p some = (sealed_as items keys place label p (Some v) for_p some, some.0)
