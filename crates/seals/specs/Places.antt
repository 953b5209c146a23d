-- Which packets stand where among those of which some parts are there, and what is known of one.
use Rattle.std.specs.Prelude.{◌≡◌, ◌≢◌, ℕ, ◌<◌, ◌≤◌, ◌⊎◌, ◌==◌, ◌↔◌, Bool, true, false, IsTrue, List, [], ◌∷◌, ◌++◌, length, take, replicate, count_by, remove, slice_set, slice_index_or, Option, MatchOption}
use Rattle.std.specs.List.{All, HoldsAt}
use Rattle.seals.specs.Sealing.{count_of, part_of}
use Rattle.seals.specs.declared.label.Label.{Label}
use Rattle.seals.specs.declared.opening.Keys.{Keys}
use Rattle.seals.specs.declared.opening.Piece.{Piece}
use Rattle.seals.specs.declared.opening.KeyPlace.{KeyPlace}
use Rattle.seals.specs.Parts.{Parts, IsFor, IsSealedAs, IsWhole, blank, with_part}

-- the first of which the fact holds stands there
pub record IsFirst (P : Parts → Type 0) (slots : List Parts) (n : ℕ) : Type 0 where
  pub inside : n < length slots
  pub before : All (λ p. ¬ P p) (take n slots)
  pub here : HoldsAt P slots n

-- how many are of this member
abbrev pub count_from : ℕ → List Parts → ℕ
count_from member slots = count_by (λ p. p.label.from == member) slots

-- of no member more than four
abbrev pub IsBounded : List Parts → Type 0
IsBounded slots = (member : ℕ) → count_from member slots ≤ 4

-- the oldest of the member was dropped, where there were four, and else nothing
abbrev pub Roomed : ℕ → List Parts → List Parts → Type 0
Roomed member old new =
    ((count_from member old < 4) × (new ≡ old))
    ⊎ ((n : ℕ) × (n < length old) × HoldsAt (λ p. p.label.from ≡ member) old n × (new ≡ remove old n) × (4 ≤ count_from member old))

-- the packet of this label stands there: it stood there, or is begun behind the others, for none of its parts was there
abbrev pub IsReady : KeyPlace → Label → List Parts → List Parts → ℕ → Type 0
IsReady place label old new n =
    (IsFirst (IsFor place label) old n × (new ≡ old))
    ⊎ (All (λ p. ¬ IsFor place label p) old
    × ((roomed : List Parts) × Roomed label.from old roomed × (new ≡ roomed ++ blank place label ∷ []) × (n ≡ length roomed)))

-- the part is taken in there, and it is told whether that packet is whole
abbrev pub PutsAt : ℕ → ℕ → List ℕ → List Parts → List Parts → Bool → Type 0
PutsAt n index part old new whole =
    (d : Parts)
    → (new ≡ slice_set old n (with_part (slice_index_or old n d) index part))
    × (IsTrue whole ↔ IsWhole (slice_set (slice_index_or old n d).have index true) (count_of (slice_index_or old n d).label.length))

-- so much is there of the packet
pub record Holds (packet : List ℕ) (had : List Bool) (p : Parts) : Type 0 where
  pub room : length p.bytes ≡ length packet
  pub have : p.have ≡ had
  pub parts : (k : ℕ) → k < count_of (length packet) → slice_index_or had k false ≡ true → part_of p.bytes k ≡ part_of packet k

-- these parts of the packet of this label are there: where none is, it need not stand there at all
abbrev pub Knows : KeyPlace → Label → List ℕ → List Bool → List Parts → Type 0
Knows place label packet had slots =
    (All (λ p. ¬ IsFor place label p) slots × (had ≡ replicate 11 false))
    ⊎ ((n : ℕ) × IsFirst (IsFor place label) slots n × HoldsAt (Holds packet had) slots n)

-- a part of a packet that was sealed with this label is there then as well; where it was the last that lacked, the packet is answered,
-- and else nothing
abbrev pub Gathers : Keys → KeyPlace → Label → ℕ → List ℕ → List Parts → List Parts → Option (List ℕ) → Type 0
Gathers keys place label index part old new answer =
    (packet : List ℕ) (had : List Bool)
    → IsSealedAs keys place label packet → part ≡ part_of packet index → Knows place label packet had old
    → MatchOption answer
    (Knows place label packet (slice_set had index true) new × ¬ IsWhole (slice_set had index true) (count_of (length packet)))
    (λ out. (out ≡ packet) × IsWhole (slice_set had index true) (count_of (length packet)))

-- the same of a piece, by its key, its label, its index and its bytes
abbrev pub GathersPiece : Keys → Piece → List Parts → List Parts → Option (List ℕ) → Type 0
GathersPiece keys piece old new answer = Gathers keys piece.place piece.label piece.index piece.part.now old new answer

-- what is known of any other packet stays, but for one of the same sender where that has four
abbrev pub Keeps : KeyPlace → Label → List Parts → List Parts → Type 0
Keeps place label old new =
    (place' : KeyPlace) (label' : Label) (packet : List ℕ) (had : List Bool)
    → ¬ ((place' ≡ place) × (label' ≡ label)) → (label'.from ≢ label.from) ⊎ (count_from label.from old < 4)
    → Knows place' label' packet had old → Knows place' label' packet had new
