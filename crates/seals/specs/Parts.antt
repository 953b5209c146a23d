-- A packet of which some parts are there.
use Rattle.std.specs.Prelude.{◌≡◌, ℕ, ◌+◌, ◌*◌, ◌<◌, Bool, true, false, List, ◌++◌, length, take, drop, replicate, slice_index_or, slice_set}
use Rattle.seals.specs.Sealing.{label_of}
use Rattle.seals.specs.Opening.{IsKeyAt, IsLabel}
use Rattle.seals.specs.declared.label.Label.{Label}
use Rattle.seals.specs.declared.opening.Keys.{Keys}
use Rattle.seals.specs.declared.opening.KeyPlace.{KeyPlace}

-- under which key it is sent, its label, which parts are there, and the bytes so far
pub record Parts : Type 0 where
  pub place : KeyPlace
  pub label : Label
  pub have : List Bool
  pub bytes : List ℕ

-- there is a place for each byte, and one for each part to tell whether it is there
pub record IsSound (p : Parts) : Type 0 where
  pub is_label : IsLabel p.label
  pub room : length p.bytes ≡ p.label.length
  pub marks : length p.have ≡ 11

-- none is there
abbrev pub blank : KeyPlace → Label → Parts
blank place label = record { place = place; label = label; have = replicate 11 false; bytes = replicate label.length 0 }

-- it is the packet of this label, under the key at this place
abbrev pub IsFor : KeyPlace → Label → Parts → Type 0
IsFor place label p = (p.place ≡ place) × (p.label ≡ label)

-- the bytes, this part in its place
abbrev pub placed : List ℕ → ℕ → List ℕ → List ℕ
placed bytes index part = take (1192 * index) bytes ++ (part ++ drop (1192 * index + length part) bytes)

-- the first so many are there
abbrev pub IsWhole : List Bool → ℕ → Type 0
IsWhole have count = (k : ℕ) → k < count → slice_index_or have k false ≡ true

-- the packet was sealed with this label, under the key at this place
abbrev pub IsSealedAs : Keys → KeyPlace → Label → List ℕ → Type 0
IsSealedAs keys place label packet = (block : List ℕ) × IsKeyAt keys place block × (label ≡ label_of block label.from label.to packet)

-- with this part in its place
abbrev pub with_part : Parts → ℕ → List ℕ → Parts
with_part p index part = record p { have = slice_set p.have index true; bytes = placed p.bytes index part }
