-- What the pieces of one packet give.
use Rattle.std.specs.Prelude.{◌≡◌, ℕ, ◌<◌, ◌≤◌, List, length, Option, Some}
use Rattle.std.specs.List.{All, Any}
use Rattle.seals.specs.Sealing.{most_packet, count_of, part_of}
use Rattle.seals.specs.declared.label.Label.{Label}
use Rattle.seals.specs.declared.opening.Keys.{Keys}
use Rattle.seals.specs.declared.opening.Piece.{Piece}
use Rattle.seals.specs.declared.opening.KeyPlace.{KeyPlace}
use Rattle.seals.specs.Parts.{IsSealedAs}

-- each piece is a part of this packet, with this label and under the key at this place
abbrev pub AreOf : KeyPlace → Label → List ℕ → List Piece → Type 0
AreOf place label packet pieces = All (λ p. (p.place ≡ place) × (p.label ≡ label) × (p.part.now ≡ part_of packet p.index)) pieces

-- each of the first so many parts is among them
abbrev pub Covers : ℕ → List Piece → Type 0
Covers count pieces = (k : ℕ) → k < count → Any (λ p. p.index ≡ k) pieces

-- where they are pieces of one packet, and each of its parts is among them, they give it
abbrev pub GivesWhatWasSealed : Keys → List Piece → Option (List ℕ) → Type 0
GivesWhatWasSealed keys pieces given =
    (place : KeyPlace) (label : Label) (packet : List ℕ)
    → IsSealedAs keys place label packet → 1 ≤ length packet → length packet ≤ most_packet
    → AreOf place label packet pieces → Covers (count_of (length packet)) pieces
    → given ≡ Some packet
