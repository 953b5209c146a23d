-- What is known after some of the pieces of a packet.
use Rattle.std.proofs.Common.{◌≡◌, ◌≢◌, ℕ, ◌+◌, ◌<◌, ◌≤◌, inl, inr, Bool, true, false, List, [], length, take, get_or, set, replicate, refl, sym, ap, subst, ◌∙◌, arith}
use Rattle.std.specs.Prelude.{Option, Some, None}
use Rattle.std.specs.List.{Any}
use Rattle.std.proofs.lemmas.Bool.{cases_lt, cases_eq, false≢true}
use Rattle.std.proofs.lemmas.List.{length-set, length-take, get_or-take, get_or-set_same, get_or-set_other, get_or_default, take_all}
use Rattle.seals.specs.Sealing.{most_packet, count_of, part_of}
use Rattle.seals.specs.Opening.{IsPart}
use Rattle.seals.specs.declared.label.Label.{Label}
use Rattle.seals.specs.declared.opening.Keys.{Keys}
use Rattle.seals.specs.declared.opening.Piece.{Piece}
use Rattle.seals.specs.declared.opening.KeyPlace.{KeyPlace}
use Rattle.seals.specs.Parts.{Parts, IsSealedAs, IsWhole}
use Rattle.seals.specs.Places.{Knows, Gathers}
use Rattle.whole_packets.specs.Orders.{AreOf, GivesWhatWasSealed}

-- of this packet those parts are there that came, and not all
pub record Came (place : KeyPlace) (label : Label) (packet : List ℕ) (pieces : List Piece) (slots : List Parts) : Type 0 where
  pub had : List Bool
  pub marks : length had ≡ 11
  pub knows : Knows place label packet had slots
  pub each : (k : ℕ) → k < 11 → Any (λ p. p.index ≡ k) pieces → get_or had k false ≡ true
  pub lacks : ¬ IsWhole had (count_of (length packet))

-- so it is of each packet that the pieces are of
abbrev pub AllCame : Keys → List Piece → List Piece → List Parts → Type 0
AllCame keys pieces came slots =
    (place : KeyPlace) (label : Label) (packet : List ℕ)
    → IsSealedAs keys place label packet → 1 ≤ length packet → length packet ≤ most_packet → AreOf place label packet pieces
    → Came place label packet came slots

pub none_came : (keys : Keys) (pieces : List Piece) → AllCame keys pieces [] []
none_came keys pieces = λ place label packet sealed some few are. record {
  had = replicate 11 false;
  marks = refl;
  knows = inl (λ k d lt. absurd (omega arith), refl);
  each = λ k low any. absurd (let lt = any.2 in omega arith);
  lacks = λ whole. false≢true (whole 0 (omega arith));
}

-- what is among one more, and is not that one, was among those before
any_more : (pieces : List Piece) (i k : ℕ) (d : Piece) → i < length pieces → Any (λ p. p.index ≡ k) (take (i + 1) pieces) → k ≢ (get_or pieces i d).index → Any (λ p. p.index ≡ k) (take i pieces)
any_more pieces i k d inside any other =
    let n = any.0 in
    let x = any.1 in
    let lt = any.2 in
    let longer = length-take (i + 1) pieces in
    let shorter = length-take i pieces in
    let low : n < i + 1 = omega arith in
    let here : get_or pieces n x ≡ x = sym (get_or-take (i + 1) pieces n x low) ∙ any.3 in
    elim (cases_lt n i) as (λ _. Any (λ (p : Piece). p.index ≡ k) (take i pieces)) [
      | inl before ↦ (n, x, omega arith, get_or-take i pieces n x before ∙ here, any.4)
      | inr past ↦
          let same : n ≡ i = omega arith in
          let at_i : get_or pieces i x ≡ x = ap (λ (m : ℕ). get_or pieces m x) (sym same) ∙ here in
          absurd (other (sym any.4 ∙ ap (λ (p : Piece). p.index) (sym at_i ∙ get_or_default pieces i x d inside)))
    ]

-- the piece at a place is of the packet that all are of
is_of : (place : KeyPlace) (label : Label) (packet : List ℕ) (pieces : List Piece) (i : ℕ) (piece : Piece) → i < length pieces → piece ≡ get_or pieces i piece → AreOf place label packet pieces
    → (piece.place ≡ place) × (piece.label ≡ label) × (piece.part.now ≡ part_of packet piece.index)
is_of place label packet pieces i piece inside at are =
    subst (λ (p : Piece). (p.place ≡ place) × (p.label ≡ label) × (p.part.now ≡ part_of packet p.index)) (sym at) (are i piece inside)

-- what a piece leaves, in the words of the packet that it is of
gathers_at : (keys : Keys) (place : KeyPlace) (label : Label) (piece : Piece) (old new : List Parts) (o : Option (List ℕ)) → piece.place ≡ place → piece.label ≡ label
    → Gathers keys piece.place piece.label piece.index piece.part.now old new o → Gathers keys place label piece.index piece.part.now old new o
gathers_at keys place label piece old new o a b gathers =
    subst (λ (l : Label). Gathers keys place l piece.index piece.part.now old new o) b
    (subst (λ (k : KeyPlace). Gathers keys k piece.label piece.index piece.part.now old new o) a gathers)

pub one_more : (keys : Keys) (pieces : List Piece) (i : ℕ) (piece : Piece) (old new : List Parts) → i < length pieces → piece ≡ get_or pieces i piece → IsPart piece.label piece.index piece.part.now
    → Gathers keys piece.place piece.label piece.index piece.part.now old new None → AllCame keys pieces (take i pieces) old → AllCame keys pieces (take (i + 1) pieces) new
one_more keys pieces i piece old new inside at is gathers came = λ place label packet sealed some few are.
    let before = came place label packet sealed some few are in
    let here = is_of place label packet pieces i piece inside at are in
    let step = gathers_at keys place label piece old new None here.0 here.1 gathers packet before.had sealed here.2 before.knows in
    let low = is.index_low in
    let most = is.is_label.few in
    let marks = before.marks in
    let index_low : piece.index < length before.had = omega arith in
    record {
      had = set before.had piece.index true;
      marks = length-set before.had piece.index true ∙ before.marks;
      knows = step.0;
      each = λ k k_low any. elim (cases_eq k piece.index) as (λ _. get_or (set before.had piece.index true) k false ≡ true) [
        | inl same ↦ subst (λ (j : ℕ). get_or (set before.had piece.index true) j false ≡ true) (sym same) (get_or-set_same before.had piece.index true false index_low)
        | inr other ↦
            get_or-set_other before.had piece.index k true false other
            ∙ before.each k k_low (any_more pieces i k piece inside any (λ e. other (e ∙ sym (ap (λ (p : Piece). p.index) at))))
      ];
      lacks = step.1;
    }

-- the last piece that lacked gives the packet
pub gives_last : (keys : Keys) (pieces : List Piece) (i : ℕ) (piece : Piece) (old new : List Parts) (out : List ℕ) → i < length pieces → piece ≡ get_or pieces i piece
    → Gathers keys piece.place piece.label piece.index piece.part.now old new (Some out) → AllCame keys pieces (take i pieces) old → GivesWhatWasSealed keys pieces (Some out)
gives_last keys pieces i piece old new out inside at gathers came = λ place label packet sealed some few are covers.
    let before = came place label packet sealed some few are in
    let here = is_of place label packet pieces i piece inside at are in
    let step = gathers_at keys place label piece old new (Some out) here.0 here.1 gathers packet before.had sealed here.2 before.knows in
    ap (λ (l : List ℕ). Some l) step.0

-- where each part came, none lacks
pub gives_none : (keys : Keys) (pieces : List Piece) (n : ℕ) (slots : List Parts) → length pieces ≤ n → AllCame keys pieces (take n pieces) slots → GivesWhatWasSealed keys pieces None
gives_none keys pieces n slots past came = λ place label packet sealed some few are covers.
    let before = came place label packet sealed some few are in
    let all = take_all n pieces past in
    absurd (before.lacks (λ k low. before.each k (omega arith) (subst (λ (l : List Piece). Any (λ (p : Piece). p.index ≡ k) l) (sym all) (covers k low))))
