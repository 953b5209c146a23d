-- A roll that is cut as far as a place.
use Rattle.std.proofs.Common.{◌≡◌, ℕ, ◌+◌, ◌-◌, ◌<◌, ◌≤◌, ◌⊎◌, List, [], ◌∷◌, ◌++◌, length, get_or, refl, inl, inr, arith}
use Rattle.std.proofs.lemmas.Bool.{cases_lt}
use Rattle.reel.specs.declared.piece.RollPiece.{RollPiece}
use Rattle.reel.specs.Pieces.{IsGap, InGap, InPiece, AreApart}

-- the place behind pieces at which the next may begin
abbrev pub end_of : ℕ → List RollPiece → ℕ
end_of from [] = from
end_of from (piece ∷ pieces) = end_of (piece.to + 1) pieces

-- the frames before a place are cut into pieces, and no gap lies on both sides of it
pub record CutBefore (least : ℕ) (frames : List ℕ) (pieces : List RollPiece) (place : ℕ) : Type 0 where
  pub high : place ≤ length frames
  pub start : (place ≡ 0) ⊎ (place < length frames → ¬ (get_or frames place 0 ≡ 0))
  pub apart : AreApart 0 pieces
  pub ends : place < length frames → end_of 0 pieces ≤ place
  pub within : (at : ℕ) → InPiece pieces at → at < place
  pub kept : (at : ℕ) → at < place → InPiece pieces at ⊎ InGap least frames at
  pub clean : (at : ℕ) → InPiece pieces at → InGap least frames at → ⊥

apart_push : (from : ℕ) (pieces : List RollPiece) (piece : RollPiece) → AreApart from pieces → end_of from pieces ≤ piece.from → piece.from < piece.to
    → AreApart from (pieces ++ piece ∷ [])
apart_push from [] piece apart le lt = (le, lt, tt)
apart_push from (p ∷ pieces) piece apart le lt = (apart.0, apart.1, apart_push (p.to + 1) pieces piece apart.2 le lt)

end_push : (from : ℕ) (pieces : List RollPiece) (piece : RollPiece) → end_of from (pieces ++ piece ∷ []) ≡ piece.to + 1
end_push from [] piece = refl
end_push from (p ∷ pieces) piece = end_push (p.to + 1) pieces piece

-- where a frame lies once a piece is added
in_push : (pieces : List RollPiece) (piece : RollPiece) (at : ℕ) → InPiece (pieces ++ piece ∷ []) at → InPiece pieces at ⊎ ((piece.from ≤ at) × (at < piece.to))
in_push [] piece at (inl h) = inr h
in_push [] piece at (inr h) = absurd h
in_push (p ∷ pieces) piece at (inl h) = inl (inl h)
in_push (p ∷ pieces) piece at (inr h) = elim (in_push pieces piece at h) [ inl a ↦ inl (inr a) | inr b ↦ inr b ]

push_old : (pieces : List RollPiece) (piece : RollPiece) (at : ℕ) → InPiece pieces at → InPiece (pieces ++ piece ∷ []) at
push_old [] piece at h = absurd h
push_old (p ∷ pieces) piece at (inl h) = inl h
push_old (p ∷ pieces) piece at (inr h) = inr (push_old pieces piece at h)

push_new : (pieces : List RollPiece) (piece : RollPiece) (at : ℕ) → piece.from ≤ at → at < piece.to → InPiece (pieces ++ piece ∷ []) at
push_new [] piece at low high = inl (low, high)
push_new (p ∷ pieces) piece at low high = inr (push_new pieces piece at low high)

-- a gap that reaches a place begins behind the place before it at which no gap can stand
begins_behind : (least : ℕ) (frames : List ℕ) (place at : ℕ) → (place ≡ 0) ⊎ (place < length frames → ¬ (get_or frames place 0 ≡ 0)) → place ≤ at
    → (gap : InGap least frames at) → place ≤ gap.from
begins_behind least frames place at (inl zero) le gap = omega (arith, zero)
begins_behind least frames place at (inr filled) le gap =
    elim (cases_lt gap.from place) [
      | inl less ↦
          let within : place < length frames = omega (arith, gap.gap.within, gap.behind, le) in
          let short : place < gap.from + least = omega (arith, gap.behind, le) in
          let before : gap.from ≤ place = omega (arith, less) in
          absurd (filled within (gap.gap.blank place before short))
      | inr more ↦ more
    ]

-- no frame lies in a gap from such a place as far as the next gap
pub no_gap_between : (least : ℕ) (frames : List ℕ) (place to at : ℕ) → (place ≡ 0) ⊎ (place < length frames → ¬ (get_or frames place 0 ≡ 0))
    → ((k : ℕ) → place ≤ k → k < to → ¬ (IsGap least frames k)) → place ≤ at → at < to → InGap least frames at → ⊥
no_gap_between least frames place to at start none low high gap =
    none gap.from (begins_behind least frames place at start low gap) (omega (arith, gap.reaches, high)) gap.gap

-- each of the blanks that stand where a gap begins lies in it, or in one behind it
pub blanks_in_gap : (least : ℕ) (frames : List ℕ) (to end at : ℕ) → 1 ≤ least → IsGap least frames to → end ≤ length frames
    → ((k : ℕ) → to ≤ k → k < end → get_or frames k 0 ≡ 0) → to ≤ at → at < end → InGap least frames at
blanks_in_gap least frames to end at some gap high blank low less =
    elim (cases_lt at (to + least)) [
      | inl near ↦ record { from = to; gap = gap; reaches = low; behind = near }
      | inr far ↦ record {
        from = at + 1 - least;
        gap = record {
          within = omega (arith, far, less, high, some);
          blank = λ k h l. blank k (omega (arith, far, h, some)) (omega (arith, far, l, less, some));
        };
        reaches = omega (arith, some, far);
        behind = omega (arith, some, far);
      }
    ]

-- no gap begins among blanks that are too few, nor at the frame behind them
pub no_gap_in_few : (least : ℕ) (frames : List ℕ) (at end k : ℕ) → at ≤ k → k ≤ end → end < at + least
    → ((j : ℕ) → at ≤ j → j < end → get_or frames j 0 ≡ 0) → (end < length frames → ¬ (get_or frames end 0 ≡ 0)) → IsGap least frames k → ⊥
no_gap_in_few least frames at end k low high few blank filled gap =
    let within : end < length frames = omega (arith, gap.within, low, few) in
    filled within (gap.blank end high (omega (arith, low, few)))

-- what is known once the next gap and its end are found
pub record Found (least : ℕ) (frames : List ℕ) (place to end : ℕ) : Type 0 where
  pub some : 1 ≤ least
  pub from_to : place ≤ to
  pub to_end : to ≤ end
  pub high : end ≤ length frames
  pub none : (k : ℕ) → place ≤ k → k < to → ¬ (IsGap least frames k)
  pub gap : to < length frames → IsGap least frames to
  pub blank : (k : ℕ) → to ≤ k → k < end → get_or frames k 0 ≡ 0
  pub filled : end < length frames → ¬ (get_or frames end 0 ≡ 0)

-- a frame behind the next gap's beginning lies in a gap
behind_to : (least : ℕ) (frames : List ℕ) (place to end at : ℕ) → Found least frames place to end → to ≤ at → at < end → InGap least frames at
behind_to least frames place to end at f low high =
    blanks_in_gap least frames to end at f.some (f.gap (omega (arith, low, high, f.high))) f.high f.blank low high

-- the gap's end is behind its beginning
pub end_is_behind : (least : ℕ) (frames : List ℕ) (place to end : ℕ) → Found least frames place to end → to < length frames → to < end
end_is_behind least frames place to end f lt =
    elim (cases_lt to end) [
      | inl less ↦ less
      | inr more ↦
          let same : end ≡ to = omega (arith, more, f.to_end) in
          let blank : get_or frames to 0 ≡ 0 = (f.gap lt).blank to (omega arith) (omega (arith, f.some)) in
          absurd (f.filled (omega (arith, same, lt)) (rw same blank))
    ]

-- a piece was added
pub cut_more : (least : ℕ) (frames : List ℕ) (pieces : List RollPiece) (place to end : ℕ) (piece : RollPiece) → CutBefore least frames pieces place
    → place < length frames → Found least frames place to end → piece.from ≡ place → piece.to ≡ to → place < to → CutBefore least frames (pieces ++ piece ∷ []) end
cut_more least frames pieces place to end piece c inside f from_is to_is lt = record {
  high = f.high;
  start = inr f.filled;
  apart = apart_push 0 pieces piece c.apart (omega (arith, c.ends inside, from_is)) (omega (arith, from_is, to_is, lt));
  ends = λ h.
      let behind : to < end = end_is_behind least frames place to end f (omega (arith, f.to_end, h)) in
      omega (arith, end_push 0 pieces piece, to_is, behind);
  within = λ at h.
      elim (in_push pieces piece at h) [
        | inl old ↦ omega (arith, c.within at old, f.from_to, f.to_end)
        | inr new ↦ omega (arith, new.1, to_is, f.to_end)
      ];
  kept = λ at h.
      elim (cases_lt at place) [
        | inl before ↦ elim (c.kept at before) [ inl old ↦ inl (push_old pieces piece at old) | inr gap ↦ inr gap ]
        | inr behind ↦
            elim (cases_lt at to) [
              | inl near ↦ inl (push_new pieces piece at (omega (arith, from_is, behind)) (omega (arith, to_is, near)))
              | inr far ↦ inr (behind_to least frames place to end at f far h)
            ]
      ];
  clean = λ at h gap.
      elim (in_push pieces piece at h) [
        | inl old ↦ c.clean at old gap
        | inr new ↦ no_gap_between least frames place to at c.start f.none (omega (arith, new.0, from_is)) (omega (arith, new.1, to_is)) gap
      ];
}

-- none was
pub cut_same : (least : ℕ) (frames : List ℕ) (pieces : List RollPiece) (place to end : ℕ) → CutBefore least frames pieces place → place < length frames
    → Found least frames place to end → to ≤ place → CutBefore least frames pieces end
cut_same least frames pieces place to end c inside f le = record {
  high = f.high;
  start = inr f.filled;
  apart = c.apart;
  ends = λ h. omega (arith, c.ends inside, f.from_to, f.to_end);
  within = λ at h. omega (arith, c.within at h, f.from_to, f.to_end);
  kept = λ at h.
      elim (cases_lt at place) [
        | inl before ↦ c.kept at before
        | inr behind ↦ inr (behind_to least frames place to end at f (omega (arith, behind, le)) h)
      ];
  clean = c.clean;
}
