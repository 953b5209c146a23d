-- Pages that a start has marked anew, in a file whose pages keep no sums: the header and the rest of the first page.
use Rattle.std.proofs.Common.{◌≡◌, ◌≢◌, ℕ, ◌%◌, min, List, [], length, slice_index, take, drop, Option, Some, option_map, unwrap_or, sym, refl, ◌∙◌, ap, subst, inl, inr, arith, length-take, get_or-take, take_all}
use Rattle.std.proofs.lemmas.Bool.{cases_eq, cases_lt, ne_eqb}
use Rattle.std.proofs.lemmas.List.{get_or_past}
use Rattle.sqlite_format.specs.Bytes.{SameOutside}
use Rattle.sqlite_format.proofs.BytesLemmas.{drop-same_outside}
use Rattle.sqlite_pages.specs.PageMap.{PageMap}
use Rattle.sqlite_wal.specs.Recovery.{AreWhole}
use Rattle.sqlite_wal.proofs.AppendLemmas.{some_value}
use Rattle.sqlite_pool.specs.File.{header_in}
use Rattle.sqlite_pool.specs.Stored.{sealed, trimmed}
use Rattle.sqlite_pool.specs.StoredLaws.{trimmed_at, trimmed_some}
use Rattle.rows_life.specs.Keeping.{SameButMark, SamePages}
use Rattle.database_days.proofs.Sounding.{SameButFirst}

-- a page and the same page with another mark differ there at most, also past their end
outside_page : (page marked : List ℕ) → SameButMark page marked → SameOutside page marked 60 64
outside_page page marked s = record {
  len = s.len;
  below = λ k low. elim (cases_lt k (length page)) [
    | inl within ↦ s.before k within low
    | inr past ↦ get_or_past marked k 0 (omega (arith, s.len)) ∙ sym (get_or_past page k 0 past)
  ];
  above = λ k high. elim (cases_lt k (length page)) [
    | inl within ↦ s.behind k within high
    | inr past ↦ get_or_past marked k 0 (omega (arith, s.len)) ∙ sym (get_or_past page k 0 past)
  ];
}

same_in_head : (a b : List ℕ) (k : ℕ) → slice_index b k ≡ slice_index a k → slice_index (take 100 b) k ≡ slice_index (take 100 a) k
same_in_head a b k e = elim (cases_lt k 100) [
  | inl within ↦ get_or-take 100 b k 0 within ∙ e ∙ sym (get_or-take 100 a k 0 within)
  | inr past ↦ get_or_past (take 100 b) k 0 (omega (arith, length-take 100 b)) ∙ sym (get_or_past (take 100 a) k 0 (omega (arith, length-take 100 a)))
]

outside_head : (a b : List ℕ) → SameOutside a b 60 64 → SameOutside (take 100 a) (take 100 b) 60 64
outside_head a b s = record {
  len = length-take 100 b ∙ ap (min 100) s.len ∙ sym (length-take 100 a);
  below = λ k low. same_in_head a b k (s.below k low);
  above = λ k high. same_in_head a b k (s.above k high);
}

-- marked pages are whole
pub still_whole : (size : ℕ) (stored now : PageMap) → SamePages stored now → AreWhole size stored → AreWhole size now
still_whole size stored now same whole =
    let (page, is) = some_value (stored 1) whole.first in
    let (marked, at, mark) = same.first page is in
    record {
      first = rw at refl;
      sized = λ n bytes found. elim (cases_eq n 1) [
        | inl here ↦ (let e : Some marked ≡ Some bytes = sym at ∙ ap now (sym here) ∙ found in
            let same_bytes : marked ≡ bytes = cc in
            ap length (sym same_bytes) ∙ mark.len ∙ whole.sized 1 page is)
        | inr other ↦ whole.sized n bytes (sym (same.others n other) ∙ found)
      ];
    }

-- a page that keeps no sum is stored as it is used
pub no_sum : (size : ℕ) (bytes : List ℕ) → size % 16 ≢ 8 → length bytes ≡ size → bytes ≡ sealed (take size bytes)
unfolding sealed
no_sum size bytes plain len = rw (take_all size bytes (omega arith), len, ne_eqb (size % 16) 8 plain)

module _ (size : ℕ) (stored now : PageMap) (same : SamePages stored now) (page : List ℕ) (is : stored 1 ≡ Some page) (len : length page ≡ size) where
  first_used : trimmed size stored 1 ≡ Some page
  first_used = trimmed_some size stored 1 page is ∙ ap Some (take_all size page (omega arith))

  first_marked : (marked : List ℕ) × (trimmed size now 1 ≡ Some marked) × SameOutside page marked 60 64
  first_marked =
      let (marked, at, mark) = same.first page is in
      (marked, trimmed_some size now 1 marked at ∙ ap Some (take_all size marked (omega (arith, mark.len))), outside_page page marked mark)

  pub others_same : SameButFirst (trimmed size stored) (trimmed size now)
  others_same n other = trimmed_at size now stored n (same.others n other)

  pub head_same : SameOutside (header_in (trimmed size stored)) (header_in (trimmed size now)) 60 64
  head_same =
      let (marked, at, outside) = first_marked in
      let old : header_in (trimmed size stored) ≡ take 100 page = ap (λ (o : Option (List ℕ)). take 100 (unwrap_or o [])) first_used in
      let new : header_in (trimmed size now) ≡ take 100 marked = ap (λ (o : Option (List ℕ)). take 100 (unwrap_or o [])) at in
      subst (λ (b : List ℕ). SameOutside (header_in (trimmed size stored)) b 60 64) (sym new)
      (subst (λ (b : List ℕ). SameOutside b (take 100 marked) 60 64) (sym old) (outside_head page marked outside))

  pub rest_same : option_map (drop 100) (trimmed size now 1) ≡ option_map (drop 100) (trimmed size stored 1)
  rest_same =
      let (marked, at, outside) = first_marked in
      ap (option_map (drop 100)) at ∙ ap Some (drop-same_outside outside 100 (omega arith)) ∙ sym (ap (option_map (drop 100)) first_used)

  pub length_same : option_map length (trimmed size now 1) ≡ option_map length (trimmed size stored 1)
  length_same =
      let (marked, at, outside) = first_marked in
      ap (option_map length) at ∙ ap Some outside.len ∙ sym (ap (option_map length) first_used)
