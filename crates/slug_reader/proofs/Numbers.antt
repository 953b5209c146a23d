-- How many cuts stand before a position, counted frame by frame.
use Rattle.std.proofs.Common.{◌≡◌, ℕ, zero, suc, ◌+◌, ◌<◌, ◌≤◌, Bool, true, false, cond, ltb, List, [], ◌∷◌, length, refl, sym, ◌∙◌, ap, arith, add-one, add-zero, inl, inr}
use Rattle.std.specs.Prelude.{filter, count_by}
use Rattle.std.proofs.lemmas.List.Elements.{filter-append}
use Rattle.std.proofs.lemmas.List.Sums.{sum_by-append}
use Rattle.std.proofs.lemmas.Bool.{cases_lt, lt-ltb, le-ltb}
use Rattle.slug_reader.specs.Positions.{before}
use Rattle.code_table.specs.declared.case.Case.{Case}
use Rattle.code_table.specs.declared.case.Case.TheVariants as cases
use Rattle.slug_reader.specs.Meanings.{Meanings, case_at, meaning_at, frame_at, is_elevate}
use Rattle.slug_reader.specs.Lines.{is_cut, line_number}

-- the cuts among the positions before i that stand before at
abbrev pub counted : Meanings → List ℕ → ℕ → ℕ → ℕ
counted means tape at i = count_by (λ cut. ltb cut at) (filter (is_cut means tape) (before i))

counted_push : (means : Meanings) (tape : List ℕ) (at i : ℕ)
    → counted means tape at (i + 1) ≡ counted means tape at i + count_by (λ cut. ltb cut at) (filter (is_cut means tape) (i ∷ []))
counted_push means tape at i =
    rw (add-one, filter-append (is_cut means tape) (before i) (i ∷ []))
    (sum_by-append (λ cut. cond (ltb cut at) 1 0) (filter (is_cut means tape) (before i)) (filter (is_cut means tape) (i ∷ [])))

-- a cut before at is one more
pub counted_cut : (means : Meanings) (tape : List ℕ) (at i : ℕ) → i < at → is_cut means tape i ≡ true → counted means tape at (i + 1) ≡ counted means tape at i + 1
counted_cut means tape at i lt e = counted_push means tape at i ∙ rw (e, lt-ltb i at lt) refl

pub counted_other : (means : Meanings) (tape : List ℕ) (at i : ℕ) → is_cut means tape i ≡ false → counted means tape at (i + 1) ≡ counted means tape at i
counted_other means tape at i e = counted_push means tape at i ∙ rw e (add-zero _)

one_behind : (at i : ℕ) (b : Bool) → at ≤ i → count_by (λ cut. ltb cut at) (cond b (i ∷ []) []) ≡ 0
one_behind at i true le = rw (le-ltb i at le) refl
one_behind at i false le = refl

behind : (means : Meanings) (tape : List ℕ) (at i : ℕ) → at ≤ i → counted means tape at (i + 1) ≡ counted means tape at i
behind means tape at i le = counted_push means tape at i ∙ (rw (one_behind at i (is_cut means tape i) le) (add-zero _))

-- positions from at on count for nothing
pub counted_all : (means : Meanings) (tape : List ℕ) (at i n : ℕ) → at ≤ i → i ≤ n → counted means tape at n ≡ counted means tape at i
counted_all means tape at i zero le ge = let same : i ≡ 0 = omega (arith, ge) in rw same refl
counted_all means tape at i (suc n) le ge =
    elim (cases_lt n i) [
      | inl less ↦ let same : i ≡ suc n = omega (arith, less, ge) in rw same refl
      | inr more ↦ (let step : at ≤ n = omega (arith, le, more) in rw add-one at (behind means tape at n step)) ∙ counted_all means tape at i n le more
    ]

-- the case and the count go on by one frame
pub case_start : (means : Meanings) (tape : List ℕ) → case_at means tape 0 ≡ cases.Unshift
unfolding case_at
case_start means tape = refl

pub cut_is : (means : Meanings) (tape : List ℕ) (i : ℕ) (c : Case) → c ≡ case_at means tape i → is_elevate (means c (frame_at tape i)) ≡ is_cut means tape i
unfolding is_cut meaning_at
cut_is means tape i c e = ap (λ x. is_elevate (means x (frame_at tape i))) e

pub line_is : (means : Meanings) (tape : List ℕ) (at i line : ℕ) → at ≤ i → i ≤ length tape → line ≡ suc (counted means tape at i) → line ≡ line_number means tape at
line_is means tape at i line le ge e = e ∙ ap suc (sym (counted_all means tape at i (length tape) le ge))
