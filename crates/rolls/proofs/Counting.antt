-- Counts, as they are tested, read and written.
use Rattle.std.proofs.Common.{◌≡◌, ℕ, zero, suc, ◌+◌, ◌<◌, ◌≤◌, Bool, true, false, leb, ◌&&◌, List, [], ◌∷◌, ◌++◌, length, take, get_or, replicate, refl, sym, ap, subst, ◌∙◌, inl, inr, arith, append_assoc, append-nil}
use Rattle.std.specs.Prelude.{drop, slice_index, ◌-◌}
use Rattle.std.specs.Int.{w16, to_be_bytes}
use Rattle.std.proofs.lemmas.Bool.{cases_lt, le-leb, leb-true}
use Rattle.std.proofs.lemmas.List.{take_more, length-replicate, get_or-replicate, get_or_past}
use Rattle.recalls.specs.Tickets.{u16_at}
use Rattle.rolls.specs.Pages.{pages, numbers_on}
use Rattle.rolls.specs.Counts.{AreCounts, counts_fit}
use Rattle.rolls.specs.Reading.{counts_in}
use Rattle.rolls.specs.Spelling.{count_bytes}

-- one count more is read
pub count_read :
    (all counts rest : List ℕ) (count i : ℕ) → i < count → all ≡ counts ++ counts_in (count - i) rest
    → all ≡ (counts ++ u16_at rest 0 ∷ []) ++ counts_in (count - (i + 1)) (drop 2 rest)
unfolding counts_in
count_read all counts rest count i turn read =
    let left : count - i ≡ suc (count - (i + 1)) = omega arith in
    read
    ∙ ap (λ (k : ℕ). counts ++ counts_in k rest) left
    ∙ sym (append_assoc counts (u16_at rest 0 ∷ []) (counts_in (count - (i + 1)) (drop 2 rest)))

-- all of them are
pub counts_read : (all counts rest : List ℕ) (count i : ℕ) → count ≤ i → all ≡ counts ++ counts_in (count - i) rest → counts ≡ all
unfolding counts_in
counts_read all counts rest count i past read =
    let none : count - i ≡ 0 = omega arith in
    sym (read ∙ ap (λ (k : ℕ). counts ++ counts_in k rest) none ∙ append-nil counts)

pub length-counts_in : (count : ℕ) (bytes : List ℕ) → length (counts_in count bytes) ≡ count
unfolding counts_in
length-counts_in zero bytes = refl
length-counts_in (suc count) bytes = ap suc (length-counts_in count (drop 2 bytes))

both_true : (a b : Bool) → (a && b) ≡ true → (a ≡ true) × (b ≡ true)
both_true true true e = (refl, refl)
both_true true false e = cc
both_true false b e = cc

-- counts that are found to fit do
fit_each : (page : ℕ) (counts : List ℕ) → counts_fit page counts ≡ true → (i : ℕ) → slice_index counts i ≤ numbers_on (page + i)
fit_each page [] e i = omega arith
fit_each page (c ∷ cs) e zero =
    let same : page ≡ page + 0 = omega arith in
    subst (λ (k : ℕ). c ≤ numbers_on k) same (leb-true c (numbers_on page) (both_true _ _ e).0)
fit_each page (c ∷ cs) e (suc i) =
    let same : page + 1 + i ≡ page + suc i = omega arith in
    subst (λ (k : ℕ). slice_index cs i ≤ numbers_on k) same (fit_each (page + 1) cs (both_true _ _ e).1 i)

-- and those that do are found to
fit_all : (page : ℕ) (counts : List ℕ) → ((i : ℕ) → slice_index counts i ≤ numbers_on (page + i)) → counts_fit page counts ≡ true
fit_all page [] h = refl
fit_all page (c ∷ cs) h =
    let same : page + 0 ≡ page = omega arith in
    let first : leb c (numbers_on page) ≡ true = le-leb c (numbers_on page) (subst (λ (k : ℕ). c ≤ numbers_on k) same (h 0)) in
    let step : (i : ℕ) → page + suc i ≡ page + 1 + i = λ i. omega arith in
    let rest : counts_fit (page + 1) cs ≡ true = fit_all (page + 1) cs (λ i. subst (λ (k : ℕ). slice_index cs i ≤ numbers_on k) (step i) (h (suc i))) in
    rw (first, rest) refl

pub are_counts : (bytes : List ℕ) → counts_fit 0 (counts_in pages bytes) ≡ true → AreCounts (counts_in pages bytes)
are_counts bytes e = record {
  many = length-counts_in pages bytes;
  fit = λ i. let same : 0 + i ≡ i = omega arith in subst (λ (k : ℕ). slice_index (counts_in pages bytes) i ≤ numbers_on k) same (fit_each 0 (counts_in pages bytes) e i);
}

pub counts_do_fit : (counts : List ℕ) → AreCounts counts → counts_fit 0 counts ≡ true
counts_do_fit counts are = fit_all 0 counts (λ i. let same : i ≡ 0 + i = omega arith in subst (λ (k : ℕ). slice_index counts i ≤ numbers_on k) same (are.fit i))

-- no page has a vote
zeros : (count i : ℕ) → slice_index (replicate count 0) i ≡ 0
zeros count i = elim (cases_lt i count) [
  | inl within ↦ get_or-replicate count i 0 0 within
  | inr past ↦ get_or_past (replicate count 0) i 0 (omega (arith, length-replicate {A = ℕ} count 0))
]

pub none_are : AreCounts (replicate pages 0)
none_are = record {
  many = length-replicate {A = ℕ} pages 0;
  fit = λ i. let none : slice_index (replicate pages 0) i ≡ 0 = zeros pages i in omega (arith, none);
}

counts_append : (xs ys : List ℕ) → count_bytes (xs ++ ys) ≡ count_bytes xs ++ count_bytes ys
counts_append [] ys = refl
counts_append (x ∷ xs) ys = ap (λ (l : List ℕ). to_be_bytes w16 x ++ l) (counts_append xs ys)

-- one count more is written
pub count_written :
    (front before after counts : List ℕ) (i d : ℕ) → i < length counts → before ≡ front ++ count_bytes (take i counts)
    → after ≡ before ++ to_be_bytes w16 (get_or counts i d) → after ≡ front ++ count_bytes (take (i + 1) counts)
count_written front before after counts i d l so more =
    let one : count_bytes (take (i + 1) counts) ≡ count_bytes (take i counts) ++ to_be_bytes w16 (get_or counts i d) =
    ap count_bytes (take_more counts i d l) ∙ counts_append (take i counts) (get_or counts i d ∷ []) in
    more
    ∙ ap (λ (l : List ℕ). l ++ to_be_bytes w16 (get_or counts i d)) so
    ∙ append_assoc front (count_bytes (take i counts)) (to_be_bytes w16 (get_or counts i d))
    ∙ ap (λ (l : List ℕ). front ++ l) (sym one)
