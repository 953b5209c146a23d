-- What a search finds among matrices in byte order of their names.
use Rattle.std.proofs.Common.{◌≡◌, ◌⊎◌, inl, inr, ℕ, zero, suc, ◌<◌, true, false, cond, List, [], ◌∷◌, map, length, get_or, Some, None, Result, Ok, Err, MatchResult, IfSome, Ordering, Less, Equal, Greater, nat_cmp, is_eq, refl, sym, ◌∙◌, arith, add-one}
use Rattle.std.specs.Ordering.{is_lt, ordering_index, ordering_reverse}
use Rattle.std.specs.Cmp.Lexicographic.{slice_cmp}
use Rattle.std.specs.List.{AllByRecursion}
use Rattle.std.specs.List.Sorted.{IsStrictlySortedBy, IsNonDecreasingBy, IsSearchInRange, IsBinarySearchResult, IsPartitionPoint}
use Rattle.std.proofs.lemmas.Bool.{cases_lt}
use Rattle.std.proofs.lemmas.Cmp.{nat_list_cmp_total, alike_right}
use Rattle.std.proofs.lemmas.List.Sorted.{searchable_from_sorted}
use Rattle.widths.specs.declared.entry.MatrixWidth.{MatrixWidth}
use Rattle.widths.specs.Widths.{is_same, width_among, IsInNameOrder, IsWidth}

abbrev compare : List ℕ → List ℕ → Ordering
compare a b = slice_cmp nat_cmp a b

-- a name that comes before those of all entries comes before that of the one at a place
before_each : (name : List ℕ) (entries : List MatrixWidth) (at : ℕ) (d : MatrixWidth) → AllByRecursion (λ y. compare name y ≡ Less) (map (λ e. e.name) entries) → at < length entries → compare name (get_or entries at d).name ≡ Less
before_each name [] at d h lt = absurd (omega arith)
before_each name (e ∷ rest) zero d h lt = h.0
before_each name (e ∷ rest) (suc at) d h lt = before_each name rest at d h.1 (omega arith)

neighbours : (entries : List MatrixWidth) (at : ℕ) (d : MatrixWidth) → IsInNameOrder entries → suc at < length entries → compare (get_or entries at d).name (get_or entries (suc at) d).name ≡ Less
unfolding IsStrictlySortedBy
neighbours [] at d h lt = absurd (omega arith)
neighbours (e ∷ rest) zero d h lt = before_each e.name rest zero d h.0 (omega arith)
neighbours (e ∷ rest) (suc at) d h lt = neighbours rest at d h.1 (omega arith)

not_below : (o : Ordering) → o ≡ Less → is_lt (ordering_reverse o) ≡ false
not_below o e = rw e refl

-- what a binary search asks for
rise : (entries : List MatrixWidth) (name : List ℕ) → IsInNameOrder entries → IsNonDecreasingBy (λ e. ordering_index (compare e.name name)) entries
rise entries name h =
    searchable_from_sorted nat_list_cmp_total (λ e. e.name) entries name (λ k d low high.
    rw (add-one, nat_list_cmp_total.antisymm (get_or entries (suc k) d).name (get_or entries k d).name)
    (not_below _ (neighbours entries k d h (omega arith))))

-- the entry at which the comparison is equal is the first of this name
found : (entries : List MatrixWidth) (name : List ℕ) (at : ℕ) (d : MatrixWidth) → IsInNameOrder entries → at < length entries → compare (get_or entries at d).name name ≡ Equal → width_among entries name ≡ Some (get_or entries at d).width
unfolding IsStrictlySortedBy
found [] name at d h lt e = absurd (omega arith)
found (x ∷ rest) name zero d h lt e = rw e refl
found (x ∷ rest) name (suc at) d h lt e =
    let below = before_each x.name rest at d h.0 (omega arith) in
    let alike = alike_right nat_list_cmp_total (get_or rest at d).name name x.name e in
    rw (sym alike ∙ below) (found rest name at d h.1 (omega arith) e)

-- a name at which no comparison is equal has no width
absent : (entries : List MatrixWidth) (name : List ℕ) → ((at : ℕ) (d : MatrixWidth) → at < length entries → is_same (get_or entries at d).name name ≡ false) → width_among entries name ≡ None
absent [] name h = refl
absent (e ∷ rest) name h = rw (h zero e (omega arith)) (absent rest name (λ at d lt. h (suc at) d (omega arith)))

not_equal : (o : Ordering) → (o ≡ Less) ⊎ (o ≡ Greater) → is_eq o ≡ false
not_equal o (inl e) = rw e refl
not_equal o (inr e) = rw e refl

apart : (entries : List MatrixWidth) (name : List ℕ) (gap : ℕ) → IsPartitionPoint (λ e. compare e.name name ≡ Less) (λ e. compare e.name name ≡ Greater) entries gap → (at : ℕ) (d : MatrixWidth) → at < length entries → is_same (get_or entries at d).name name ≡ false
apart entries name gap h at d lt =
    elim (cases_lt at gap) [ inl before ↦ not_equal _ (inl (h.0 at d (omega arith) before)) | inr behind ↦ not_equal _ (inr (h.1 at d behind lt)) ]

-- what a binary search by name says of the widths
pub searched : (entries : List MatrixWidth) (name : List ℕ) (r : Result ℕ ℕ) → IsInNameOrder entries → IsSearchInRange r (length entries) → IsBinarySearchResult (λ e. compare e.name name) entries r → MatchResult r (λ at. (d : MatrixWidth) → width_among entries name ≡ Some (get_or entries at d).width) (λ _. width_among entries name ≡ None)
searched entries name (Ok at) h range is = λ d. found entries name at d h range (is d)
searched entries name (Err gap) h range is = absent entries name (apart entries name gap (is (rise entries name h)))

-- each width that is found is one
pub in_range : (entries : List MatrixWidth) (name : List ℕ) → AllByRecursion (λ e. IsWidth e.width) entries → IfSome (width_among entries name) (λ width. IsWidth width)
in_range [] name h = tt
in_range (e ∷ rest) name h = elim (is_same e.name name) as (λ b. IfSome (cond b (Some e.width) (width_among rest name)) (λ width. IsWidth width)) [ true ↦ h.0 | false ↦ in_range rest name h.1 ]
