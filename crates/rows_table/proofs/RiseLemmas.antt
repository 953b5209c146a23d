-- The listing of a table whose rows have whole numbers as keys, each once, rises.
use Rattle.std.proofs.Common.{◌≡◌, ◌≢◌, ◌==◌, ℕ, suc, ◌+◌, ◌≤◌, ◌<◌, pos, List, [], ◌∷◌, map, length, Bool, true, false, cond, ◌&&◌, Some, None, Option, refl, sym, ap, subst, ◌∙◌, arith, true≢false, nat_lt}
use Rattle.std.specs.Prelude.{find, filter, option_to_list, slice_index_or}
use Rattle.std.specs.List.{AllByRecursion}
use Rattle.std.specs.List.Sorted.{IsSortedBy}
use Rattle.std.specs.Ordering.{is_lt, is_eq, int_cmp}
use Rattle.std.specs.declared.cmp.Ordering.TheVariants.{Less, Equal, Greater}
use Rattle.std.proofs.lemmas.List.{length-map}
use Rattle.std.proofs.lemmas.List.Sorted.{length_permutation}
use Rattle.std.proofs.lemmas.Bool.Decides.{Decides-ltb}
use Rattle.sqlite_value.specs.Order.{Row, column, value_cmp}
use Rattle.sqlite_value.proofs.OrderLemmas.{value_cmp-Int}
use Rattle.sqlite_rules.proofs.ListLemmas.{all_from, all_has}
use Rattle.sqlite_trees.proofs.ListLemmas.{all-permutation, all-map, filter-map, IsPermutation-filter}
use Rattle.rows_table.specs.Rows.{whole, IsKeyed, AreRows, with_key, IsListing}
use Rattle.rows_table.specs.Rising.{key_of, is_above, goes_on, rise_from}
use Rattle.rows_table.specs.Tables.{Layout}
use Rattle.rows_table.proofs.KeyLemmas.{has, same_key, is_self, whole_number}

not_below : (a b : ℕ) → is_lt (int_cmp (pos a) (pos b)) ≡ false → b ≤ a
not_below a b h = at (nat_lt a b) refl h
  where
    at : (t : Bool) → nat_lt a b ≡ t → is_lt (cond t Less (cond (nat_lt b a) Greater Equal)) ≡ false → b ≤ a
    at true e f = absurd (true≢false f)
    at false e f = let no : ¬ (a < b) = λ lt. true≢false (sym ((Decides-ltb a b).1 lt) ∙ e) in omega (arith, no)

-- what is behind the first of a sorted list is sorted
tail_sorted : {X : Type 0} (lt : X → X → Bool) (x : X) (xs : List X) → IsSortedBy lt (x ∷ xs) → IsSortedBy lt xs
tail_sorted lt x xs up k d low within =
    subst (λ (n : ℕ). lt (slice_index_or (x ∷ xs) n d) (slice_index_or xs k d) ≡ false) {x = suc k + 1} {y = suc (k + 1)} (omega arith) (up (suc k) d (omega arith) (omega arith))

-- rows beside the keys by which they are ordered
abbrev Keyed : Type 0
Keyed = Row × Row

abbrev is_before : Keyed → Keyed → Bool
is_before a b = is_lt (value_cmp (column a.0 0) (column b.0 0))

abbrev has_number : ℕ → Keyed → Bool
has_number n p = has n p.1

-- the key is a whole number, and so is the row's first column
abbrev IsNumbered : Keyed → Type 0
IsNumbered p = (n : ℕ) × (column p.0 0 ≡ whole n) × (column p.1 0 ≡ whole n)

-- the first of them is above a number, where there is one
abbrev Starts : Option ℕ → List Keyed → Type 0
Starts last [] = Unit {0}
Starts last (p ∷ ps) = (n : ℕ) → column p.1 0 ≡ whole n → is_above last n ≡ true

fewer : {X : Type 0} (b : Bool) (x : X) (xs : List X) → length (cond b (x ∷ xs) xs) ≤ 1 → length xs ≤ 1
fewer true x xs h = omega arith
fewer false x xs h = h

has_its : (p : Keyed) (n k : ℕ) → column p.1 0 ≡ whole n → n ≡ k → has_number k p ≡ true
has_its p n k is same = ap (λ v. is_eq (value_cmp v (whole k))) is ∙ same_key n k ∙ ap (λ m. m == k) same ∙ is_self k

-- two numbers one behind the other, each of which is there once, rise
above_first : (p q : Keyed) (ps : List Keyed) (k n : ℕ) → column p.0 0 ≡ whole k → column p.1 0 ≡ whole k → column q.0 0 ≡ whole n → column q.1 0 ≡ whole n
    → is_before q p ≡ false → length (filter (has_number k) (p ∷ q ∷ ps)) ≤ 1 → k < n
above_first p q ps k n p_key p_number q_key q_number after once =
    let ordered : k ≤ n = not_below n k (ap is_lt (sym (value_cmp-Int (pos n) (pos k))) ∙ (rw (q_key, p_key) at after)) in
    let apart : k ≢ n = λ same.
    let both : length (p ∷ q ∷ filter (has_number k) ps) ≤ 1 = rw (has_its p k k p_number refl, has_its q n k q_number (sym same)) at once in
    omega arith
    in omega (arith, apart)

rise_of : (last : Option ℕ) (ps : List Keyed) → AllByRecursion IsNumbered ps → IsSortedBy is_before ps → ((n : ℕ) → length (filter (has_number n) ps) ≤ 1) → Starts last ps
    → rise_from last (map (λ p. p.1) ps) ≡ true
rise_of last [] all up once starts = refl
rise_of last (p ∷ ps) all up once starts =
    let k = all.0.0 in
    let more = rise_of (Some k) ps all.1 (tail_sorted is_before p ps up) (λ n. fewer (has_number n p) p (filter (has_number n) ps) (once n)) (next ps all.1 up once) in
    ap (λ v. goes_on last (key_of v) (λ next. rise_from next (map (λ q. q.1) ps))) all.0.2 ∙ ap (λ b. b && rise_from (Some k) (map (λ q. q.1) ps)) (starts k all.0.2) ∙ more
  where
    next : (qs : List Keyed) → AllByRecursion IsNumbered qs → IsSortedBy is_before (p ∷ qs) → ((n : ℕ) → length (filter (has_number n) (p ∷ qs)) ≤ 1) → Starts (Some all.0.0) qs
    next [] rest sorted single = tt
    next (q ∷ qs) rest sorted single = λ n is.
        let same : rest.0.0 ≡ n = whole_number (sym rest.0.2 ∙ is) in
        let above = above_first p q qs all.0.0 rest.0.0 all.0.1 all.0.2 rest.0.1 rest.0.2 (sorted 0 p (omega arith) (omega arith)) (single all.0.0) in
        (Decides-ltb all.0.0 n).1 (omega (arith, above, same))

starts_all : (ps : List Keyed) → Starts None ps
starts_all [] = tt
starts_all (p ∷ ps) = λ n is. refl

at_most_one : {X : Type 0} (o : Option X) → length (option_to_list o) ≤ 1
at_most_one None = omega arith
at_most_one (Some x) = omega arith

pub rises : (layout : Layout) (table rows : List Row) → IsListing layout table rows → AreRows table → rise_from None rows ≡ true
rises layout table rows listing are =
    let mine : AllByRecursion (λ r. IsNumbered (with_key layout r)) table = all_from (λ r. IsNumbered (with_key layout r)) table (λ r there. let keyed = all_has IsKeyed table r are.keyed there in (keyed.0, keyed.1, keyed.1)) in
    let all = all-permutation IsNumbered _ listing.ordered listing.same (all-map _ _ _ mine) in
    let once : (n : ℕ) → length (filter (has_number n) listing.ordered) ≤ 1 = λ n.
    let here : length (filter (has n) table) ≡ length (filter (has_number n) (map (with_key layout) table)) = sym (ap length (filter-map (has_number n) (with_key layout) table) ∙ length-map (filter (has n) table) (with_key layout)) in
    let moved : length (filter (has_number n) listing.ordered) ≡ length (filter (has_number n) (map (with_key layout) table)) = length_permutation _ _ (IsPermutation-filter (has_number n) _ _ listing.same) in
    let found : length (filter (has n) table) ≡ length (option_to_list (find (has n) table)) = ap length (are.once n) in
    omega (arith, here, moved, found, at_most_one (find (has n) table))
    in subst (λ l. rise_from None l ≡ true) (sym listing.shown) (rise_of None listing.ordered all listing.sorted once (starts_all listing.ordered))
