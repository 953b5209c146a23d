-- A table whose listing rises has each number once.
use Rattle.std.proofs.Common.{◌≡◌, inl, inr, ℕ, ◌≤◌, ◌<◌, pos, negsuc, List, [], ◌∷◌, map, length, Bool, true, false, cond, ◌&&◌, ◌==◌, Some, None, Option, refl, sym, ap, subst, ◌∙◌, arith, true≢false, IsTrue}
use Rattle.std.specs.Prelude.{find, filter, option_to_list, option_map}
use Rattle.std.specs.List.{AllByRecursion}
use Rattle.std.specs.List.Sorted.{IsPermutation}
use Rattle.std.proofs.lemmas.List.{length-map}
use Rattle.std.proofs.lemmas.List.Sorted.{length_permutation, IsPermutation-sym, IsPermutation-map}
use Rattle.std.proofs.lemmas.Bool.Decides.{Decides-ltb, Decides-eqb, same_from_decides}
use Rattle.sqlite_value.specs.declared.value.Value.{Value}
use Rattle.sqlite_value.specs.declared.value.Value.TheVariants.{Null, Int, Real, Text, Blob}
use Rattle.sqlite_value.specs.Order.{Row, column}
use Rattle.sqlite_rules.proofs.ListLemmas.{all_from, all_has}
use Rattle.sqlite_trees.proofs.ListLemmas.{all-permutation, all-map, all_from_map, filter-map, map-map, IsPermutation-filter}
use Rattle.rows_table.specs.Rows.{found_at, listed_row, shown_of, Serves, whole, IsKeyed, AreKeyed, AreRows, with_key, IsListing}
use Rattle.rows_table.specs.Rising.{number_in, key_of, is_above, is_at, rise_from, listed_columns, IsInTable, AreListed}
use Rattle.rows_table.proofs.KeyLemmas.{has, same_key, is_self, the_row}
use Rattle.sqlite.proofs.Callers.{one_permutation}
use Rattle.sqlite.specs.State.{State, IsUnchanged}
use Rattle.sqlite.specs.Effect.{Database}
use Rattle.rows_table.specs.Tables.{Layout, layout_tree, layout_schema}
use Rattle.rows_table.specs.declared.layout.Layout.TheVariants.{One, Two}

-- the value is this number
keyed_at : (v : Value) (n : ℕ) → key_of v ≡ Some n → v ≡ whole n
keyed_at Null n e = absurd cc
keyed_at (Int (pos m)) n e = ap whole (let f : m ≡ n = cc in f)
keyed_at (Int (negsuc m)) n e = absurd cc
keyed_at (Real x) n e = absurd cc
keyed_at (Text t) n e = absurd cc
keyed_at (Blob b) n e = absurd cc

both_true : (a b : Bool) → (a && b) ≡ true → (a ≡ true) × (b ≡ true)
both_true true b e = (refl, e)
both_true false b e = absurd (true≢false (sym e))

-- what rises has a number first, above the last, and goes on from it
record Goes (last : Option ℕ) (r : Row) (rs : List Row) : Type 0 where
  number : ℕ
  is : column r 0 ≡ whole number
  above : is_above last number ≡ true
  rest : rise_from (Some number) rs ≡ true

goes : (last : Option ℕ) (r : Row) (rs : List Row) → rise_from last (r ∷ rs) ≡ true → Goes last r rs
goes last r rs h = at (key_of (column r 0)) refl h
  where
    at : (o : Option ℕ) → key_of (column r 0) ≡ o → Rattle.rows_table.specs.Rising.goes_on last o (λ next. rise_from next rs) ≡ true → Goes last r rs
    at None e f = absurd (true≢false (sym f))
    at (Some n) e f = let parts = both_true (is_above last n) (rise_from (Some n) rs) f in record { number = n; is = keyed_at (column r 0) n e; above = parts.0; rest = parts.1 }

pub all_keyed : (last : Option ℕ) (rows : List Row) → rise_from last rows ≡ true → AreKeyed rows
all_keyed last [] h = tt
all_keyed last (r ∷ rs) h = let g = goes last r rs h in ((g.number, g.is), all_keyed (Some g.number) rs g.rest)

-- none below is among them
none_below : (last : ℕ) (rows : List Row) → rise_from (Some last) rows ≡ true → (n : ℕ) → n ≤ last → filter (has n) rows ≡ []
none_below last [] h n low = refl
none_below last (r ∷ rs) h n low =
    let g = goes (Some last) r rs h in
    let high : last < g.number = (Decides-ltb last g.number).0 g.above in
    let apart : has n r ≡ false = ap (λ v. Rattle.std.specs.Ordering.is_eq (Rattle.sqlite_value.specs.Order.value_cmp v (whole n))) g.is ∙ same_key g.number n ∙ differ g.number n (omega arith) in
    rw apart (none_below g.number rs g.rest n (omega arith))
  where
    differ : (a b : ℕ) → b < a → (a == b) ≡ false
    differ a b lt = elim (Rattle.std.proofs.lemmas.Bool.cases_Bool (a == b)) [ inl tied ↦ absurd (let e : a ≡ b = (Decides-eqb a b).0 tied in omega arith) | inr apart ↦ apart ]

pub at_most_one : (last : Option ℕ) (rows : List Row) → rise_from last rows ≡ true → (n : ℕ) → length (filter (has n) rows) ≤ 1
at_most_one last [] h n = omega arith
at_most_one last (r ∷ rs) h n =
    let g = goes last r rs h in
    at (has n r) refl (at_most_one (Some g.number) rs g.rest n) g
  where
    at : (b : Bool) → has n r ≡ b → length (filter (has n) rs) ≤ 1 → Goes last r rs → length (cond b (r ∷ filter (has n) rs) (filter (has n) rs)) ≤ 1
    at false e more g = more
    at true e more g =
        let same : (g.number == n) ≡ true = sym (same_key g.number n) ∙ ap (λ v. Rattle.std.specs.Ordering.is_eq (Rattle.sqlite_value.specs.Order.value_cmp v (whole n))) (sym g.is) ∙ e in
        let is : g.number ≡ n = (Decides-eqb g.number n).0 same in
        rw (none_below g.number rs g.rest n (omega (arith, is))) (omega arith)

none_of : {X : Type 0} (xs : List X) → length xs ≤ 0 → xs ≡ []
none_of [] h = refl
none_of (x ∷ xs) h = absurd (omega arith)

short : (p : Row → Bool) (xs : List Row) → length (filter p xs) ≤ 1 → filter p xs ≡ option_to_list (find p xs)
short p [] h = refl
short p (x ∷ xs) h = at (p x) (short p xs) h
  where
    at : (b : Bool) → (length (filter p xs) ≤ 1 → filter p xs ≡ option_to_list (find p xs)) → length (cond b (x ∷ filter p xs) (filter p xs)) ≤ 1
        → cond b (x ∷ filter p xs) (filter p xs) ≡ option_to_list (cond b (Some x) (find p xs))
    at true more h = ap (λ l. x ∷ l) (none_of (filter p xs) (omega arith))
    at false more h = more h

pub rows_of_listing : (layout : Layout) (table rows : List Row) → IsListing layout table rows → rise_from None rows ≡ true → AreRows table
rows_of_listing layout table rows listing rises =
    let second = λ (p : Row × Row). p.1 in
    let keyed : AllByRecursion (λ (p : Row × Row). IsKeyed p.1) listing.ordered = all_from_map _ second listing.ordered (subst AreKeyed listing.shown (all_keyed None rows rises)) in
    let back = all-permutation _ listing.ordered (map (with_key layout) table) (IsPermutation-sym _ _ listing.same) keyed in
    record {
      keyed = all_from_map _ (with_key layout) table back;
      once = λ n.
          let q = λ (p : Row × Row). has n p.1 in
          let here : length (filter (has n) table) ≡ length (filter q (map (with_key layout) table)) = sym (ap length (filter-map q (with_key layout) table) ∙ length-map (filter (has n) table) (with_key layout)) in
          let moved : length (filter q listing.ordered) ≡ length (filter q (map (with_key layout) table)) = length_permutation _ _ (IsPermutation-filter q _ _ listing.same) in
          let there : length (filter (has n) rows) ≡ length (filter q listing.ordered) =
          ap (λ l. length (filter (has n) l)) listing.shown ∙ ap length (filter-map (has n) second listing.ordered) ∙ length-map (filter q listing.ordered) second in
          short (has n) table (omega (arith, here ∙ sym moved ∙ sym there, at_most_one None rows rises n));
    }

-- a connection on a table of rows serves
pub opens : (layout : Layout) (old new : State) → old.now.schema ≡ layout_schema layout → old.in_transaction ≡ false → (IsTrue old.is_open → old.now ≡ old.committed) → AreRows (old.now.trees (layout_tree layout)) → IsUnchanged old new → Serves layout new
opens layout old new has alone settled are same clean = (
  same.0.mode ∙ alone,
  λ opened. record {
    schema = ap (λ (d : Database). d.schema) same.0.now_is ∙ has;
    rows = subst (λ (d : Database). AreRows (d.trees (layout_tree layout))) (sym same.0.now_is) are;
    settled = same.0.committed_is ∙ sym (settled same.0.was_open) ∙ sym same.0.now_is;
  },
)

-- ---- what is found in the listing is found in the table

same_options : {X : Type 0} (a b : Option X) → option_to_list a ≡ option_to_list b → a ≡ b
same_options None None e = refl
same_options None (Some y) e = absurd (omega (arith, ap length e))
same_options (Some x) None e = absurd (omega (arith, ap length e))
same_options (Some x) (Some y) e = ap Some (let f : x ≡ y = cc in f)

short_permutation : {X : Type 0} (o : Option X) (ys : List X) → IsPermutation (option_to_list o) ys → ys ≡ option_to_list o
short_permutation None ys h = none_of ys (omega (arith, length_permutation [] ys h))
short_permutation (Some x) ys h = one_permutation x ys h

map_option : {X Y : Type 0} (f : X → Y) (o : Option X) → map f (option_to_list o) ≡ option_to_list (option_map f o)
map_option f None = refl
map_option f (Some x) = refl

shown_listed : (layout : Layout) (r : Row) → listed_columns layout (listed_row layout r) ≡ shown_of layout r
shown_listed One r = refl
shown_listed (Two origin) r = refl

then_map : (layout : Layout) (o : Option Row) → option_map (shown_of layout) o ≡ option_map (listed_columns layout) (option_map (listed_row layout) o)
then_map layout None = refl
then_map layout (Some r) = ap Some (sym (shown_listed layout r))

flip : (a b : ℕ) → (a == b) ≡ (b == a)
flip a b = same_from_decides {P = a ≡ b} (a == b) (b == a) (Decides-eqb a b) ((λ t. sym ((Decides-eqb b a).0 t)), (λ e. (Decides-eqb b a).1 (sym e)))

-- a row that is found by its number is found by its key
by_number : (n : ℕ) (last : Option ℕ) (rows : List Row) → rise_from last rows ≡ true → find (has n) rows ≡ find (λ r. is_at n (key_of (column r 0))) rows
by_number n last [] h = refl
by_number n last (r ∷ rs) h =
    let g = goes last r rs h in
    let here : has n r ≡ (n == g.number) = ap (λ v. Rattle.std.specs.Ordering.is_eq (Rattle.sqlite_value.specs.Order.value_cmp v (whole n))) g.is ∙ same_key g.number n ∙ flip g.number n in
    let there : is_at n (key_of (column r 0)) ≡ (n == g.number) = ap (λ v. is_at n (key_of v)) g.is in
    rw (here, there) (ap (λ o. cond (n == g.number) (Some r) o) (by_number n (Some g.number) rs g.rest))

-- each row of a listing stands in its table
stands : (layout : Layout) (table rows : List Row) → AreRows table → IsListing layout table rows → AllByRecursion (IsInTable layout table) rows
stands layout table rows are listing =
    let second = λ (p : Row × Row). p.1 in
    let moved : IsPermutation (map (listed_row layout) table) rows =
    subst (λ l. IsPermutation l rows) (map-map second (with_key layout) table) (subst (IsPermutation (map second (map (with_key layout) table))) (sym listing.shown) (IsPermutation-map second _ _ listing.same)) in
    let mine : AllByRecursion (λ t. IsInTable layout table (listed_row layout t)) table = all_from (λ t. IsInTable layout table (listed_row layout t)) table (λ t there.
    let keyed = all_has IsKeyed table t are.keyed there in
    let here : has keyed.0 t ≡ true = ap (λ v. Rattle.std.specs.Ordering.is_eq (Rattle.sqlite_value.specs.Order.value_cmp v (whole keyed.0))) keyed.1 ∙ same_key keyed.0 keyed.0 ∙ is_self keyed.0 in
    (keyed.0, keyed.1, ap (option_map (shown_of layout)) (the_row keyed.0 table are.once t there here) ∙ ap Some (sym (shown_listed layout t)))) in
    all-permutation (IsInTable layout table) _ _ moved (all-map _ _ _ mine)

pub listed : (layout : Layout) (table rows : List Row) → rise_from None rows ≡ true → IsListing layout table rows → AreListed layout table rows
listed layout table rows rises listing =
    let are = rows_of_listing layout table rows listing rises in record {
      rows = are;
      each = stands layout table rows are listing;
      found = λ n.
          let second = λ (p : Row × Row). p.1 in
          let moved : IsPermutation (map (listed_row layout) table) rows =
          subst (λ l. IsPermutation l rows) (map-map second (with_key layout) table) (subst (IsPermutation (map second (map (with_key layout) table))) (sym listing.shown) (IsPermutation-map second _ _ listing.same)) in
          let mine : filter (has n) (map (listed_row layout) table) ≡ option_to_list (option_map (listed_row layout) (found_at table n)) = filter-map (has n) (listed_row layout) table ∙ ap (map (listed_row layout)) (are.once n) ∙ map_option (listed_row layout) (found_at table n) in
          let both : filter (has n) rows ≡ option_to_list (option_map (listed_row layout) (found_at table n)) =
          short_permutation _ _ (subst (λ l. IsPermutation l (filter (has n) rows)) mine (IsPermutation-filter (has n) _ _ moved)) in
          let found : find (has n) rows ≡ option_map (listed_row layout) (found_at table n) = same_options _ _ (sym (short (has n) rows (at_most_one None rows rises n)) ∙ both) in
          then_map layout (found_at table n) ∙ ap (option_map (listed_columns layout)) (sym found ∙ by_number n None rows rises);
    }
