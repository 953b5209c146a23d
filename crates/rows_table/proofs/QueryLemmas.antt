-- What a query by the number shows.
use Rattle.std.proofs.Common.{◌≡◌, ℕ, List, [], ◌∷◌, ◌++◌, map, length, Bool, true, false, cond, Some, refl, sym, ap, subst, ◌∙◌}
use Rattle.std.specs.Prelude.{filter, flat_map, ◌&&◌, ◌-◌, ◌^◌, nat_le, slice_get, unwrap_or, None}
use Rattle.std.proofs.lemmas.List.{length-map}
use Rattle.std.specs.List.{AllByRecursion, list_all}
use Rattle.std.specs.Ordering.{is_eq}
use Rattle.std.proofs.lemmas.List.Sorted.{length_permutation}
use Rattle.sqlite_value.specs.Order.{Row, column, value_cmp}
use Rattle.sqlite_trees.specs.Tree.{Trees}
use Rattle.sqlite_trees.proofs.ListLemmas.{all-permutation, all-map}
use Rattle.sqlite_rules.specs.Lists.{Has}
use Rattle.sqlite_rules.proofs.ListLemmas.{all_from, has_filtered}
use Rattle.sqlite.specs.Term.{Term, eval_all, holds}
use Rattle.sqlite.specs.Ops.{binary, is_true, from_truth}
use Rattle.sqlite.specs.Query.{IsAnswer, output, Output}
use Rattle.sqlite.specs.Program.{overlay}
use Rattle.rows_table.specs.Rows.{whole, IsKeyed, AreKeyed}
use Rattle.rows_table.proofs.KeyLemmas.{has}
use Rattle.rows_table.proofs.TextLemmas.{by_key, has_key}

truth_of : (b : Bool) → is_true (from_truth (Some b)) ≡ b
truth_of true = refl
truth_of false = refl

-- the test of WHERE, at a row that is keyed
pub kept_if : (params r : Row) (place n : ℕ) → IsKeyed r → column params place ≡ whole n → list_all (holds (params ∷ r ∷ [])) (has_key place ∷ []) ≡ has n r
unfolding binary
kept_if params r place n keyed at = rw (at, keyed.1) (ap (λ b. b && true) (truth_of (is_eq (value_cmp (whole keyed.0) (whole n)))) ∙ and_true _)
  where
    and_true : (b : Bool) → (b && true) ≡ b
    and_true true = refl
    and_true false = refl

-- the rows that pass, each beside the parameters
pub passing : (params : Row) (place n : ℕ) (rows : List Row) → AreKeyed rows → column params place ≡ whole n
    → flat_map (λ r. cond (list_all (holds (params ∷ r ∷ [])) (has_key place ∷ [])) ((params ∷ r ∷ []) ∷ []) []) rows ≡ map (λ r. params ∷ r ∷ []) (filter (has n) rows)
passing params place n [] keyed at = refl
passing params place n (r ∷ rs) keyed at = rw (kept_if params r place n keyed.0 at) (go (has n r) (passing params place n rs keyed.1 at))
  where
    go : (b : Bool) → flat_map (λ r. cond (list_all (holds (params ∷ r ∷ [])) (has_key place ∷ [])) ((params ∷ r ∷ []) ∷ []) []) rs ≡ map (λ r. params ∷ r ∷ []) (filter (has n) rs)
        → cond b ((params ∷ r ∷ []) ∷ []) [] ++ flat_map (λ r. cond (list_all (holds (params ∷ r ∷ [])) (has_key place ∷ [])) ((params ∷ r ∷ []) ∷ []) []) rs ≡ map (λ r. params ∷ r ∷ []) (cond b (r ∷ filter (has n) rs) (filter (has n) rs))
    go true more = ap (λ l. (params ∷ r ∷ []) ∷ l) more
    go false more = more

-- a query that computes no table reads those of the database
pub overlay_is : (db : Trees) (tree : ℕ) → overlay db [] tree ≡ db tree
overlay_is db tree = go (nat_le (2 ^ 31) tree)
  where
    go : (b : Bool) → unwrap_or (cond b (slice_get [] (tree - 2 ^ 31)) None) (db tree) ≡ db tree
    go true = refl
    go false = refl

-- each row that is shown is of a row that has the number
abbrev pub IsShownOf : ℕ → List Row → List Term → Row → Row → Type 0
IsShownOf n rows shown params out = (r : Row) × Has rows r × (has n r ≡ true) × (out ≡ eval_all shown (params ∷ r ∷ []))

module _ (tree : ℕ) (db : Trees) (params : Row) (place n : ℕ) (shown : List Term) (rows : List Row) (keyed : AreKeyed (db tree)) (at : column params place ≡ whole n)
    (a : IsAnswer (by_key tree place shown) (overlay db []) params rows) where
  one : Row → Output
  one r = ([], eval_all shown (params ∷ r ∷ []))

  kept_is : a.kept ≡ map (output (by_key tree place shown)) (map (λ r. params ∷ r ∷ []) (filter (has n) (db tree)))
  kept_is = a.distinct ∙ ap (map (output (by_key tree place shown))) (a.grouped ∙ subst (λ all. flat_map (λ r. cond (list_all (holds (params ∷ r ∷ [])) (has_key place ∷ [])) ((params ∷ r ∷ []) ∷ []) []) all ≡ map (λ r. params ∷ r ∷ []) (filter (has n) (db tree)))
      (sym (overlay_is db tree)) (passing params place n (db tree) keyed at))

  shown_is : rows ≡ map (λ (p : Output). p.1) a.ordered
  shown_is = a.shown

  all_shown : AllByRecursion (λ (p : Output). IsShownOf n (db tree) shown params p.1) a.ordered
  all_shown =
      let mine : AllByRecursion (λ r. IsShownOf n (db tree) shown params (eval_all shown (params ∷ r ∷ []))) (filter (has n) (db tree)) =
      all_from _ (filter (has n) (db tree)) (λ r there. let both = has_filtered (has n) (db tree) r there in (r, both.0, both.1, refl)) in
      all-permutation _ a.kept a.ordered a.same (subst (AllByRecursion (λ (p : Output). IsShownOf n (db tree) shown params p.1)) (sym kept_is) (all-map _ _ _ (all-map _ _ _ mine)))

  pub shows : AllByRecursion (IsShownOf n (db tree) shown params) rows
  shows = subst (AllByRecursion (IsShownOf n (db tree) shown params)) (sym shown_is) (all-map _ _ _ all_shown)

  pub counts : length rows ≡ length (filter (has n) (db tree))
  counts =
      ap length shown_is ∙ length-map a.ordered _ ∙ length_permutation a.kept a.ordered a.same ∙ ap length kept_is ∙ length-map (map (λ r. params ∷ r ∷ []) (filter (has n) (db tree))) _ ∙ length-map (filter (has n) (db tree)) _
