-- A row is found by its number.
use Rattle.std.proofs.Common.{◌≡◌, inl, inr, ℕ, pos, List, [], ◌∷◌, Bool, true, false, cond, not, ◌||◌, ◌==◌, Some, None, Option, refl, sym, ap, subst, ◌∙◌, true≢false}
use Rattle.std.specs.Prelude.{find, filter, option_to_list}
use Rattle.std.specs.List.{list_any}
use Rattle.std.specs.declared.cmp.Ordering.{Ordering}
use Rattle.std.specs.declared.cmp.Ordering.TheVariants.{Less, Equal, Greater}
use Rattle.std.specs.Ordering.{is_eq, int_eq, match_ordering}
use Rattle.std.specs.Cmp.{Equal-is}
use Rattle.std.proofs.lemmas.Bool.Decides.{same_from_decides, Decides-eqb, Decides-int_eq}
use Rattle.sqlite_value.specs.Order.{Row, value_cmp}
use Rattle.sqlite_value.proofs.OrderLemmas.{value_cmp_total, value_cmp-Int}
use Rattle.sqlite_trees.specs.Tree.{rowid, has_rowid, put_row, without_rowid}
use Rattle.sqlite_rules.specs.Lists.{Has}
use Rattle.sqlite_rules.proofs.ListLemmas.{has_kept}
use Rattle.sqlite_rules.specs.Edit.{is_taken}
use Rattle.rows_table.specs.Rows.{whole, stored, IsKeyed, AreOnce}

abbrev pub has : ℕ → Row → Bool
has n r = has_rowid (pos n) r

pub number_of : {m n : ℕ} → pos m ≡ pos n → m ≡ n
number_of e = cc

pub whole_number : {m n : ℕ} → whole m ≡ whole n → m ≡ n
whole_number e = cc

-- two numbers as keys
pub same_key : (n k : ℕ) → is_eq (value_cmp (whole n) (whole k)) ≡ (n == k)
same_key n k =
    ap is_eq (value_cmp-Int (pos n) (pos k))
    ∙ same_from_decides {P = n ≡ k} (int_eq (pos n) (pos k)) (n == k) ((λ t. number_of ((Decides-int_eq (pos n) (pos k)).0 t)), (λ e. (Decides-int_eq (pos n) (pos k)).1 (ap pos e))) (Decides-eqb n k)

pub equal_of : (o : Ordering) → is_eq o ≡ true → o ≡ Equal
equal_of o = (Equal-is o).0

-- a row that has one number has no other
pub has_other : (r : Row) (n k : ℕ) → has n r ≡ true → has k r ≡ (n == k)
has_other r n k h = ap is_eq (value_cmp_total.congr (rowid r) (whole n) (whole k) (equal_of _ h)) ∙ same_key n k

pub has_stored : (n k : ℕ) (columns : Row) → has k (stored n columns) ≡ (n == k)
has_stored n k columns = same_key n k

pub is_self : (n : ℕ) → (n == n) ≡ true
is_self n = (Decides-eqb n n).1 refl

-- a keyed row that has the number has it as its rowid
pub key_is : (r : Row) (n : ℕ) → IsKeyed r → has n r ≡ true → rowid r ≡ whole n
key_is r n keyed h = keyed.1 ∙ ap whole ((Decides-eqb keyed.0 n).0 (sym (same_key keyed.0 n) ∙ ap (λ v. is_eq (value_cmp v (whole n))) (sym keyed.1) ∙ h))

module _ (n : ℕ) (columns : Row) where
  -- the other rows are found as before
  pub find_other : (k : ℕ) → (n == k) ≡ false → (rows : List Row) → find (has k) (put_row (stored n columns) rows) ≡ find (has k) rows
  find_other k other [] = ap (λ b. cond b (Some (stored n columns)) None) (has_stored n k columns ∙ other)
  find_other k other (r ∷ rs) = go (value_cmp (rowid r) (whole n)) refl (find_other k other rs)
    where
      go : (o : Ordering) → value_cmp (rowid r) (whole n) ≡ o → find (has k) (put_row (stored n columns) rs) ≡ find (has k) rs
          → find (has k) (match_ordering o (r ∷ put_row (stored n columns) rs) (stored n columns ∷ rs) (stored n columns ∷ r ∷ rs)) ≡ find (has k) (r ∷ rs)
      go Less e more = ap (λ x. cond (has k r) (Some r) x) more
      go Equal e more = rw (has_stored n k columns ∙ other, has_other r n k (ap is_eq e) ∙ other) refl
      go Greater e more = rw (has_stored n k columns ∙ other) refl

  -- and this one where none had its number
  pub find_new : (rows : List Row) → is_taken rows (stored n columns) ≡ false → find (has n) (put_row (stored n columns) rows) ≡ Some (stored n columns)
  find_new [] free = ap (λ b. cond b (Some (stored n columns)) None) (has_stored n n columns ∙ is_self n)
  find_new (r ∷ rs) free = go (value_cmp (rowid r) (whole n)) refl (find_new rs)
    where
      split : (a b : Bool) → (a || b) ≡ false → (a ≡ false) × (b ≡ false)
      split true b e = absurd (true≢false e)
      split false b e = (refl, e)

      parts : (has n r ≡ false) × (is_taken rs (stored n columns) ≡ false)
      parts = split _ _ free

      here : has n (stored n columns) ≡ true
      here = has_stored n n columns ∙ is_self n

      go : (o : Ordering) → value_cmp (rowid r) (whole n) ≡ o → (is_taken rs (stored n columns) ≡ false → find (has n) (put_row (stored n columns) rs) ≡ Some (stored n columns))
          → find (has n) (match_ordering o (r ∷ put_row (stored n columns) rs) (stored n columns ∷ rs) (stored n columns ∷ r ∷ rs)) ≡ Some (stored n columns)
      go Less e more = rw parts.0 (more parts.1)
      go Equal e more = rw here refl
      go Greater e more = rw here refl

-- what was found is there
pub found_any : {X : Type 0} (p : X → Bool) (xs : List X) (x : X) → find p xs ≡ Some x → list_any p xs ≡ true
found_any p [] x e = absurd cc
found_any {X} p (y ∷ ys) x e = go (p y) e (found_any p ys x)
  where
    go : (b : Bool) → cond b (Some y) (find p ys) ≡ Some x → (find p ys ≡ Some x → list_any p ys ≡ true) → (b || list_any p ys) ≡ true
    go true f more = refl
    go false f more = more f

pub find_kept : (n k : ℕ) → (n == k) ≡ false → (rows : List Row) → find (has k) (without_rowid (pos n) rows) ≡ find (has k) rows
find_kept n k other [] = refl
find_kept n k other (r ∷ rs) = go (has n r) refl (find_kept n k other rs)
  where
    go : (b : Bool) → has n r ≡ b → find (has k) (without_rowid (pos n) rs) ≡ find (has k) rs
        → find (has k) (cond (not b) (r ∷ without_rowid (pos n) rs) (without_rowid (pos n) rs)) ≡ find (has k) (r ∷ rs)
    go true e more = more ∙ sym (ap (λ b. cond b (Some r) (find (has k) rs)) (has_other r n k e ∙ other))
    go false e more = ap (λ x. cond (has k r) (Some r) x) more

-- the row that has a number is the one that is found
pub the_row : (n : ℕ) (rows : List Row) → AreOnce rows → (r : Row) → Has rows r → has n r ≡ true → find (has n) rows ≡ Some r
the_row n rows once r there h = from (find (has n) rows) (once n) (has_kept (has n) rows r there h)
  where
    from : (o : Option Row) → filter (has n) rows ≡ option_to_list o → Has (filter (has n) rows) r → o ≡ Some r
    from None e in_ = absurd (subst (λ l. Has l r) e in_)
    from (Some x) e in_ = elim (subst (λ l. Has l r) e in_) [ inl same ↦ ap Some (sym same) | inr none ↦ absurd none ]

-- ---- how many have it

pub same_list : (n : ℕ) (columns : Row) (k : ℕ) → (n == k) ≡ false → (rows : List Row) → filter (has k) (put_row (stored n columns) rows) ≡ filter (has k) rows
same_list n columns k other [] = ap (λ b. cond b (stored n columns ∷ []) []) (has_stored n k columns ∙ other)
same_list n columns k other (r ∷ rs) = go (value_cmp (rowid r) (whole n)) refl (same_list n columns k other rs)
  where
    go : (o : Ordering) → value_cmp (rowid r) (whole n) ≡ o → filter (has k) (put_row (stored n columns) rs) ≡ filter (has k) rs
        → filter (has k) (match_ordering o (r ∷ put_row (stored n columns) rs) (stored n columns ∷ rs) (stored n columns ∷ r ∷ rs)) ≡ filter (has k) (r ∷ rs)
    go Less e more = ap (λ l. cond (has k r) (r ∷ l) l) more
    go Equal e more = rw (has_stored n k columns ∙ other, has_other r n k (ap is_eq e) ∙ other) refl
    go Greater e more = rw (has_stored n k columns ∙ other) refl

either_false : (a b : Bool) → (a || b) ≡ false → (a ≡ false) × (b ≡ false)
either_false true b e = absurd (true≢false e)
either_false false b e = (refl, e)

none_has : (n : ℕ) (columns : Row) (rows : List Row) → is_taken rows (stored n columns) ≡ false → filter (has n) rows ≡ []
none_has n columns [] free = refl
none_has n columns (r ∷ rs) free = let parts = either_false (has n r) (is_taken rs (stored n columns)) free in rw parts.0 (none_has n columns rs parts.1)

new_list : (n : ℕ) (columns : Row) (rows : List Row) → is_taken rows (stored n columns) ≡ false → filter (has n) (put_row (stored n columns) rows) ≡ stored n columns ∷ []
new_list n columns [] free = ap (λ b. cond b (stored n columns ∷ []) []) (has_stored n n columns ∙ is_self n)
new_list n columns (r ∷ rs) free = go (value_cmp (rowid r) (whole n)) refl (new_list n columns rs)
  where
    parts : (has n r ≡ false) × (is_taken rs (stored n columns) ≡ false)
    parts = either_false (has n r) (is_taken rs (stored n columns)) free

    here : has n (stored n columns) ≡ true
    here = has_stored n n columns ∙ is_self n

    go : (o : Ordering) → value_cmp (rowid r) (whole n) ≡ o → (is_taken rs (stored n columns) ≡ false → filter (has n) (put_row (stored n columns) rs) ≡ stored n columns ∷ [])
        → filter (has n) (match_ordering o (r ∷ put_row (stored n columns) rs) (stored n columns ∷ rs) (stored n columns ∷ r ∷ rs)) ≡ stored n columns ∷ []
    go Less e more = rw parts.0 (more parts.1)
    go Equal e more = rw here (ap (λ l. stored n columns ∷ l) (none_has n columns rs parts.1))
    go Greater e more = rw (here, parts.0) (ap (λ l. stored n columns ∷ l) (none_has n columns rs parts.1))

-- each number comes once, also after a row is put in
pub once_put : (n : ℕ) (columns : Row) (rows : List Row) → is_taken rows (stored n columns) ≡ false → AreOnce rows → AreOnce (put_row (stored n columns) rows)
once_put n columns rows free once k = go (n == k) refl
  where
    go : (b : Bool) → (n == k) ≡ b → filter (has k) (put_row (stored n columns) rows) ≡ option_to_list (find (has k) (put_row (stored n columns) rows))
    go true e = subst (λ m. filter (has m) (put_row (stored n columns) rows) ≡ option_to_list (find (has m) (put_row (stored n columns) rows))) ((Decides-eqb n k).0 e)
        (new_list n columns rows free ∙ sym (ap option_to_list (find_new n columns rows free)))
    go false e = same_list n columns k e rows ∙ once k ∙ sym (ap option_to_list (find_other n columns k e rows))

gone_list : (n k : ℕ) → (n == k) ≡ false → (rows : List Row) → filter (has k) (without_rowid (pos n) rows) ≡ filter (has k) rows
gone_list n k other [] = refl
gone_list n k other (r ∷ rs) = go (has n r) refl (gone_list n k other rs)
  where
    go : (b : Bool) → has n r ≡ b → filter (has k) (without_rowid (pos n) rs) ≡ filter (has k) rs
        → filter (has k) (cond (not b) (r ∷ without_rowid (pos n) rs) (without_rowid (pos n) rs)) ≡ filter (has k) (r ∷ rs)
    go true e more = more ∙ sym (ap (λ b. cond b (r ∷ filter (has k) rs) (filter (has k) rs)) (has_other r n k e ∙ other))
    go false e more = ap (λ l. cond (has k r) (r ∷ l) l) more

none_left : (n : ℕ) (rows : List Row) → (filter (has n) (without_rowid (pos n) rows) ≡ []) × (find (has n) (without_rowid (pos n) rows) ≡ None)
none_left n [] = (refl, refl)
none_left n (r ∷ rs) = go (has n r) refl (none_left n rs)
  where
    go : (b : Bool) → has n r ≡ b → (filter (has n) (without_rowid (pos n) rs) ≡ []) × (find (has n) (without_rowid (pos n) rs) ≡ None)
        → (filter (has n) (cond (not b) (r ∷ without_rowid (pos n) rs) (without_rowid (pos n) rs)) ≡ []) × (find (has n) (cond (not b) (r ∷ without_rowid (pos n) rs) (without_rowid (pos n) rs)) ≡ None)
    go true e more = more
    go false e more = rw e more

pub once_without : (n : ℕ) (rows : List Row) → AreOnce rows → AreOnce (without_rowid (pos n) rows)
once_without n rows once k = go (n == k) refl
  where
    go : (b : Bool) → (n == k) ≡ b → filter (has k) (without_rowid (pos n) rows) ≡ option_to_list (find (has k) (without_rowid (pos n) rows))
    go true e = subst (λ m. filter (has m) (without_rowid (pos n) rows) ≡ option_to_list (find (has m) (without_rowid (pos n) rows))) ((Decides-eqb n k).0 e)
        ((none_left n rows).0 ∙ sym (ap option_to_list (none_left n rows).1))
    go false e = gone_list n k e rows ∙ once k ∙ sym (ap option_to_list (find_kept n k e rows))
