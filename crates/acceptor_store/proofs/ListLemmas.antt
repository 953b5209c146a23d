-- What a listing of the table of a layout says of the rows.
use Rattle.std.proofs.Common.{◌≡◌, ◌<◌, ◌≤◌, ◌==◌, ℕ, ℤ, pos, negsuc, Bool, true, false, cond, ◌&&◌, List, [], ◌∷◌, Option, Some, None, option_map, unwrap_or, is_some, nat_le, true≢false, refl, sym, ap, subst, ◌∙◌, arith, inl, inr}
use Rattle.std.specs.Prelude.{find}
use Rattle.std.specs.List.{AllByRecursion, filter_map}
use Rattle.std.proofs.lemmas.Bool.Decides.{Decides-ltb, Decides-eqb, leb_tells}
use Rattle.std.proofs.lemmas.Bool.{le-leb}
use Rattle.sqlite_value.specs.declared.value.Value.{Value}
use Rattle.sqlite_value.specs.declared.value.Value.TheVariants.{Null, Int, Real, Text, Blob}
use Rattle.sqlite_value.specs.Order.{Row as Columns, column}
use Rattle.rows_table.specs.declared.layout.Layout.{Layout}
use Rattle.rows_table.specs.declared.layout.Layout.TheVariants.{One, Two}
use Rattle.rows_table.specs.Rows.{whole, columns_at}
use Rattle.rows_table.specs.Rising.{key_of, is_above, is_at, goes_on, rise_from, listed_columns, listed_at, IsInTable, AreListed}
use Rattle.protocol.specs.Rows.{Row, blank}
use Rattle.rows_saved.specs.Saved.{HasPromise, saved_by, RiseFrom, IsListOf}
use Rattle.acceptor_store.specs.Columns.{row_in, is_number, damage_of, first_of, damage_in, item_in, row_or_blank, whole_in, IsSound, AreSound}
use Rattle.acceptor_store.proofs.ColumnLemmas.{ranged}

split : (a b : Bool) → (a && b) ≡ true → (a ≡ true) × (b ≡ true)
split true b e = (refl, e)
split false b e = absurd (true≢false (sym e))

at_most : (a b : ℕ) → nat_le a b ≡ true → a ≤ b
at_most a b e = elim (leb_tells a b) [ inl holds ↦ holds.1 | inr fails ↦ absurd (true≢false (sym e ∙ fails.0)) ]

first_none : (a b : Option ℤ) → first_of a b ≡ None → (a ≡ None) × (b ≡ None)
first_none None b e = (refl, e)
first_none (Some z) b e = absurd cc

-- what rises has a number first, above the last, and goes on from it
record Goes (last : Option ℕ) (r : Columns) (rs : List Columns) : Type 0 where
  number : ℕ
  is : column r 0 ≡ whole number
  above : is_above last number ≡ true
  rest : rise_from (Some number) rs ≡ true

keyed_at : (v : Value) (n : ℕ) → key_of v ≡ Some n → v ≡ whole n
keyed_at Null n e = absurd cc
keyed_at (Int (pos m)) n e = ap whole (let f : m ≡ n = cc in f)
keyed_at (Int (negsuc m)) n e = absurd cc
keyed_at (Real x) n e = absurd cc
keyed_at (Text t) n e = absurd cc
keyed_at (Blob b) n e = absurd cc

goes : (last : Option ℕ) (r : Columns) (rs : List Columns) → rise_from last (r ∷ rs) ≡ true → Goes last r rs
goes last r rs h = at (key_of (column r 0)) refl h
  where
    at : (o : Option ℕ) → key_of (column r 0) ≡ o → goes_on last o (λ next. rise_from next rs) ≡ true → Goes last r rs
    at None e f = absurd (true≢false (sym f))
    at (Some n) e f = let parts = split (is_above last n) (rise_from (Some n) rs) f in record { number = n; is = keyed_at (column r 0) n e; above = parts.0; rest = parts.1 }

same_number : {m n : ℕ} → whole m ≡ whole n → m ≡ n
same_number e = cc

above_low : (last : Option ℕ) (n : ℕ) → 1 ≤ n → is_above last n ≡ true → unwrap_or last 0 < n
above_low None n low h = omega arith
above_low (Some k) n low h = (Decides-ltb k n).0 h

-- a line of a listing is the same row as the columns beside its number
shifted : (layout : Layout) (r : Columns) → row_in layout 0 (listed_columns layout r) ≡ row_in layout 1 r
shifted One r = refl
shifted (Two origin) r = refl

module _ (layout : Layout) where
  -- a row of a listing that is no damage: its number, in range, and its row
  record IsItem (r : Columns) : Type 0 where
    number : ℕ
    row : Row
    key : column r 0 ≡ whole number
    low : 1 ≤ number
    high : number ≤ 999999
    is : row_in layout 1 r ≡ Some row

  with_row_in : (k : ℕ) (r : Columns) (o : Option Row) → row_in layout 1 r ≡ o → column r 0 ≡ whole k → damage_of (Int (pos k)) o ≡ None → IsItem r
  with_row_in k r o is key none = at (is_number (pos k) && is_some o) refl none
    where
      from : (o : Option Row) → row_in layout 1 r ≡ o → is_some o ≡ true → 1 ≤ k → k ≤ 999999 → IsItem r
      from None e some low high = absurd (true≢false (sym some))
      from (Some row) e some low high = record { number = k; row = row; key = key; low = low; high = high; is = e }

      at : (b : Bool) → (is_number (pos k) && is_some o) ≡ b → cond b None (Some (pos k)) ≡ None → IsItem r
      at false e n = absurd cc
      at true e n =
          let both = split (is_number (pos k)) (is_some o) e in
          let range = split (nat_le 1 k) (nat_le k 999999) both.0 in
          from o is both.1 (at_most 1 k range.0) (at_most k 999999 range.1)

  item_of : (last : Option ℕ) (r : Columns) (rs : List Columns) → rise_from last (r ∷ rs) ≡ true → damage_in layout (r ∷ rs) ≡ None → IsItem r
  item_of last r rs rises none =
      let g = goes last r rs rises in
      let here : damage_of (Int (pos g.number)) (row_in layout 1 r) ≡ None = ap (λ v. damage_of v (row_in layout 1 r)) (sym g.is) ∙ (first_none _ _ none).0 in
      with_row_in g.number r (row_in layout 1 r) refl g.is here

  module _ (r : Columns) (it : IsItem r) where
    item_is : item_in layout r ≡ Some (it.number, it.row)
    item_is =
        let small_one : whole_in (column r 0) ≡ Some it.number = ap whole_in it.key ∙ ranged it.number (omega (arith, it.high)) in
        rw (small_one, it.is, le-leb 1 it.number it.low, le-leb it.number 999999 it.high) refl

    at_key : (n : ℕ) → is_at n (key_of (column r 0)) ≡ (n == it.number)
    at_key n = ap (λ v. is_at n (key_of v)) it.key

    read : row_or_blank layout (Some (listed_columns layout r)) ≡ it.row
    read = ap (λ o. unwrap_or o blank) (shifted layout r ∙ it.is)

  -- the rows of a sound listing are the map
  same_map : (last : Option ℕ) (rows : List Columns) → rise_from last rows ≡ true → damage_in layout rows ≡ None → (n : ℕ) → saved_by (filter_map (item_in layout) rows) n ≡ row_or_blank layout (listed_at layout rows n)
  same_map last [] rises none n = refl
  same_map last (r ∷ rs) rises none n =
      let it = item_of last r rs rises none in
      let more = same_map (Some (goes last r rs rises).number) rs (goes last r rs rises).rest (first_none _ _ none).1 n in
      rw (item_is r it, at_key r it n) (at (n == it.number) more it)
    where
      at : (b : Bool) → saved_by (filter_map (item_in layout) rs) n ≡ row_or_blank layout (listed_at layout rs n) → (it : IsItem r)
          → cond b it.row (saved_by (filter_map (item_in layout) rs) n) ≡ row_or_blank layout (option_map (listed_columns layout) (cond b (Some r) (find (λ x. is_at n (key_of (column x 0))) rs)))
      at true more it = sym (read r it)
      at false more it = more

  rise_all : (last : Option ℕ) (rows : List Columns) → rise_from last rows ≡ true → damage_in layout rows ≡ None → RiseFrom (unwrap_or last 0) (filter_map (item_in layout) rows)
  rise_all last [] rises none = tt
  rise_all last (r ∷ rs) rises none =
      let it = item_of last r rs rises none in
      let g = goes last r rs rises in
      let same : g.number ≡ it.number = same_number (sym g.is ∙ it.key) in
      let more = rise_all (Some g.number) rs g.rest (first_none _ _ none).1 in
      rw (item_is r it) (above_low last it.number it.low (subst (λ n. is_above last n ≡ true) same g.above), subst (λ n. RiseFrom n (filter_map (item_in layout) rs)) same more)

  pub lists : (table rows : List Columns) (saved : ℕ → Row) → ((n : ℕ) → saved n ≡ row_or_blank layout (columns_at layout table n)) → AreListed layout table rows → rise_from None rows ≡ true → damage_in layout rows ≡ None
      → AllByRecursion (λ (p : ℕ × Row). HasPromise p.1) (filter_map (item_in layout) rows) → IsListOf saved (filter_map (item_in layout) rows)
  lists table rows saved is listed rises none promised = record {
    rise = rise_all None rows rises none;
    promised = promised;
    same = λ n. same_map None rows rises none n ∙ ap (row_or_blank layout) (sym (listed.found n)) ∙ sym (is n);
  }

  -- what is found in a sound listing is sound
  sound_at : (last : Option ℕ) (rows : List Columns) → rise_from last rows ≡ true → damage_in layout rows ≡ None → (n : ℕ) (c : Columns) → listed_at layout rows n ≡ Some c → IsSound layout n c
  sound_at last [] rises none n c e = absurd cc
  sound_at last (r ∷ rs) rises none n c e =
      let it = item_of last r rs rises none in
      at (n == it.number) it refl (ap (λ b. option_map (listed_columns layout) (cond b (Some r) (find (λ x. is_at n (key_of (column x 0))) rs))) (sym (at_key r it n)) ∙ e)
      (sound_at (Some (goes last r rs rises).number) rs (goes last r rs rises).rest (first_none _ _ none).1 n c)
    where
      at : (b : Bool) (it : IsItem r) → (n == it.number) ≡ b → option_map (listed_columns layout) (cond b (Some r) (find (λ x. is_at n (key_of (column x 0))) rs)) ≡ Some c → (listed_at layout rs n ≡ Some c → IsSound layout n c) → IsSound layout n c
      at true it same f more =
          let key : n ≡ it.number = (Decides-eqb n it.number).0 same in
          let these : listed_columns layout r ≡ c = cc in
          let row : row_in layout 0 c ≡ Some it.row = ap (row_in layout 0) (sym these) ∙ shifted layout r ∙ it.is in
          record { low = subst (λ m. 1 ≤ m) (sym key) it.low; high = subst (λ m. m ≤ 999999) (sym key) it.high; row = rw row refl }
      at false it same f more = more f

  pub sound_table : (table rows : List Columns) → AreListed layout table rows → rise_from None rows ≡ true → damage_in layout rows ≡ None → AreSound layout table
  sound_table table rows listed rises none n c e = sound_at None rows rises none n c (sym (listed.found n) ∙ e)

  -- and the listing of a sound table has no damage
  pub no_damage : (table rows : List Columns) → AllByRecursion (IsInTable layout table) rows → AreSound layout table → damage_in layout rows ≡ None
  no_damage table [] all sound = refl
  no_damage table (r ∷ rs) all sound =
      let here = sound all.0.0 (listed_columns layout r) all.0.2 in
      let some : is_some (row_in layout 1 r) ≡ true = ap is_some (sym (shifted layout r)) ∙ here.row in
      let none : damage_of (column r 0) (row_in layout 1 r) ≡ None =
      ap (λ v. damage_of v (row_in layout 1 r)) all.0.1 ∙ rw (le-leb 1 all.0.0 here.low, le-leb all.0.0 999999 here.high, some) refl in
      rw none (no_damage table rs all.1 sound)
