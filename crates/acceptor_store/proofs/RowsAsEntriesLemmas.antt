-- The map is the same in a table that its rows were put into as entries.
use Rattle.std.proofs.Common.{◌≡◌, ◌<◌, ◌≤◌, ◌==◌, ℕ, pos, List, [], ◌∷◌, Bool, true, false, cond, ◌||◌, Some, None, option_map, nat_le, ◌⊎◌, refl, sym, ap, subst, ◌∙◌, arith, inl, inr}
use Rattle.std.specs.Prelude.{find}
use Rattle.std.specs.List.{AllByRecursion, list_any}
use Rattle.std.proofs.lemmas.Bool.{cases_Bool}
use Rattle.std.proofs.lemmas.Bool.Decides.{Decides-eqb, leb_tells, eqb_tells}
use Rattle.std.specs.declared.cmp.Ordering.{Ordering}
use Rattle.std.specs.declared.cmp.Ordering.TheVariants.{Less, Equal, Greater}
use Rattle.std.specs.Ordering.{match_ordering}
use Rattle.sqlite_value.specs.Order.{Row as Columns, value_cmp}
use Rattle.sqlite_trees.specs.Tree.{rowid, has_rowid, put_row}
use Rattle.rows_table.specs.declared.layout.LayoutOrigin.TheVariants.{Upgraded}
use Rattle.rows_table.specs.declared.layout.Layout.{Layout}
use Rattle.rows_table.specs.declared.layout.Layout.TheVariants.{Two}
use Rattle.rows_table.specs.Rows.{whole, stored, found_at, shown_of, AreKeyed, AreRows, Saves}
use Rattle.rows_table.specs.Entries.{entry_row, with_entries}
use Rattle.rows_table.specs.declared.entry_table.EntryColumns.{EntryColumns}
use Rattle.rows_table.proofs.KeyLemmas.{find_new, find_other, once_put}
use Rattle.protocol.specs.Rows.{Row, blank}
use Rattle.rows_saved.specs.Saved.{HasPromise, saved_by, RiseFrom}
use Rattle.acceptor_store.specs.Columns.{columns_for, row_or_blank, saved_at, AreSound}
use Rattle.acceptor_store.specs.RowsAsEntries.{IsEntryOf, AreEntriesOf, MovesMap}
use Rattle.acceptor_store.proofs.SaveLemmas.{puts_row, puts_sound}

keyed_put : (n : ℕ) (columns : Columns) (rows : List Columns) → AreKeyed rows → AreKeyed (put_row (stored n columns) rows)
keyed_put n columns [] keyed = ((n, refl), tt)
keyed_put n columns (r ∷ rs) keyed = go (value_cmp (rowid r) (whole n)) (keyed_put n columns rs keyed.1)
  where
    go : (o : Ordering) → AreKeyed (put_row (stored n columns) rs) → AreKeyed (match_ordering o (r ∷ put_row (stored n columns) rs) (stored n columns ∷ rs) (stored n columns ∷ r ∷ rs))
    go Less more = (keyed.0, more)
    go Equal more = ((n, refl), keyed.1)
    go Greater more = ((n, refl), keyed)

-- what is not found is not there
none_any : {X : Type 0} (p : X → Bool) (xs : List X) → find p xs ≡ None → list_any p xs ≡ false
none_any p [] e = refl
none_any {X} p (y ∷ ys) e = go (p y) e (none_any p ys)
  where
    go : (b : Bool) → cond b (Some y) (find p ys) ≡ None → (find p ys ≡ None → list_any p ys ≡ false) → (b || list_any p ys) ≡ false
    go true f more = absurd cc
    go false f more = more f

-- a row whose number no other has is put beside the others
puts : (n : ℕ) (columns : Columns) (rows : List Columns) → AreRows rows → found_at rows n ≡ None → Saves n columns rows (put_row (stored n columns) rows)
puts n columns rows are none = record {
  rows = record { keyed = keyed_put n columns rows are.keyed; once = once_put n columns rows free are.once };
  saved = at;
}
  where
    free : list_any (has_rowid (pos n)) rows ≡ false
    free = none_any (has_rowid (pos n)) rows none

    at : (k : ℕ) → found_at (put_row (stored n columns) rows) k ≡ cond (n == k) (Some (stored n columns)) (found_at rows k)
    at k = elim (cases_Bool (n == k)) [
      | inl same ↦ subst (λ m. found_at (put_row (stored n columns) rows) m ≡ Some (stored n columns)) ((Decides-eqb n k).0 same) (find_new n columns rows free) ∙ sym (ap (λ b. cond b (Some (stored n columns)) (found_at rows k)) same)
      | inr other ↦ find_other n columns k other rows ∙ sym (ap (λ b. cond b (Some (stored n columns)) (found_at rows k)) other)
    ]

abbrev upgraded : Layout
upgraded = Two Upgraded

-- a sound table, with no number above one
record IsBelow (low : ℕ) (table : List Columns) : Type 0 where
  rows : AreRows table
  sound : AreSound upgraded table
  free : (k : ℕ) → low < k → found_at table k ≡ None

-- none of these numbers is so low
none_below : (low : ℕ) (items : List (ℕ × Row)) → RiseFrom low items → (k : ℕ) → k ≤ low → saved_by items k ≡ blank
none_below low [] rise k h = refl
none_below low (p ∷ ps) rise k h = elim (cases_Bool (k == p.0)) [
  | inl same ↦ absurd (let e : k ≡ p.0 = (Decides-eqb k p.0).0 same in let up = rise.0 in omega arith)
  | inr other ↦ rw other (none_below p.0 ps rise.1 k (let up = rise.0 in omega arith))
]

-- the table that has got these rows: sound, as it was up to the number, and above it as the rows are
record HasGot (low : ℕ) (items : List (ℕ × Row)) (table new : List Columns) : Type 0 where
  rows : AreRows new
  sound : AreSound upgraded new
  kept : (k : ℕ) → k ≤ low → saved_at upgraded new k ≡ saved_at upgraded table k
  same : (k : ℕ) → low < k → saved_at upgraded new k ≡ saved_by items k

-- one row more
module _ (low : ℕ) (p : ℕ × Row) (e : EntryColumns) (is : IsEntryOf p e) (has : HasPromise p.1) (up : low < p.0) (table : List Columns) (below : IsBelow low table) where
  saves : Saves p.0 (columns_for upgraded p.1) table (put_row (entry_row e) table)
  saves = subst (λ r. Saves p.0 (columns_for upgraded p.1) table (put_row r table)) (sym is.columns) (puts p.0 (columns_for upgraded p.1) table below.rows (below.free p.0 up))

  still_below : IsBelow p.0 (put_row (entry_row e) table)
  still_below = record {
    rows = saves.rows;
    sound = puts_sound upgraded p.0 p.1 has is.back table (put_row (entry_row e) table) saves is.low is.high below.sound;
    free = λ k above. saves.saved k ∙ elim (cases_Bool (p.0 == k)) [
      | inl same ↦ absurd (let e : p.0 ≡ k = (Decides-eqb p.0 k).0 same in omega arith)
      | inr other ↦ ap (λ b. cond b (Some (stored p.0 (columns_for upgraded p.1))) (found_at table k)) other ∙ below.free k (omega arith)
    ];
  }

  has_row : (k : ℕ) → saved_at upgraded (put_row (entry_row e) table) k ≡ cond (k == p.0) p.1 (saved_at upgraded table k)
  has_row = puts_row upgraded p.0 p.1 has is.back table (put_row (entry_row e) table) saves

-- and then the others
module _ (low : ℕ) (p : ℕ × Row) (ps : List (ℕ × Row)) (table mid new : List Columns) (up : low < p.0) (rise : RiseFrom p.0 ps) (below : IsBelow low table)
    (row : (k : ℕ) → saved_at upgraded mid k ≡ cond (k == p.0) p.1 (saved_at upgraded table k)) (more : HasGot p.0 ps mid new) where
  was_kept : (k : ℕ) → k ≤ low → saved_at upgraded new k ≡ saved_at upgraded table k
  was_kept k h = elim (eqb_tells k p.0) [
    | inl same ↦ absurd (let e = same.1 in omega arith)
    | inr other ↦ more.kept k (omega arith) ∙ row k ∙ rw other.0 refl
  ]

  is_same : (k : ℕ) → low < k → saved_at upgraded new k ≡ cond (k == p.0) p.1 (saved_by ps k)
  is_same k h = elim (eqb_tells k p.0) [
    | inl same ↦ more.kept k (let e = same.1 in omega arith) ∙ row k ∙ rw same.0 refl
    | inr other ↦ rw other.0 (elim (leb_tells k p.0) [
      | inl under ↦
          let free : saved_at upgraded table k ≡ blank = ap (λ o. row_or_blank upgraded (option_map (shown_of upgraded) o)) (below.free k h) in
          more.kept k under.1 ∙ row k ∙ rw other.0 free ∙ sym (none_below p.0 ps rise k under.1)
      | inr above ↦ more.same k above.1
    ])
  ]

  has_got : HasGot low (p ∷ ps) table new
  has_got = record { rows = more.rows; sound = more.sound; kept = was_kept; same = is_same }

gets : (items : List (ℕ × Row)) (entries : List EntryColumns) → AreEntriesOf items entries → AllByRecursion (λ (p : ℕ × Row). HasPromise p.1) items
    → (low : ℕ) → RiseFrom low items → (table : List Columns) → IsBelow low table → HasGot low items table (with_entries entries table)
gets [] [] are has low rise table below = record {
  rows = below.rows;
  sound = below.sound;
  kept = λ k h. refl;
  same = λ k h. ap (λ o. row_or_blank upgraded (option_map (shown_of upgraded) o)) (below.free k h);
}
gets [] (e ∷ es) are has low rise table below = absurd are
gets (p ∷ ps) [] are has low rise table below = absurd are
gets (p ∷ ps) (e ∷ es) are has low rise table below =
    let mid = put_row (entry_row e) table in
    has_got low p ps table mid (with_entries es mid) rise.0 rise.1 below (has_row low p e are.0 has.0 rise.0 table below)
    (gets ps es are.1 has.1 p.0 rise.1 mid (still_below low p e are.0 has.0 rise.0 table below))

none_yet : IsBelow 0 []
none_yet = record { rows = record { keyed = tt; once = λ n. refl }; sound = λ n c e. absurd cc; free = λ k h. refl }

pub moves : (items : List (ℕ × Row)) (entries : List EntryColumns) → AreEntriesOf items entries → MovesMap items entries
moves items entries are saved list =
    let got = gets items entries are list.promised 0 list.rise [] none_yet in
    record {
      rows = got.rows;
      sound = got.sound;
      same = λ n. at n got (leb_tells n 0) ∙ list.same n;
    }
  where
    at : (n : ℕ) → HasGot 0 items [] (with_entries entries []) → ((nat_le n 0 ≡ true) × (n ≤ 0)) ⊎ ((nat_le n 0 ≡ false) × (0 < n)) → saved_at upgraded (with_entries entries []) n ≡ saved_by items n
    at n got (inl none) = got.kept n none.1 ∙ sym (none_below 0 items list.rise n none.1)
    at n got (inr some) = got.same n some.1
