-- A table after a save: it has the row, and those that it had.
use Rattle.std.proofs.Common.{◌≡◌, ◌≢◌, ◌≤◌, ◌==◌, ℕ, Bool, true, false, cond, List, Option, Some, None, option_map, unwrap_or, true≢false, IsSome, refl, sym, ap, subst, ◌∙◌, arith}
use Rattle.std.proofs.lemmas.Bool.Decides.{Decides-eqb, same_from_decides}
use Rattle.sqlite_value.specs.Order.{Row as Columns}
use Rattle.sqlite_trees.specs.Tree.{Trees}
use Rattle.rows_table.specs.declared.layout.Layout.{Layout}
use Rattle.rows_table.specs.Tables.{station_tree, layout_tree}
use Rattle.rows_table.specs.declared.layout.Layout.TheVariants.{One, Two}
use Rattle.rows_table.specs.declared.layout.LayoutOrigin.TheVariants.{Created, Upgraded}
use Rattle.rows_table.specs.Rows.{stored, found_at, columns_at, shown_of, Saves, SavesIn}
use Rattle.protocol.specs.Ballots.{Ballot}
use Rattle.protocol.specs.Rows.{Vote, Row, blank}
use Rattle.rows_saved.specs.Saved.{WithRow}
use Rattle.acceptor_store.specs.Columns.{row_in, columns_with, columns_for, row_or_blank, saved_at, saved_in, ComesBack, IsSound, AreSound}

flip : (a b : ℕ) → (a == b) ≡ (b == a)
flip a b = same_from_decides {P = a ≡ b} (a == b) (b == a) (Decides-eqb a b) ((λ t. sym ((Decides-eqb b a).0 t)), (λ e. (Decides-eqb b a).1 (sym e)))

shown_stored : (layout : Layout) (n : ℕ) (promised : Option Ballot) (vote : Option Vote) → IsSome promised → shown_of layout (stored n (columns_with layout promised vote)) ≡ columns_with layout promised vote
shown_stored One n None vote has = absurd (true≢false (sym has))
shown_stored One n (Some p) vote has = refl
shown_stored (Two origin) n None vote has = absurd (true≢false (sym has))
shown_stored (Two origin) n (Some p) vote has = refl

module _ (layout : Layout) (n : ℕ) (row : Row) (has : IsSome row.promised) (back : ComesBack layout row) where
  shown : shown_of layout (stored n (columns_for layout row)) ≡ columns_for layout row
  shown = shown_stored layout n row.promised row.vote has

  -- a table that a row is put into
  module _ (old new : List Columns) (h : Saves n (columns_for layout row) old new) where
    found : (k : ℕ) → columns_at layout new k ≡ option_map (shown_of layout) (cond (n == k) (Some (stored n (columns_for layout row))) (found_at old k))
    found k = ap (option_map (shown_of layout)) (h.saved k)

    -- the table has this row, and the others
    pub puts_row : WithRow (saved_at layout old) n row (saved_at layout new)
    puts_row k = ap (row_or_blank layout) (found k) ∙ pick (n == k) ∙ ap (λ b. cond b row (saved_at layout old k)) (flip n k)
      where
        pick : (b : Bool) → row_or_blank layout (option_map (shown_of layout) (cond b (Some (stored n (columns_for layout row))) (found_at old k))) ≡ cond b row (saved_at layout old k)
        pick true = ap (λ c. unwrap_or (row_in layout 0 c) blank) shown ∙ ap (λ o. unwrap_or o blank) back
        pick false = refl

    -- and they are sound
    pub puts_sound : 1 ≤ n → n ≤ 999999 → AreSound layout old → AreSound layout new
    puts_sound low high sound k c is = at (n == k) refl (sym (found k) ∙ is)
      where
        at : (b : Bool) → (n == k) ≡ b → option_map (shown_of layout) (cond b (Some (stored n (columns_for layout row))) (found_at old k)) ≡ Some c → IsSound layout k c
        at true same e =
            let key : n ≡ k = (Decides-eqb n k).0 same in
            let these : shown_of layout (stored n (columns_for layout row)) ≡ c = cc in
            let read : row_in layout 0 c ≡ Some row = ap (row_in layout 0) (sym these ∙ shown) ∙ back in
            record { low = subst (λ m. 1 ≤ m) key low; high = subst (λ m. m ≤ 999999) key high; row = rw read refl }
        at false same e = sound k c e

-- the station's table is another than that of the rows
station_apart : (layout : Layout) → station_tree ≢ layout_tree layout
station_apart One e = absurd (omega (arith, e))
station_apart (Two Created) e = absurd (omega (arith, e))
station_apart (Two Upgraded) e = absurd (omega (arith, e))

-- a database that a row is saved in
module _ (layout : Layout) (old new : Trees) (n : ℕ) (row : Row) (has : IsSome row.promised) (back : ComesBack layout row) (h : SavesIn layout n (columns_for layout row) old new) where
  pub saves_row : WithRow (saved_in layout old) n row (saved_in layout new)
  saves_row = puts_row layout n row has back (old (layout_tree layout)) (new (layout_tree layout)) h.rows

  pub stays_sound : 1 ≤ n → n ≤ 999999 → AreSound layout (old (layout_tree layout)) → AreSound layout (new (layout_tree layout))
  stays_sound = puts_sound layout n row has back (old (layout_tree layout)) (new (layout_tree layout)) h.rows

  -- the station is as it was
  pub stays_station : new station_tree ≡ old station_tree
  stays_station = h.others station_tree (station_apart layout)
