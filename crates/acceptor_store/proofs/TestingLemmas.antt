-- What a test found in a listing that it had to the end.
use Rattle.std.proofs.Common.{◌≡◌, ◌&&◌, [], ℤ, Bool, true, false, List, Option, None, Some, Result, Ok, Err, OnOk, IsTrue, refl, sym, ap, subst, ◌∙◌}
use Rattle.std.proofs.lemmas.List.{append-nil}
use Rattle.sqlite_value.specs.Order.{Row as Columns}
use Rattle.sqlite_trees.specs.Tree.{Trees}
use Rattle.rows_table.specs.declared.layout.Layout.{Layout}
use Rattle.rows_table.specs.Tables.{layout_tree}
use Rattle.rows_table.specs.Rows.{IsListing, AreRows}
use Rattle.rows_table.specs.Rising.{rise_from, AreListed}
use Rattle.acceptor_store.specs.Columns.{first_of, damage_in, AreSound}
use Rattle.acceptor_store.specs.declared.row_test.RowTest.{RowTest}
use Rattle.acceptor_store.specs.Sqlite.{Lists}
use Rattle.acceptor_store.specs.Testing.{begun, LeadsTo}
use Rattle.acceptor_store.proofs.ListLemmas.{sound_table}

first_of-none : (a : Option ℤ) → first_of a None ≡ a
first_of-none None = refl
first_of-none (Some z) = refl

and-true : (b : Bool) → (b && true) ≡ b
and-true true = refl
and-true false = refl

module _ (layout : Layout) (test : RowTest) (rows : List Columns) (it : LeadsTo (begun layout) test rows) where
  pub damage_is : damage_in layout rows ≡ test.damage
  damage_is = ap (damage_in layout) (sym (append-nil rows)) ∙ it.damage [] ∙ first_of-none test.damage

  pub rises_is : rise_from None rows ≡ test.rising
  rises_is = ap (rise_from None) (sym (append-nil rows)) ∙ it.rises [] ∙ and-true test.rising

-- a listing without damage, whose numbers rise
pub sound_listing : (layout : Layout) (trees : Trees) (test : RowTest) → ((layout : Layout) (table rows : List Columns) → IsListing layout table rows → rise_from None rows ≡ true → AreListed layout table rows)
    → test.damage ≡ None → test.rising ≡ true → Lists layout trees (LeadsTo (begun layout) test)
    → AreRows (trees (layout_tree layout)) × AreSound layout (trees (layout_tree layout))
sound_listing layout trees test law none rises h =
    let table = trees (layout_tree layout) in
    let rose = rises_is layout test h.0 h.2 ∙ rises in
    let listed = law layout table h.0 h.1 rose in
    (listed.rows, sound_table layout table h.0 listed rose (damage_is layout test h.0 h.2 ∙ none))

-- a test that never has enough had all rows of the listing
pub had_all : (layout : Layout) (trees : Trees) (first test : RowTest) (all : Bool) → first ≡ begun layout → (IsTrue all → Lists layout trees (LeadsTo first test)) → (all ≡ false → ⊥)
    → Lists layout trees (LeadsTo (begun layout) test)
had_all layout trees first test true is listed enough = subst (λ it. Lists layout trees (LeadsTo it test)) is (listed refl)
had_all layout trees first test false is listed enough = absurd (enough refl)

pub on_ok : {V E X Y : Type 0} → (X → Y) → (r : Result V E) → OnOk r X → OnOk r Y
on_ok f (Ok v) x = f x
on_ok f (Err e) x = tt
