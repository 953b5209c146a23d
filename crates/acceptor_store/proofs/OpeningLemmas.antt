-- Why a database is not taken up.
use Rattle.std.proofs.Common.{◌≡◌, ℕ, Option, Some, Result, Ok, Err, IfErr, inl, inr, sym, ap, ◌∙◌}
use Rattle.rows_table.specs.declared.layout.Layout.{Layout}
use Rattle.rows_table.specs.Tables.{layout_number}
use Rattle.sqlite_trees.specs.Tree.{Trees}
use Rattle.rows_saved.specs.declared.identity.Identity.{Identity}
use Rattle.rows_saved.specs.declared.fault.RowsFault.{RowsFault}
use Rattle.rows_saved.specs.declared.fault.RowsFault.TheVariants.{Store, WrongStation, WrongSchema, Damaged, OutOfMemory}
use Rattle.acceptor_store.specs.StationRow.{stored_station, IsStationOf, Agrees, RefusesStation}
use Rattle.acceptor_store.specs.Sqlite.{RefusesRows, RefusesToOpen}

module _ (layout : Layout) (trees : Trees) (stored : ℕ × Identity) (is : stored_station trees ≡ Some stored) where
  same_number : (n : ℕ) (i : Identity) → Some stored ≡ Some (n, i) → stored.0 ≡ n
  same_number n i e = let same : stored ≡ (n, i) = cc in ap (λ (p : ℕ × Identity). p.0) same

  -- why the station that is stored is not taken up is a reason not to open
  refused : (given : Option Identity) (fault : RowsFault) → RefusesStation layout given stored fault → RefusesToOpen layout given trees fault
  refused given Store refuses = tt
  refused given OutOfMemory refuses = tt
  refused given WrongSchema refuses = inl (λ i of. refuses (same_number (layout_number layout) i (sym is ∙ of)))
  refused given WrongStation refuses = (stored.1, refuses.1, is ∙ ap (λ n. Some (n, stored.1)) refuses.0, refuses.2, refuses.3)
  refused given (Damaged number) refuses = absurd refuses

  pub refuses_station : (given : Option Identity) (r : Result Identity RowsFault) → IfErr r (RefusesStation layout given stored) → IfErr r (RefusesToOpen layout given trees)
  refuses_station given (Ok i) refuses = tt
  refuses_station given (Err fault) refuses = refused given fault refuses

-- rows of the station that was given, which are not taken up for a reason of their own, are a reason not to open
pub refuses_to_open : (layout : Layout) (given : Option Identity) (trees : Trees) (i : Identity) (fault : RowsFault) → IsStationOf layout i trees → Agrees given i → RefusesRows layout trees fault → RefusesToOpen layout given trees fault
refuses_to_open layout given trees i Store is agrees refuses = tt
refuses_to_open layout given trees i OutOfMemory is agrees refuses = tt
refuses_to_open layout given trees i WrongSchema is agrees refuses = inr refuses
refuses_to_open layout given trees i WrongStation is agrees refuses = absurd refuses
refuses_to_open layout given trees i (Damaged number) is agrees refuses = (i, is, agrees, refuses)
