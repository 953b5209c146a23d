-- Rows that go on are at rest.
use Rattle.std.proofs.Common.{◌≡◌, ◌<◌, sym, ap, subst, ◌∙◌}
use Rattle.sqlite_trees.specs.declared.store.Store.{Ghosts}
use Rattle.sqlite_trees.specs.Tree.{Trees}
use Rattle.sqlite.specs.Held.{state}
use Rattle.rows_table.specs.declared.layout.Layout.{Layout}
use Rattle.rows_saved.specs.Saved.{Saved}
use Rattle.rows_saved.specs.Identity.{IsIdentity}
use Rattle.rows_saved.specs.declared.identity.Identity.{Identity}
use Rattle.acceptor_store.specs.Columns.{saved_in}
use Rattle.acceptor_store.specs.Sqlite.{SqliteOf, HoldsNoRow, IsAtRest, IsKept, IsOfStation, IsOpen, LeavesNoRow, Stands}
use Rattle.acceptor_store.proofs.StandLemmas.{IsSettled, leaves_now, made_holds, none_saved}

-- a crash leaves what there is, where the connection is open and stands on the tables of the station
pub rests : {S : Type 0} (g : Ghosts S) (s : SqliteOf S) → IsSettled (state g s.conn) → Stands g s.layout s.conn s.identity → IsKept g s → IsOpen g s → IsAtRest g s
rests g s law stands kept opened =
    let now = leaves_now s.layout (state g s.conn) law stands.serves kept.0 opened in
    record {
      is_open = opened;
      station = λ db may. subst (IsOfStation s.layout s.identity) (sym (now db may)) (stands.holds kept.0 opened);
      rows = λ left may n. ap (λ (m : Saved). m n) may.2 ∙ ap (λ (t : Trees). saved_in s.layout t n) (now may.0 may.1);
    }

-- so are rows whose tables were just made
pub made_rests : {S : Type 0} (g : Ghosts S) (s : SqliteOf S) (layout : Layout) (i : Identity) → IsIdentity i → i.circuit < 65536 → s.layout ≡ layout → s.identity ≡ i
    → IsOpen g s → HoldsNoRow g s → LeavesNoRow g layout i s → IsAtRest g s
made_rests g s layout i is small laid same opened blank leaves = record {
  is_open = opened;
  station = λ db may.
      let none = leaves db may in
      subst (λ (l : Layout). IsOfStation l s.identity db) (sym laid)
      (subst (λ (j : Identity). IsOfStation layout j db) (sym same) (record { tables = none.tables; holds = made_holds layout i db is small none }));
  rows = λ left may n.
      let none = leaves may.0 may.1 in
      ap (λ (m : Saved). m n) may.2 ∙ ap (λ (l : Layout). saved_in l may.0 n) laid ∙ none_saved layout i.circuit i.member i.members may.0 none n ∙ sym (blank n);
}
