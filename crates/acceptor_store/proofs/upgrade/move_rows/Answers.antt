use Rattle.std.proofs.Common.{rules, arith, IsTrue, [], subst, sym}
use Rattle.std.proofs.lemmas.Result.{err_from_is_err_and}
use Rattle.sqlite.specs.Effect.{Database}
use Rattle.sqlite.specs.State.{HasCleanDisk}
use Rattle.sqlite.specs.Held.{state}
use Rattle.rows_table.specs.declared.layout.Layout.TheVariants.{One}
use Rattle.rows_table.specs.Rows.{WasKept}
use Rattle.rows_table.specs.Entries.{with_entries}
use Rattle.rows_saved.specs.Saved.{IsListOf}
use Rattle.acceptor_store.specs.Columns.{saved_in}
use Rattle.acceptor_store.specs.RowsAsEntries.{MovesMap, HoldsMap}
use Rattle.acceptor_store.specs.Sqlite.{Stands, UpgradedRows}
use Rattle.acceptor_store.proofs.StandLemmas.{IsSettled, stands_kept, leaves_now, holds_all}
use Rattle.acceptor_store.proofs.UpgradeLemmas.{ok_after, err_after, over_since, kept_since, left_since}
use Rattle.acceptor_store.proofs.upgrade.move_rows.Goals as goal

pub returns : goal.returns
returns g c = record {
  over = λ i stands clean.
      let old = c.args.conn.now in
      let mid = c.list.new.conn in
      let new = c.move_entries.new.conn in
      let early : HasCleanDisk (state g.S.Store mid) = omega (arith, clean, c.move_entries.ensures.clean) in
      let opened : IsTrue (state g.S.Store mid).is_open = c.in_ok-items.ensures.serving.opened stands.serves early in
      let kept : WasKept (state g.S.Store old) (state g.S.Store mid) = c.list.ensures.serving.same stands.serves early opened in
      let still : Stands g.S.Store One mid i = stands_kept g.S.Store old mid c.list.ensures.serving.clean One i stands c.list.ensures.serving.serves c.list.ensures.serving.same in
      let moves : MovesMap c.in_ok-items.items.items c.in-Ok.entries.items = rw c.as_slice.ensures.value at c.in-Ok.ensures.same_map in
      let listed : IsListOf (saved_in One (state g.S.Store mid).now.trees) c.in_ok-items.items.items =
      subst (λ (d : Database). IsListOf (saved_in One d.trees) c.in_ok-items.items.items) (sym kept.same) (c.in_ok-items.ensures.listed stands.serves early) in
      let map : HoldsMap (saved_in One (state g.S.Store mid).now.trees) (with_entries c.in-Ok.entries.items []) = moves (saved_in One (state g.S.Store mid).now.trees) listed in
      ok_after c.move_entries.result (UpgradedRows g.S.Store One i mid new) (UpgradedRows g.S.Store One i old new) (over_since g.S.Store i old mid new kept)
      ((rw c.as_slice-2.ensures.value at c.move_entries.ensures.over) i still map opened clean);
  kept = λ i stands clean opened.
      let old = c.args.conn.now in
      let mid = c.list.new.conn in
      let new = c.move_entries.new.conn in
      let early : HasCleanDisk (state g.S.Store mid) = omega (arith, clean, c.move_entries.ensures.clean) in
      let still : Stands g.S.Store One mid i = stands_kept g.S.Store old mid c.list.ensures.serving.clean One i stands c.list.ensures.serving.serves c.list.ensures.serving.same in
      err_after c.move_entries.result (WasKept (state g.S.Store mid) (state g.S.Store new)) (WasKept (state g.S.Store old) (state g.S.Store new))
      (kept_since g.S.Store i old mid new (c.list.ensures.serving.same stands.serves early)) (c.move_entries.ensures.kept i still clean opened);
  crash = λ i stands was_open clean db left.
      let old = c.args.conn.now in
      let mid = c.list.new.conn in
      let new = c.move_entries.new.conn in
      let early : HasCleanDisk (state g.S.Store mid) = omega (arith, clean, c.move_entries.ensures.clean) in
      let opened : IsTrue (state g.S.Store mid).is_open = c.in_ok-items.ensures.serving.opened stands.serves early in
      let kept : WasKept (state g.S.Store old) (state g.S.Store mid) = c.list.ensures.serving.same stands.serves early opened in
      let still : Stands g.S.Store One mid i = stands_kept g.S.Store old mid c.list.ensures.serving.clean One i stands c.list.ensures.serving.serves c.list.ensures.serving.same in
      let moves : MovesMap c.in_ok-items.items.items c.in-Ok.entries.items = rw c.as_slice.ensures.value at c.in-Ok.ensures.same_map in
      let listed : IsListOf (saved_in One (state g.S.Store mid).now.trees) c.in_ok-items.items.items =
      subst (λ (d : Database). IsListOf (saved_in One d.trees) c.in_ok-items.items.items) (sym kept.same) (c.in_ok-items.ensures.listed stands.serves early) in
      let map : HoldsMap (saved_in One (state g.S.Store mid).now.trees) (with_entries c.in-Ok.entries.items []) = moves (saved_in One (state g.S.Store mid).now.trees) listed in
      left_since g.S.Store i old mid new kept db ((rw c.as_slice-2.ensures.value at c.move_entries.ensures.crash) i still map opened clean db left);
  clean = search rules;
  refusal = search rules;
}

pub returns-in_err-items : goal.returns-in_err-items
returns-in_err-items g c =
    let p = err_from_is_err_and c.from_residual.result c.from_residual.ensures.1 in
    let reads = c.list.ensures.serving in
    record {
      over = λ i stands clean. rw p.1 tt;
      kept = λ i stands clean opened. rw p.1 (reads.same stands.serves clean opened);
      crash = λ i stands was_open clean db left.
          let old = c.args.conn.now in
          let early : HasCleanDisk (state g.S.Store old) = omega (arith, clean, reads.clean) in
          let law : IsSettled (state g.S.Store old) = λ db. g.met.S.Store.settled old.store db in
          holds_all One i (state g.S.Store old).now.trees db (stands.holds early was_open)
          (leaves_now One (state g.S.Store old) law stands.serves early was_open db (reads.crash stands.serves clean was_open db left));
      clean = reads.clean;
      refusal = search rules;
    }
