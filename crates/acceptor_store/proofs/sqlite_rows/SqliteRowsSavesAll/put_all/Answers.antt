use Rattle.std.proofs.Common.{rules, ◌≡◌, false, inl, inr, true≢false, sym, ap, ◌∙◌, subst}
use Rattle.sqlite.specs.Held.{state}
use Rattle.std.proofs.lemmas.Bool.{cases_Bool}
use Rattle.rows_saved.specs.Groups.{IsAllOrNone}
use Rattle.acceptor_store.specs.Columns.{saved_in}
use Rattle.acceptor_store.specs.Sqlite.{Stands}
use Rattle.acceptor_store.proofs.StandLemmas.{same_rows, was_clean}
use Rattle.acceptor_store.proofs.GroupLemmas.{each_saved, some_left, left_all_or_none, left_of_station, stands_each}
use Rattle.acceptor_store.proofs.sqlite_rows.SqliteRowsSavesAll.put_all.Goals as goal

pub invariant_of-self-in-Ok : goal.invariant_of-self-in-Ok
invariant_of-self-in-Ok g c = (
  c.self.invariant.0,
  λ running ours.
      let layout = c.self.inside.layout in
      let stands : Stands g.S.Store layout c.self.inside.conn c.self.inside.identity = c.self.invariant.1 running ours in
      let old = state g.S.Store c.self.inside.conn in
      let new = state g.S.Store c.save_all.new.conn in
      let items = c.args.items.now in
      (stands_each g.S.Store c.self.inside.conn c.save_all.new.conn c.save_all.ensures.clean layout c.self.inside.identity items stands
      c.save_all.ensures.serves c.in-Ok.ensures.saved),
)

pub returns-in-Ok-clause-puts : goal.returns-in-Ok-clause-puts
returns-in-Ok-clause-puts g c = record {
  rows = rw (← c.self.view_is) (λ kept n.
      let running : c.self.inside.stopped ≡ false = search rules in
      let layout = c.self.inside.layout in
      let stands : Stands g.S.Store layout c.self.inside.conn c.self.inside.identity = c.self.invariant.1 running kept.1 in
      let old = state g.S.Store c.self.inside.conn in
      let new = state g.S.Store c.save_all.new.conn in
      let items = c.args.items.now in
      (each_saved layout items old.now.trees new.now.trees (c.in-Ok.ensures.saved stands.serves kept.0).puts) n);
  opened = search rules;
  version = search rules;
  first = λ kept. tt;
  call = record {
    cause = search rules;
    counts = search rules;
    stay_made = search rules;
    was_kept = search rules;
    was_open = search rules;
  };
}

pub returns-in-Ok-clause-stores : goal.returns-in-Ok-clause-stores
returns-in-Ok-clause-stores g c = (
  search rules,
  search rules,
  rw (← c.self.view_is) (λ kept left may n.
      let running : c.self.inside.stopped ≡ false = search rules in
      let layout = c.self.inside.layout in
      let stands : Stands g.S.Store layout c.self.inside.conn c.self.inside.identity = c.self.invariant.1 running kept.1 in
      let old = state g.S.Store c.self.inside.conn in
      let new = state g.S.Store c.save_all.new.conn in
      let items = c.args.items.now in
      let saved = c.in-Ok.ensures.saved stands.serves kept.0 in
      ap (λ m. m n) may.2 ∙ ap (λ t. saved_in layout t n) (saved.crash may.0 may.1)
      ∙ (each_saved layout items old.now.trees new.now.trees saved.puts) n),
)

pub returns-in-Ok-clause-leaves : goal.returns-in-Ok-clause-leaves
returns-in-Ok-clause-leaves g c = (
  search rules,
  search rules,
  rw (← c.self.view_is) (λ kept. (
    λ opened running left may.
        let layout = c.self.inside.layout in
        let stands : Stands g.S.Store layout c.self.inside.conn c.self.inside.identity = c.self.invariant.1 running kept.1 in
        let old = state g.S.Store c.self.inside.conn in
        let new = state g.S.Store c.save_all.new.conn in
        let items = c.args.items.now in
        let here : IsAllOrNone (saved_in layout old.now.trees) items (saved_in layout may.0) =
        (left_all_or_none layout items old.now.trees may.0 (c.save_all.ensures.crash stands.serves kept.0 opened may.0 may.1)) in
        subst (IsAllOrNone (saved_in layout old.now.trees) items) (sym may.2) here,
    λ opened running left may.
        let layout = c.self.inside.layout in
        let stands : Stands g.S.Store layout c.self.inside.conn c.self.inside.identity = c.self.invariant.1 running kept.1 in
        let old = state g.S.Store c.self.inside.conn in
        let new = state g.S.Store c.save_all.new.conn in
        let items = c.args.items.now in
        (left_of_station layout c.self.inside.identity items old.now.trees left
        (stands.holds (was_clean old new c.save_all.ensures.clean kept.0) opened) (c.save_all.ensures.crash stands.serves kept.0 opened left may)),
  )),
)

pub returns-in-Err-clause-leaves : goal.returns-in-Err-clause-leaves
returns-in-Err-clause-leaves g c = (
  search rules,
  search rules,
  rw (← c.self.view_is) (λ kept. (
    λ opened running left may.
        let layout = c.self.inside.layout in
        let stands : Stands g.S.Store layout c.self.inside.conn c.self.inside.identity = c.self.invariant.1 running kept.1 in
        let old = state g.S.Store c.self.inside.conn in
        let new = state g.S.Store c.save_all.new.conn in
        let items = c.args.items.now in
        let here : IsAllOrNone (saved_in layout old.now.trees) items (saved_in layout may.0) =
        (left_all_or_none layout items old.now.trees may.0 (c.save_all.ensures.crash stands.serves kept.0 opened may.0 may.1)) in
        subst (IsAllOrNone (saved_in layout old.now.trees) items) (sym may.2) here,
    λ opened running left may.
        let layout = c.self.inside.layout in
        let stands : Stands g.S.Store layout c.self.inside.conn c.self.inside.identity = c.self.invariant.1 running kept.1 in
        let old = state g.S.Store c.self.inside.conn in
        let new = state g.S.Store c.save_all.new.conn in
        let items = c.args.items.now in
        (left_of_station layout c.self.inside.identity items old.now.trees left
        (stands.holds (was_clean old new c.save_all.ensures.clean kept.0) opened) (c.save_all.ensures.crash stands.serves kept.0 opened left may)),
  )),
)

pub returns-in-Err-clause-all_or_none : goal.returns-in-Err-clause-all_or_none
returns-in-Err-clause-all_or_none g c = rw (← c.self.view_is) (λ kept.
    let running : c.self.inside.stopped ≡ false = search rules in
    let layout = c.self.inside.layout in
    let stands : Stands g.S.Store layout c.self.inside.conn c.self.inside.identity = c.self.invariant.1 running kept.1 in
    let old = state g.S.Store c.self.inside.conn in
    let new = state g.S.Store c.save_all.new.conn in
    let items = c.args.items.now in
    elim (cases_Bool new.is_open) [
      | inl opened ↦ inr (inl (same_rows layout old new (c.in-Err.ensures.err stands.serves kept.0 opened).same))
      | inr shut ↦ inl (λ opened. true≢false (sym opened ∙ shut))
    ])

pub returns-in-Err-clause-puts : goal.returns-in-Err-clause-puts
returns-in-Err-clause-puts g c = record {
  rows = λ kept. tt;
  opened = λ kept was_open. tt;
  version = search rules;
  first = λ kept. some_left c.args.items.now _ _ (returns-in-Err-clause-all_or_none g c kept);
  call = record {
    cause = search rules;
    counts = search rules;
    stay_made = search rules;
    was_kept = search rules;
    was_open = search rules;
  };
}
