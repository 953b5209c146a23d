use Rattle.std.proofs.Common.{rules, ◌≡◌, ◌+◌, ℕ, suc, Some, sym, ap, subst, ◌∙◌, arith}
use Rattle.std.specs.Prelude.{slice_get, take}
use Rattle.std.proofs.lemmas.List.{take_all}
use Rattle.std.proofs.lemmas.Option.{slice_get-get_or}
use Rattle.protocol.specs.Rows.{Row}
use Rattle.rows_saved.specs.Saved.{RowFits}
use Rattle.rows_saved.specs.Groups.{WithAll}
use Rattle.rows_saved.proofs.GroupLemmas.{SoFar, none_yet, next_left, one_in, take_more, all_at, on_err}
use Rattle.rows_saved.proofs.saves_all.put_each.Goals as goal

pub loop-item-init : goal.loop-item-init
loop-item-init g c = none_yet g.R.Rows c.args.items.now c.args.rows.now

pub put-requires-clause-fits : goal.put-requires-clause-fits
put-requires-clause-fits g c =
    let at : slice_get c.args.items.now c.loop-item.item-index ≡ Some c.item-item.result = slice_get-get_or c.args.items.now c.loop-item.item-index c.item-item.result c.loop-item-test.true ∙ ap Some (sym c.item-item.is) in
    subst (λ v. RowFits v c.item-item.result.1) (sym c.loop-item.invariant.version)
    (all_at (λ (p : ℕ × Row). RowFits (g.R.Rows.version c.args.rows.now) p.1) c.args.items.now c.loop-item.item-index c.item-item.result at c.requires.fits)

pub returns-in_err-put : goal.returns-in_err-put
returns-in_err-put g c = record {
  rows = search rules;
  opened = search rules;
  version = c.put.ensures.version ∙ c.loop-item.invariant.version;
  first = (λ kept.
      let items = c.args.items.now in
      let i = c.loop-item.item-index in
      let at : slice_get items i ≡ Some c.item-item.result = slice_get-get_or items i c.item-item.result c.loop-item-test.true ∙ ap Some (sym c.item-item.is) in
      on_err c.from_residual.result (next_left g.R.Rows items i c.item-item.result c.args.rows.now c.loop-item.rows c.put.new.self at c.loop-item.invariant
      (c.put.ensures.answered.call.was_kept kept) (c.in_err-put.ensures.either kept) c.loop-item-test.true));
  call = record {
    cause = search rules;
    counts = omega (arith, c.put.ensures.answered.call.counts, c.loop-item.invariant.counts);
    stay_made = λ made. c.put.ensures.answered.call.stay_made (c.loop-item.invariant.made made);
    was_kept = λ kept. c.loop-item.invariant.was_kept (c.put.ensures.answered.call.was_kept kept);
    was_open = λ kept opened. c.loop-item.invariant.was_open (c.put.ensures.answered.call.was_kept kept) (c.put.ensures.answered.call.was_open kept opened);
  };
}

pub loop-item-preserved : goal.loop-item-preserved
loop-item-preserved g c =
    let items = c.args.items.now in
    let i = c.loop-item.item-index in
    let item = c.item-item.result in
    let h = c.loop-item.invariant in
    let x = g.R.Rows in
    let at : slice_get items i ≡ Some item = slice_get-get_or items i item c.loop-item-test.true ∙ ap Some (sym c.item-item.is) in
    let next : suc i ≡ i + 1 = omega arith in
    subst (λ (k : ℕ). SoFar x items k c.args.rows.now c.put.new.self) next (record {
      saved = λ kept. subst (λ l. WithAll (x.saved c.args.rows.now) l (x.saved c.put.new.self)) (sym (take_more items i item at))
          (one_in (take i items) (x.saved c.args.rows.now) (x.saved c.loop-item.rows) (x.saved c.put.new.self) item.0 item.1 (h.saved (c.put.ensures.answered.call.was_kept kept)) (c.in_ok-put.ensures.row kept));
      opened = λ kept o. c.in_ok-put.ensures.answered.opened kept;
      version = c.put.ensures.version ∙ h.version;
      counts = omega (arith, c.put.ensures.answered.call.counts, h.counts);
      made = λ m. c.put.ensures.answered.call.stay_made (h.made m);
      was_kept = λ kept. h.was_kept (c.put.ensures.answered.call.was_kept kept);
      was_open = λ kept o. h.was_open (c.put.ensures.answered.call.was_kept kept) (c.put.ensures.answered.call.was_open kept o);
    })

pub returns : goal.returns
returns g c = record {
  rows = λ kept.
      subst (λ l. WithAll (g.R.Rows.saved c.args.rows.now) l (g.R.Rows.saved c.loop-item.rows)) (take_all c.loop-item.item-index c.args.items.now c.loop-item-test.false) (c.loop-item.invariant.saved kept);
  opened = c.loop-item.invariant.opened;
  version = c.loop-item.invariant.version;
  first = λ kept. tt;
  call = record {
    cause = tt;
    counts = c.loop-item.invariant.counts;
    stay_made = c.loop-item.invariant.made;
    was_kept = c.loop-item.invariant.was_kept;
    was_open = c.loop-item.invariant.was_open;
  };
}
