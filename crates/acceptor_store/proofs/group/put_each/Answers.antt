use Rattle.std.proofs.Common.{rules, ◌≡◌, Some, sym, ap, ◌∙◌, arith}
use Rattle.std.specs.Prelude.{slice_get}
use Rattle.std.proofs.lemmas.Option.{slice_get-get_or}
use Rattle.std.proofs.lemmas.Result.{err_from_is_err_and}
use Rattle.sqlite.specs.State.{HasCleanDisk}
use Rattle.sqlite.specs.Held.{state}
use Rattle.acceptor_store.proofs.GroupLemmas.{one_staged, all_staged}
use Rattle.rows_table.proofs.AddingLemmas.{kept_then, survives_both}
use Rattle.acceptor_store.proofs.group.put_each.Goals as goal

pub loop-item-preserved : goal.loop-item-preserved
loop-item-preserved g c =
    let items = c.args.items.now in
    let i = c.loop-item.item-index in
    let item = c.item-item.result in
    let at : slice_get items i ≡ Some item = slice_get-get_or items i item c.loop-item-test.true ∙ ap Some (sym c.item-item.is) in (
      c.put_in.ensures.acts.same_reference ∙ c.loop-item.invariant.0,
      one_staged c.args.layout items i item (state g.S.Store c.args.tx.now.conn.now) (state g.S.Store c.loop-item.tx.conn.now) (state g.S.Store c.put_in.new.tx.conn.now) at
          c.loop-item.invariant.1 c.in_ok-put_in.ensures.acts.survives c.in_ok-put_in.ensures.acts.done c.in_ok-put_in.ensures.acts.inside c.in_ok-put_in.ensures.acts.kept,
    )

pub returns-in_err-put_in : goal.returns-in_err-put_in
returns-in_err-put_in g c =
    let h = c.loop-item.invariant.1 in
    let puts = c.put_in.ensures.acts in
    let p = err_from_is_err_and c.from_residual.result c.from_residual.ensures.1 in
    record {
      acts = record {
        same_reference = puts.same_reference ∙ c.loop-item.invariant.0;
        done = λ clean. rw p.1 tt;
        inside = λ clean begun. rw p.1 tt;
        kept = λ clean begun.
            let early : HasCleanDisk (state g.S.Store c.loop-item.tx.conn.now) = omega (arith, puts.survives.clean, clean) in
            kept_then _ _ _ (h.kept early begun) (puts.kept clean (h.inside early begun));
        survives = survives_both _ _ _ h.survives puts.survives;
      };
      refusal = search rules;
    }

pub returns : goal.returns
returns g c =
    let h = c.loop-item.invariant.1 in
    record {
      acts = record {
        same_reference = c.loop-item.invariant.0;
        done = λ clean is. all_staged c.args.layout c.args.items.now c.loop-item.item-index _ _ (omega (arith, c.loop-item-test.false)) h clean is;
        inside = h.inside;
        kept = h.kept;
        survives = h.survives;
      };
      refusal = tt;
    }
