use Rattle.std.proofs.Common.{rules, ◌∙◌, refl, sym, ap, Some, arith}
use Rattle.std.proofs.lemmas.Option.{slice_get-get_or}
use Rattle.sqlite.specs.State.{HasCleanDisk}
use Rattle.sqlite.specs.Held.{state}
use Rattle.rows_table.proofs.AddingLemmas.{none_added, one_added, all_added, survives_both, kept_then}
use Rattle.rows_table.proofs.entry_table.add_entries.Goals as goal

pub loop-entry-init : goal.loop-entry-init
loop-entry-init g c = (refl, none_added c.args.entries.now (state g.S.Store c.args.tx.now.conn.now))

pub returns-in_err-add_entry : goal.returns-in_err-add_entry
returns-in_err-add_entry g c =
    let h = c.loop-entry.invariant.1 in
    let adds = c.add_entry.ensures in
    record {
      same_reference = adds.same_reference ∙ c.loop-entry.invariant.0;
      done = λ clean. search rules;
      inside = λ clean begun. search rules;
      kept = λ clean begun.
          let early : HasCleanDisk (state g.S.Store c.loop-entry.tx.conn.now) = omega (arith, adds.survives.clean, clean) in
          kept_then _ _ _ (h.kept early begun) (adds.kept clean (h.inside early begun));
      survives = survives_both _ _ _ h.survives adds.survives;
    }

pub loop-entry-preserved : goal.loop-entry-preserved
loop-entry-preserved g c = (
  c.add_entry.ensures.same_reference ∙ c.loop-entry.invariant.0,
  one_added c.args.entries.now c.loop-entry.entry-index c.entry-item.result _ _ _ (slice_get-get_or c.args.entries.now c.loop-entry.entry-index c.entry-item.result c.loop-entry-test.true ∙ ap Some (sym c.entry-item.is)) c.loop-entry.invariant.1 c.in_ok-add_entry.ensures.survives c.in_ok-add_entry.ensures.done c.in_ok-add_entry.ensures.inside c.in_ok-add_entry.ensures.kept,
)

pub returns : goal.returns
returns g c =
    let h = c.loop-entry.invariant.1 in
    record {
      same_reference = c.loop-entry.invariant.0;
      done = λ clean origin before rows had. all_added c.args.entries.now c.loop-entry.entry-index _ _ (omega (arith, c.loop-entry-test.false)) h clean origin before rows had;
      inside = h.inside;
      kept = h.kept;
      survives = h.survives;
    }
