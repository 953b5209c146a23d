use Rattle.std.proofs.Common.{◌≡◌, ◌≤◌, ◌+◌, ◌++◌, ℕ, List, [], ◌∷◌, length, drop, drop-cons, add-one, append-nil, append_assoc, sym, ap₂, subst, ◌∙◌}
use Rattle.std.specs.List.{AllByRecursion}
use Rattle.std.proofs.lemmas.List.{drop_all}
use Rattle.rows_table.specs.declared.layout.LayoutOrigin.TheVariants.{Upgraded}
use Rattle.rows_table.specs.Rows.{stored}
use Rattle.rows_table.specs.declared.entry_table.EntryColumns.{EntryColumns}
use Rattle.protocol.specs.Rows.{Row}
use Rattle.rows_saved.specs.Saved.{HasPromise}
use Rattle.acceptor_store.specs.RowsAsEntries.{IsEntryOf, AreEntriesOf}
use Rattle.acceptor_store.proofs.RowsAsEntriesLemmas.{moves}
use Rattle.acceptor_store.proofs.rows_as_entries.entries_for.Goals as goal

module _ (items : List (ℕ × Row)) (made : List EntryColumns) where
  abbrev MakesAll : List (ℕ × Row) → List EntryColumns → Type 0
  MakesAll left made = (rest : List EntryColumns) → AreEntriesOf left rest → AreEntriesOf items (made ++ rest)

  all_made : (i : ℕ) → length items ≤ i → MakesAll (drop i items) made → AreEntriesOf items made
  all_made i over more = subst (AreEntriesOf items) (append-nil made) (more [] (subst (λ l. AreEntriesOf l []) (sym (drop_all i items over)) tt))

  one_more : (item : ℕ × Row) (left : List (ℕ × Row)) (entry : EntryColumns) → IsEntryOf item entry → MakesAll (item ∷ left) made → MakesAll left (made ++ entry ∷ [])
  one_more item left entry is more rest are = subst (AreEntriesOf items) (sym (append_assoc made (entry ∷ []) rest)) (more (entry ∷ rest) (is, are))

pub loop-number-preserved : goal.loop-number-preserved
loop-number-preserved c =
    let items = c.args.items.now in
    let i = c.loop-number.number-index in
    let item = c.loop-number-item.result in
    let entry = c.in_ok-entry.entry in
    let split : drop i items ≡ item ∷ drop (i + 1) items = drop-cons items i item c.loop-number-test.true ∙ ap₂ (λ x n. x ∷ drop n items) (sym c.loop-number-item.is) (sym (add-one i)) in
    let invariant = subst (λ l. AllByRecursion (λ (p : ℕ × Row). HasPromise p.1) l × ((rest : List EntryColumns) → AreEntriesOf l rest → AreEntriesOf items (c.loop-number.entries.items ++ rest))) split c.loop-number.invariant in
    let is : IsEntryOf item entry = record {
      low = c.entry_columns_for.ensures.low;
      high = c.entry_columns_for.ensures.high;
      columns = ap₂ stored c.in_ok-entry.ensures.number (c.in_ok-entry.ensures.columns Upgraded);
      back = c.in_ok-entry.ensures.back Upgraded;
    } in (
      invariant.0.1,
      subst (λ made. (rest : List EntryColumns) → AreEntriesOf (drop (i + 1) items) rest → AreEntriesOf items (made ++ rest)) (sym c.in_ok-push.ensures.items)
          (one_more items c.loop-number.entries.items item (drop (i + 1) items) entry is invariant.1),
    )

pub returns-clause-entries : goal.returns-clause-entries
returns-clause-entries c = all_made c.args.items.now c.loop-number.entries.items c.loop-number.number-index c.loop-number-test.false c.loop-number.invariant.1

pub returns-clause-same_map : goal.returns-clause-same_map
returns-clause-same_map c = moves c.args.items.now c.loop-number.entries.items (returns-clause-entries c)
