use Rattle.std.proofs.Common.{◌≡◌, ◌++◌, ℕ, List, [], append-nil, sym, subst, ◌∙◌}
use Rattle.std.specs.List.{AllByRecursion, filter_map}
use Rattle.std.proofs.lemmas.List.{at_drop_all}
use Rattle.protocol.specs.Rows.{Row}
use Rattle.rows_saved.specs.Saved.{HasPromise, AreFitting}
use Rattle.acceptor_store.specs.Columns.{version_in, item_in}
use Rattle.acceptor_store.proofs.FitLemmas.{items_fit, items_promise}
use Rattle.acceptor_store.proofs.columns.items_in.Goals as goal

all_read : (items rest all : List (ℕ × Row)) → rest ≡ [] → items ++ rest ≡ all → items ≡ all
all_read items rest all none e = sym (append-nil items) ∙ subst (λ l. items ++ l ≡ all) none e

pub returns-clause-promised : goal.returns-clause-promised
returns-clause-promised c =
    let item = item_in c.args.layout in
    let rows = c.args.rows.now in
    let none = at_drop_all (filter_map item) rows c.loop-row.row-index c.loop-row-test.false in
    subst (AllByRecursion (λ (p : ℕ × Row). HasPromise p.1)) (sym (all_read c.loop-row.items.items _ (filter_map item rows) none c.loop-row.invariant)) (items_promise c.args.layout rows)

pub returns-clause-fits : goal.returns-clause-fits
returns-clause-fits c =
    let item = item_in c.args.layout in
    let rows = c.args.rows.now in
    let none = at_drop_all (filter_map item) rows c.loop-row.row-index c.loop-row-test.false in
    subst (AreFitting (version_in c.args.layout)) (sym (all_read c.loop-row.items.items _ (filter_map item rows) none c.loop-row.invariant)) (items_fit c.args.layout rows)
